-- A list so many times.
use Rattle.std.specs.Prelude.{ℕ, zero, suc, ◌++◌, Bool, List, []}

-- the list n times, one after the other
abbrev pub repeated : ℕ → List Bool → List Bool
repeated zero xs = []
repeated (suc n) xs = repeated n xs ++ xs
