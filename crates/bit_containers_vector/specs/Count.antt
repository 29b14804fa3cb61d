-- How many words some bits take.
use Rattle.std.specs.Prelude.{ℕ}
use Rattle.std.specs.Int.{div_ceil}

-- so many words of b bits
abbrev pub words_for : ℕ → ℕ → ℕ
words_for b bits = div_ceil bits b
