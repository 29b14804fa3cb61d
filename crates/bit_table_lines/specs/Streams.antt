-- Bytes that went out in part.
use Rattle.std.specs.Prelude.{◌≡◌, ℕ, ◌<◌, List, ◌++◌, length, Option}
use Rattle.std.specs.Io.KnownBytes.{Appends}

-- front is a beginning of whole, and not all of it
pub record IsProperBeginning (front whole : List ℕ) : Type 0 where
  pub rest : List ℕ
  pub joined : whole ≡ front ++ rest
  pub proper : 0 < length rest

-- known bytes grew by a proper beginning of whole
pub record AppendsPart (old new : Option (List ℕ)) (whole : List ℕ) : Type 0 where
  pub bytes : List ℕ
  pub appended : Appends old new bytes
  pub beginning : IsProperBeginning bytes whole
