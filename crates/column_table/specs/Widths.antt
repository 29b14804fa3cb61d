-- The narrowest field of a column.
use Rattle.std.specs.Prelude.{◌≡◌, ℕ, ◌≤◌, ◌<◌, ◌&&◌, ℤ, pos, int_lt, ◌≤ℤ◌, Bool, true, false, List, [], length}
use Rattle.std.specs.Prelude.{get_or}
use Rattle.std.specs.Prelude.{◌⊎◌, ◌↔◌}
use Rattle.bit_table.specs.Fields.{takes}
use Rattle.column_table.specs.declared.width.Kind.{Kind}

-- whether a field of this kind takes a number
abbrev pub kind_takes : Kind → ℤ → Bool
kind_takes kind n = takes (record { name = []; width = kind.width; signed = kind.signed }) n

-- a field of this kind takes each of the numbers
abbrev pub TakesAll : Kind → List ℤ → Type 0
TakesAll kind numbers = (k : ℕ) → k < length numbers → kind_takes kind (get_or numbers k (pos 0)) ≡ true

-- one of the numbers is negative
abbrev pub HasNegative : List ℤ → Type 0
HasNegative numbers = (k : ℕ) × (k < length numbers) × (int_lt (get_or numbers k (pos 0)) (pos 0) ≡ true)

-- a kind of 1 to 64 bits, with a sign exactly where one of the numbers is negative
pub record IsKindFor (kind : Kind) (numbers : List ℤ) : Type 0 where
  pub some : 1 ≤ kind.width
  pub few : kind.width ≤ 64
  pub signed : (kind.signed ≡ true) ↔ HasNegative numbers

-- a kind for the numbers takes each of them, and no narrower one of the same sign does
pub record IsNarrowest (kind : Kind) (numbers : List ℤ) : Type 0 where
  pub lawful : IsKindFor kind numbers
  pub takes : TakesAll kind numbers
  pub narrower : (w : ℕ) → 1 ≤ w → w < kind.width → ¬ TakesAll (record kind { width = w }) numbers

-- no kind for the numbers takes each of them
abbrev pub NoneTakes : List ℤ → Type 0
NoneTakes numbers = (kind : Kind) → IsKindFor kind numbers → ¬ TakesAll kind numbers

-- ---- by the least number and the greatest

-- a number is 0 or one of the first count numbers
abbrev pub IsZeroOr : ℕ → List ℤ → ℤ → Type 0
IsZeroOr count numbers n = (n ≡ pos 0) ⊎ ((k : ℕ) × (k < count) × (get_or numbers k (pos 0) ≡ n))

-- these are the least and the greatest of the first count numbers and 0
pub record IsRange (count : ℕ) (numbers : List ℤ) (least greatest : ℤ) : Type 0 where
  pub low : least ≤ℤ pos 0
  pub high : pos 0 ≤ℤ greatest
  pub lower : (k : ℕ) → k < count → least ≤ℤ get_or numbers k (pos 0)
  pub upper : (k : ℕ) → k < count → get_or numbers k (pos 0) ≤ℤ greatest
  pub least_is : IsZeroOr count numbers least
  pub greatest_is : IsZeroOr count numbers greatest

-- whether a field of this kind takes two numbers
abbrev pub take_both : Kind → ℤ → ℤ → Bool
take_both kind n m = kind_takes kind n && kind_takes kind m

-- a field of this kind takes the least number and the greatest, and no narrower one does
pub record IsNarrowestBetween (kind : Kind) (least greatest : ℤ) : Type 0 where
  pub some : 1 ≤ kind.width
  pub few : kind.width ≤ 64
  pub signed : kind.signed ≡ int_lt least (pos 0)
  pub takes : take_both kind least greatest ≡ true
  pub narrower : (w : ℕ) → 1 ≤ w → w < kind.width → take_both (record kind { width = w }) least greatest ≡ false
