-- A part of one word: what reading it and writing it is.
--
-- The mask of a part: `part_mask`. A word masked: `IsMasked`. A word written in a part: `IsStored`.
-- A read from a memory: `ReadsDigits`, and by it `ReadsPart`.
use Rattle.std.specs.Prelude.{ℕ, ◌+◌, ◌*◌, ◌<◌, ◌≤◌, ◌≡◌, Bool, false, List, Option, Some}
use Rattle.bit_addressing_memory.specs.Memory.{Reading, entry}

-- the mask of the indices from one up to before another
abbrev pub part_mask : (Option ℕ → Option ℕ → ℕ) → ℕ → ℕ → ℕ
part_mask mask from upto = mask (Some from) (Some upto)

-- the result has the digits of a word at the indices from `from` up to before `upto`, and each other reads as zero
pub record IsMasked {R : Type 0} (reading : Reading R) (word result : R) (from upto : ℕ) : Type 0 where
  pub inside : (i : ℕ) → from ≤ i → i < upto → i < reading.bits → reading.digit result i ≡ reading.digit word i
  pub below : (i : ℕ) → i < from → i < reading.bits → reading.digit result i ≡ false
  pub above : (i : ℕ) → upto ≤ i → i < reading.bits → reading.digit result i ≡ false

-- the result has these digits at the indices from `from` up to before `upto`, and each other digit is the word's
pub record IsStored {R : Type 0} (reading : Reading R) (word result : R) (from upto : ℕ) (now : ℕ → Bool)
    : Type 0 where
  pub inside : (i : ℕ) → from ≤ i → i < upto → i < reading.bits → reading.digit result i ≡ now i
  pub below : (i : ℕ) → i < from → i < reading.bits → reading.digit result i ≡ reading.digit word i
  pub above : (i : ℕ) → upto ≤ i → i < reading.bits → reading.digit result i ≡ reading.digit word i

-- the digits are the entries of the memory's word j at the indices from one up to before another, and false at each
-- other
pub record ReadsDigits {R : Type 0} (reading : Reading R) (words : List R) (j : ℕ) (digit : ℕ → Bool) (from upto : ℕ)
    : Type 0 where
  pub inside : (i : ℕ) → from ≤ i → i < upto → i < reading.bits → digit i ≡ entry reading words (j * reading.bits + i)
  pub below : (i : ℕ) → i < from → i < reading.bits → digit i ≡ false
  pub above : (i : ℕ) → upto ≤ i → i < reading.bits → digit i ≡ false

-- the word has the entries of the memory's word j at the indices from one up to before another, and false at each other
abbrev pub ReadsPart : {R : Type 0} → Reading R → List R → ℕ → R → ℕ → ℕ → Type 0
ReadsPart reading words j word from upto = ReadsDigits reading words j (reading.digit word) from upto
