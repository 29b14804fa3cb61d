-- Memory as one list of bits: the words that every contract of this crate, and of those above it, speaks.
--
-- How words are read: `Reading`, `read_by`. One bit: `entry`. Lists: `digits`, `memory`, `piece`, `with_piece`.
-- Counts: `touched`. What a call does: `Overwrites` says it of many entries, and by it `Writes` and `Copies`; `Swaps`.
use Rattle.std.specs.Prelude.{ℕ, zero, suc, ◌+◌, ◌-◌, ◌/◌, ◌%◌, ◌<◌, ◌≤◌, ◌≡◌, Bool, false, List}
use Rattle.std.specs.Prelude.{◌++◌, length, map, take, drop, slice_index_or}
use Rattle.std.specs.List.{flat_map, range_with_len}
use Rattle.bit_addressing_order.specs.Bits.{digit_at}
use Rattle.bit_addressing_order.specs.declared.register.BitRegister.{Ghosts}

-- how words are read as bits: how many bits a word has, and the digit of a word at an index
pub record Reading (R : Type 0) : Type 0 where
  pub bits : ℕ
  pub digit : R → ℕ → Bool

-- the digit of a word at the position that an order gives to the index i
abbrev pub indexed : {R : Type 0} → (R → ℕ) → (ℕ → ℕ) → R → ℕ → Bool
indexed number at w i = digit_at (number w) (at i)

-- words of so many bits, each seen as a number, its bits counted in an order
abbrev pub reading_in : {R : Type 0} → ℕ → (R → ℕ) → (ℕ → ℕ) → Reading R
reading_in bits number at = record { bits = bits; digit = indexed number at }

-- a register's words, their bits counted in an order
abbrev pub read_by : {R : Type 0} → Ghosts R → (ℕ → ℕ) → Reading R
read_by register at = reading_in register.BITS register.number at

-- entry k of the memory: the digit of a word at an index, and false past the last word
unfoldable pub entry : {R : Type 0} → Reading R → List R → ℕ → Bool
entry reading words k = slice_index_or (map (λ w. reading.digit w (k % reading.bits)) words) (k / reading.bits) false

-- the digits of a word as a list, by their indices
abbrev pub digits : {R : Type 0} → Reading R → R → List Bool
digits reading w = map (reading.digit w) (range_with_len 0 reading.bits)

-- the memory as one list: the digits of each word, one word after another
unfoldable pub memory : {R : Type 0} → Reading R → List R → List Bool
memory reading words = flat_map (λ w. digits reading w) words

-- the n elements of a list from p on
unfoldable pub piece : {X : Type 0} → List X → ℕ → ℕ → List X
piece xs p n = take n (drop p xs)

-- a list with ys written over what stands from p on
unfoldable pub with_piece : {X : Type 0} → List X → ℕ → List X → List X
with_piece xs p ys = take p xs ++ ys ++ drop (p + length ys) xs

-- how many words hold one of the len entries from place on
abbrev pub touched : ℕ → ℕ → ℕ → ℕ
touched b place zero = 0
touched b place (suc n) = (place + n) / b + 1 - place / b

-- after is before with the n entries from a place on made these: each other entry is as before, and there are as many
-- words
pub record Overwrites {R : Type 0} (reading : Reading R) (before after : List R) (place n : ℕ) (now : ℕ → Bool)
    : Type 0 where
  pub there : (k : ℕ) → k < n → entry reading after (place + k) ≡ now k
  pub below : (p : ℕ) → p < place → entry reading after p ≡ entry reading before p
  pub above : (p : ℕ) → place + n ≤ p → entry reading after p ≡ entry reading before p
  pub words : length after ≡ length before

-- after is before with the entry at a place made `bit`
abbrev pub Writes : {R : Type 0} → Reading R → List R → List R → ℕ → Bool → Type 0
Writes reading before after place bit = Overwrites reading before after place 1 (λ _. bit)

-- after is before with the len entries from target on made those of the memory `other`, read by `its`, from source on
abbrev pub Copies : {R Q : Type 0} → Reading R → List R → List R → Reading Q → List Q → ℕ → ℕ → ℕ → Type 0
Copies reading before after its other source target len =
    Overwrites reading before after target len (λ k. entry its other (source + k))

-- after is before with the len entries from `first` on and those from `second` on exchanged: each other entry is
-- as before, and there are as many words
pub record Swaps {R : Type 0} (reading : Reading R) (before after : List R)
    (first second len : ℕ) : Type 0 where
  pub to_first : (k : ℕ) → k < len → entry reading after (first + k) ≡ entry reading before (second + k)
  pub to_second : (k : ℕ) → k < len → entry reading after (second + k) ≡ entry reading before (first + k)
  pub others : (p : ℕ) → (first ≤ p → first + len ≤ p) → (second ≤ p → second + len ≤ p)
      → entry reading after p ≡ entry reading before p
  pub words : length after ≡ length before
