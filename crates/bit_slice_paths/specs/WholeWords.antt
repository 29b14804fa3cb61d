-- What is done with whole words, and when words of two types have the same bits.
use Rattle.std.specs.Prelude.{ℕ, ◌+◌, ◌*◌, ◌<◌, ◌≡◌, ◌↔◌, Bool, List}
use Rattle.bit_addressing_memory.specs.Memory.{Reading, entry, Overwrites}
use Rattle.std.proofs.Common.{refl, arith}

-- words of b and of c bits, whose indices have the positions `at` and `its`: words that hold the same number have the
-- same bits
pub record IsAlike (b : ℕ) (at : ℕ → ℕ) (c : ℕ) (its : ℕ → ℕ) : Type 0 where
  pub bits : c ≡ b
  pub positions : (i : ℕ) → i < b → its i ≡ at i

-- each of the first n bits of the words from `first` on is what `how` makes of it and of one of `bits`; the kernel has
-- the words of the same loan still
pub record Merges {R : Type 0} (reading : Reading R) (how : Bool → Bool → Bool) (before after : List R)
    (first first_now lender lender_now n : ℕ) (bits : ℕ → Bool) : Type 0 where
  pub wrote : Overwrites reading before after (first * reading.bits) n
      (λ k. how (entry reading before (first * reading.bits + k)) (bits k))
  pub same_first : first_now ≡ first
  pub same_lender : lender_now ≡ lender

-- a number of differing digits is 0 exactly if it was before and the first n bits of the words from `first` on are `bits`
pub record Compares {R : Type 0} (reading : Reading R) (words words_now : List R) (first first_now differ differ_now n : ℕ)
    (bits : ℕ → Bool) : Type 0 where
  pub same_words : words_now ≡ words
  pub same_first : first_now ≡ first
  pub answer : (differ_now ≡ 0) ↔ ((differ ≡ 0) × ((k : ℕ) → k < n
      → entry reading words (first * reading.bits + k) ≡ bits k))

-- ---- nothing done yet

pub merges_none : {R : Type 0} (reading : Reading R) (how : Bool → Bool → Bool) (words : List R) (first lender : ℕ)
    (bits : ℕ → Bool) → Merges reading how words words first first lender lender 0 bits
merges_none reading how words first lender bits = record {
  wrote = record {
    there = λ k h. absurd (omega arith);
    below = λ p h. refl;
    above = λ p h. refl;
    words = refl;
  };
  same_first = refl;
  same_lender = refl;
}

pub compares_none : {R : Type 0} (reading : Reading R) (words : List R) (first differ : ℕ) (bits : ℕ → Bool)
    → Compares reading words words first first differ differ 0 bits
compares_none reading words first differ bits = record {
  same_words = refl;
  same_first = refl;
  answer = (λ none. (none, λ k h. absurd (omega arith)), λ both. both.0);
}
