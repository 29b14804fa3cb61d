-- How many words some bits take: enough for them, and no more than any number of words that is enough.
use Rattle.std.proofs.Common.{◌≡◌, ℕ, ◌+◌, ◌-◌, ◌*◌, ◌<◌, ◌≤◌, [], ◌++◌, ◌∙◌}
use Rattle.std.proofs.Common.{Bool, List, length, take, drop, arith, ap, inl, inr, refl}
use Rattle.std.proofs.lemmas.Bool.{cases_lt}
use Rattle.std.proofs.lemmas.List.{take_at}
use Rattle.std.proofs.lemmas.Grind.{div_ceil_times}
use Rattle.bit_addressing_memory.specs.Memory.{piece}
use Rattle.bit_containers_vector.specs.Count.{words_for}

-- no bits of a list
pub none_taken : (xs : List Bool) (p : ℕ) → piece xs p 0 ≡ []
unfolding piece
none_taken xs p = refl

-- what a vector lends, given back whole
pub refilled : {T : Type 0} (n : ℕ) (words rest : List T) → length words ≡ n
    → take n (words ++ drop (length words) rest) ≡ words
refilled n words rest size = take_at words (drop (length words) rest) n size

-- they hold the bits
pub words_hold : (b bits : ℕ) → 0 < b → bits ≤ words_for b bits * b
words_hold b bits some = (div_ceil_times bits b some).0

-- each number of words that holds the bits is as great
pub words_within : (b bits words : ℕ) → 0 < b → bits ≤ words * b → words_for b bits ≤ words
words_within b bits words some enough =
    let least : words_for b bits * b < bits + b = (div_ceil_times bits b some).1 in
    elim (cases_lt words (words_for b bits)) [
      | inl more ↦
          let k : ℕ = words_for b bits - words - 1 in
          let is : words_for b bits ≡ words + 1 + k = omega arith in
          let product : words_for b bits * b ≡ words * b + b + k * b = ap (λ m. m * b) is ∙ omega arith in
          absurd (omega arith)
      | inr least ↦ least
    ]

-- more bits take as many words
pub words_more : (b bits more : ℕ) → 0 < b → words_for b bits ≤ words_for b (bits + more)
words_more b bits more some =
    words_within b bits (words_for b (bits + more)) some (omega (arith, words_hold b (bits + more) some))

-- they have fewer bits more than one word has
pub words_below : (b bits : ℕ) → 0 < b → words_for b bits * b < bits + b
words_below b bits some = (div_ceil_times bits b some).1
