-- Bits of words that come one after another.
use Rattle.std.proofs.Common.{◌≡◌, ℕ, ◌+◌, ◌*◌, ◌≤◌, [], ◌∷◌, ◌++◌, ◌∙◌}
use Rattle.std.proofs.Common.{Bool, List, length, arith, sym, ap, append_assoc, length-append}
use Rattle.std.proofs.Math.Nat.{mul-le-mul_right}
use Rattle.std.proofs.lemmas.List.{append-nil}
use Rattle.bit_addressing_memory.specs.Memory.{Reading, memory}
use Rattle.bit_addressing_memory.proofs.MemoryLemmas.{length-memory, memory-append}

-- no words
pub no_words : {R : Type 0} (reading : Reading R) (xs : List Bool) → xs ≡ xs ++ memory reading []
unfolding memory
no_words reading xs = sym (append-nil xs)

-- one more word
pub one_word : {R : Type 0} (reading : Reading R) (old mid new : List Bool) (words more : List R) (word : R)
    → mid ≡ old ++ memory reading words → new ≡ mid ++ memory reading more → more ≡ word ∷ []
    → new ≡ old ++ memory reading (words ++ word ∷ [])
one_word reading old mid new words more word was is one =
    is ∙ ap (λ xs. xs ++ memory reading more) was ∙ append_assoc old (memory reading words) (memory reading more)
    ∙ ap (λ ws. old ++ (memory reading words ++ memory reading ws)) one
    ∙ ap (λ xs. old ++ xs) (sym (memory-append reading words (word ∷ [])))

-- and as many bits more, where so many words fewer are left
pub one_less : {R : Type 0} (reading : Reading R) (mid new : List Bool) (more : List R) (word : R) (was left most : ℕ)
    → new ≡ mid ++ memory reading more → more ≡ word ∷ [] → left + 1 ≤ was
    → length mid + was * reading.bits ≤ most → length new + left * reading.bits ≤ most
one_less reading mid new more word was left most is one less within =
    let size : length (memory reading more) ≡ 1 * reading.bits =
    length-memory reading more ∙ ap (λ ws. length ws * reading.bits) one in
    let count = ap length is in
    let product : (left + 1) * reading.bits ≤ was * reading.bits = mul-le-mul_right reading.bits less in
    omega (arith, size, count, product, within, length-append mid (memory reading more))
