-- Two stretches, part after part.
--
-- Words that a place has behind it: `words_lie`, `next_lies`, `read_within`. Stretches that fit: `fit_on`, `shifted_fit`.
use Rattle.bit_addressing_memory.proofs.Common.{◌≡◌, ℕ, ◌+◌, ◌-◌, ◌*◌, ◌/◌, ◌%◌, ◌<◌, ◌≤◌, sym, ap, ◌∙◌, arith}
use Rattle.std.proofs.Math.Nat.{mod-add-mod, mul-le-mul_right}
use Rattle.std.proofs.lemmas.Nat.{div-add-mod'}
use Rattle.bit_slice_paths.specs.Fits.{IsFit}
use Rattle.bit_slice_paths.specs.WholeWords.{IsAlike}
use Rattle.bit_slice_paths.specs.declared.two_memories.Fit.{Fit}
use Rattle.bit_slice_paths.specs.declared.two_memories.Fit.TheVariants.{Shifted}
use Rattle.bit_addressing_memory.proofs.PlaceLemmas.{first_word}
use Rattle.bit_addressing_memory.proofs.ShiftedWords.{less_words}

-- some of the words behind a place end before the last bit
pub read_within : (len start over bits read : ℕ) → start ≤ len → read ≤ (len - start - over) / bits
    → start + read * bits ≤ len
read_within len start over bits read inside most =
    let words : read * bits ≤ (len - start - over) / bits * bits = mul-le-mul_right bits most in
    omega (arith, div-add-mod' (len - start - over) bits)

-- stretches that fit do so as far behind their beginnings
pub fit_on : (b : ℕ) (at : ℕ → ℕ) (c : ℕ) (its : ℕ → ℕ) (place other done : ℕ) {S : Type 0} (fit : Fit S)
    → IsFit b at c its place other fit → IsFit b at c its (place + done) (other + done) fit
fit_on b at c its place other done fit had = record {
  narrow = had.narrow;
  alike = had.alike;
  level = λ is.
      sym (mod-add-mod place b done) ∙ ap (λ i. (i + done) % b) (had.level is) ∙ mod-add-mod other b done;
}

-- stretches whose words are joined
pub shifted_fit : (b : ℕ) (at : ℕ → ℕ) (c : ℕ) (its : ℕ → ℕ) (place other : ℕ) {S : Type 0} (straight : S)
    → b ≤ 64 → IsAlike b at c its → IsFit b at c its place other (Shifted straight)
shifted_fit b at c its place other straight narrow alike = record {
  narrow = narrow;
  alike = alike;
  level = λ none. absurd (cc none);
}

-- whole words from a place on lie among the words
pub words_lie : (b bits place n words : ℕ) → bits ≡ b → 0 < b → place + n * b ≤ words * b → place / bits + n ≤ words
words_lie b bits place n words is some within =
    let low : place / bits + n < words + 1 = less_words (place / bits + n) (words + 1) b
    (omega (arith, first_word b bits place is)) in
    omega arith

-- and so does the next one
pub next_lies : (b bits place n words : ℕ) → bits ≡ b → 0 < place % bits → place + n * b ≤ words * b
    → place / bits + n < words
next_lies b bits place n words is some within =
    less_words (place / bits + n) words b (omega (arith, first_word b bits place is))

pub ruleset words_behind = (words_lie, next_lies)
