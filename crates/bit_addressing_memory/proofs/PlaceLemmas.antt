-- The word of a place that lies below the end of so many words.
use Rattle.bit_addressing_memory.proofs.Common.{◌≡◌, ℕ, zero, suc, ◌+◌, ◌-◌, ◌*◌, ◌/◌, ◌%◌, ◌<◌, ◌≤◌, inl, inr, sym}
use Rattle.bit_addressing_memory.proofs.Common.{ap, ◌∙◌, arith, cases_lt, touched}
use Rattle.std.proofs.Math.Nat.{mul-le-mul_right}
use Rattle.std.proofs.lemmas.Nat.{div-add-mod', div-mul-add, div_below, le-div, mod_below}

-- a place before the end of n words of b bits lies in one of them
pub word_within : (b j i n : ℕ) → j * b + i < n * b → j < n
word_within b j i n h = elim (cases_lt j n) [
  | inl low ↦ low
  | inr high ↦
      let past : n * b ≤ j * b = mul-le-mul_right b high in
      absurd (omega arith)
]

-- the whole words of a step onward stay before that end
pub word_after : (b size j i by n : ℕ) → size ≡ b → j * b + i + by < n * b → j + by / size < n
word_after b size j i by n e h =
    let parts : by / size * b + by % size ≡ by = rw (← e) (div-add-mod' by size) in
    word_within b (j + by / size) (i + by % size) n (omega arith)

-- and so does the next word, where the rest passes the edge
pub word_after_next : (b size j i by n : ℕ) → size ≡ b → j * b + i + by < n * b → size ≤ i + by % size
    → j + by / size + 1 < n
word_after_next b size j i by n e h past =
    let parts : by / size * b + by % size ≡ by = rw (← e) (div-add-mod' by size) in
    let rest : ℕ = i + by % size - b in
    word_within b (j + by / size + 1) rest n (omega arith)

-- there the place is the old one and the step
pub place_after_next : (b size j i by : ℕ) → size ≡ b → size ≤ i + by % size
    → (j + by / size + 1) * b + (i + by % size - size) ≡ j * b + i + by
place_after_next b size j i by e past =
    let parts : by / size * b + by % size ≡ by = rw (← e) (div-add-mod' by size) in
    omega arith

-- a place in an earlier word comes before
pub place_order : (b v i w j : ℕ) → i < b → v < w → v * b + i < w * b + j
place_order b v i w j low before =
    let next : v + 1 ≤ w = omega arith in
    let past : (v + 1) * b ≤ w * b = mul-le-mul_right b next in
    omega arith

-- ---- the words of a stretch, by numbers of bits that are known by an equation

-- the first and the last word of some bits
pub first_word : (b bits place : ℕ) → bits ≡ b → place / bits * b + place % bits ≡ place
first_word b bits place is = rw is (div-add-mod' place b)

-- a word up to the last one begins before the end
pub begins_before : (b bits end k : ℕ) → bits ≡ b → 0 < b → 0 < end → k < (end - 1) / bits + 1 → k * b < end
begins_before b bits end k is some any low =
    let whole : (end - 1) / bits * b + (end - 1) % bits ≡ end - 1 = first_word b bits (end - 1) is in
    let row : k * b ≤ (end - 1) / bits * b = mul-le-mul_right b (omega arith) in
    omega arith

-- a word behind the first one begins behind the place
pub begins_behind : (b bits place k : ℕ) → bits ≡ b → 0 < b → place / bits + 1 ≤ k → place < k * b
begins_behind b bits place k is some high =
    let whole : place / bits * b + place % bits ≡ place = first_word b bits place is in
    let row : (place / bits + 1) * b ≤ k * b = mul-le-mul_right b high in
    let rest : place % bits < b = rw is (omega arith) in
    omega arith

-- the last word ends behind the end
pub ends_behind : (b bits end k : ℕ) → bits ≡ b → 0 < b → (end - 1) / bits + 1 ≤ k → end ≤ k * b
ends_behind b bits end k is some high = omega (arith, begins_behind b bits (end - 1) k is some high)

-- how many words a stretch touches, by where it begins and ends in its first word and its last
pub touched_words : (b place n first from last upto : ℕ) → first * b + from ≡ place → last * b + upto ≡ place + n
    → from < b → 0 < upto → upto ≤ b → 0 < n → touched b place n ≡ last + 1 - first
touched_words b place zero first from last upto start end low some within any = absurd (omega arith)
touched_words b place (suc m) first from last upto start end low some within any =
    let at : last * b + (upto - 1) ≡ place + m = omega arith in
    let head : place / b ≡ first = ap (λ p. p / b) (sym start) ∙ div-mul-add first b from low in
    let tail : (place + m) / b ≡ last = ap (λ p. p / b) (sym at) ∙ div-mul-add last b (upto - 1) (omega arith) in
    omega (arith, head, tail)

pub le_mul : (m b : ℕ) → 0 < b → m ≤ m * b
le_mul zero b some = omega arith
le_mul (suc m) b some = omega (arith, le_mul m b some)

-- no more words than bits
pub touched_few : (b place n : ℕ) → 0 < b → touched b place n ≤ n
touched_few b place zero some = omega arith
touched_few b place (suc m) some =
    let rest = mod_below place b some in
    let last = div_below (place + m) b (place / b + m + 1) some
    (omega (arith, div-add-mod' place b, rest, le_mul m b some)) in
    omega (arith, last)

-- and where there are bits one word at least
pub touched_some : (b place n : ℕ) → 0 < b → 0 < n → 0 < touched b place n
touched_some b place zero some any = absurd (omega arith)
touched_some b place (suc m) some any =
    let last = le-div (place / b) (place + m) b some (omega (arith, div-add-mod' place b)) in
    omega (arith, last)

-- and where they fit one word two words at most
pub touched_two : (b place n : ℕ) → 0 < b → n ≤ b → touched b place n ≤ 2
touched_two b place zero some most = omega arith
touched_two b place (suc m) some most =
    let rest = mod_below place b some in
    let last = div_below (place + m) b (place / b + 2) some (omega (arith, div-add-mod' place b, rest)) in
    omega (arith, last)
