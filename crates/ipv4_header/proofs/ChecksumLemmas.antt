-- Sums in ones' complement.
use Rattle.std.proofs.Common.{◌≡◌, ℕ, zero, suc, ◌+◌, ◌-◌, ◌*◌, ◌%◌, ◌<◌, ◌≤◌, List, [], ◌∷◌, sum, refl, sym, ap}
use Rattle.std.proofs.Common.{◌∙◌, arith, add-one, length, take, drop, get_or}
use Rattle.std.proofs.lemmas.List.{take_all}
use Rattle.std.proofs.lemmas.List.Sums.{sum_by-cons}
use Rattle.ipv4_header.specs.Checksum.{carried_around, words_of}

-- a word is its own sum
pub carried-word : (n : ℕ) → n < 65536 → carried_around n ≡ n
carried-word zero small = refl
carried-word (suc n) small = omega arith

carried-more : (n : ℕ) → carried_around (n + 1) ≡ n % 65535 + 1
carried-more n = ap carried_around (add-one n)

-- a sum may be carried around at any time
pub carried-add : (n w : ℕ) → carried_around (carried_around n + w) ≡ carried_around (n + w)
carried-add zero w = refl
carried-add (suc n) w =
    let r : ℕ = n % 65535 in
    let first : r + 1 + w ≡ (r + w) + 1 = omega arith in
    let second : suc n + w ≡ (n + w) + 1 = omega arith in
    let same : (n + w) % 65535 ≡ (r + w) % 65535 = omega arith in
    ap carried_around first ∙ carried-more (r + w) ∙ ap (λ k. k + 1) (sym same) ∙ sym (carried-more (n + w))
    ∙ ap carried_around (sym second)

-- the sum of some words and of those behind them
pub carried-next : (so_far next rest : ℕ)
    → carried_around (carried_around (so_far + next) + rest) ≡ carried_around (so_far + (next + rest))
carried-next so_far next rest =
    let same : so_far + next + rest ≡ so_far + (next + rest) = omega arith in
    carried-add (so_far + next) rest ∙ ap carried_around same

-- the words of a part that begins with two bytes or more: the first of them, and those behind it
pub words-next : (xs : List ℕ) → 2 ≤ length xs
    → sum (words_of xs) ≡ get_or xs 0 0 * 256 + get_or xs 1 0 + sum (words_of (take (length xs - 2) (drop 2 xs)))
words-next [] some = absurd (omega arith)
words-next (x ∷ []) some = absurd (omega arith)
words-next (x ∷ y ∷ xs) some =
    let n : ℕ = length (x ∷ y ∷ xs) - 2 in
    let all : length xs ≤ n = omega arith in
    sum_by-cons (λ k. k) (x * 256 + y) (words_of xs)
    ∙ ap (λ zs. x * 256 + y + sum (words_of zs)) (sym (take_all n xs all))
