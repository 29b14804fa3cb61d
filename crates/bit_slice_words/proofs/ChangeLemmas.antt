-- Stretches of bits changed, end to end: parts of words, whole words, and a stretch cut at its edges.
use Rattle.bit_addressing_memory.proofs.Common.{◌≡◌, ℕ, ◌+◌, ◌-◌, ◌*◌, ◌<◌, ◌≤◌, Bool, List, length, get_or, refl, ap}
use Rattle.bit_addressing_memory.proofs.Common.{◌∙◌, arith, Reading, entry, Overwrites}
use Rattle.bit_addressing_memory.proofs.EntryLemmas.{entry_read}
use Rattle.bit_addressing_memory.proofs.OverwriteLemmas.{overwrites_join}
use Rattle.bit_addressing_memory.proofs.PartsLemmas.{stores_as}
use Rattle.bit_slice_words.specs.Edits.{Changes}

-- two changes end to end
pub changes_join : {R : Type 0} (reading : Reading R) (before mid after : List R) (place n next m all : ℕ)
    (on : Bool → Bool) → next ≡ place + n → all ≡ n + m
    → Changes reading before mid place n on → Changes reading mid after next m on
    → Changes reading before after place all on
changes_join reading before mid after place n next m all on ends sum one two =
    overwrites_join reading before mid after place n next m all (λ k. on (entry reading before (place + k)))
    (λ k. on (entry reading mid (next + k))) ends sum
    (λ i low.
    let at : next + i ≡ place + (n + i) = omega arith in
    ap (λ p. on (entry reading mid p)) at ∙ ap on (one.above (place + (n + i)) (omega arith)))
    one two

-- the same change, by other numbers
pub changes_as : {R : Type 0} (reading : Reading R) (before after : List R) (place n at count : ℕ)
    (on : Bool → Bool) → place ≡ at → n ≡ count → Changes reading before after place n on
    → Changes reading before after at count on
changes_as reading before after place n at count on same_place same_count is = rw (← same_place, ← same_count) is

-- the word j changed and stored in a part of itself
pub changes_part : {R : Type 0} (reading : Reading R) (before after : List R) (place n from j : ℕ) (x value : R)
    (on : Bool → Bool) → Overwrites reading before after place n (λ i. reading.digit value (from + i))
    → ((i : ℕ) → i < reading.bits → reading.digit value i ≡ on (reading.digit x i)) → x ≡ get_or before j x
    → j < length before → from + n ≤ reading.bits → place ≡ j * reading.bits + from
    → Changes reading before after place n on
changes_part reading before after place n from j x value on is turned e inside within at =
    stores_as reading before after place n (λ i. reading.digit value (from + i))
    (λ i. on (entry reading before (place + i))) is
    (λ i small.
    let low : from + i < reading.bits = omega arith in
    let here : j * reading.bits + (from + i) ≡ place + i = omega arith in
    turned (from + i) low
    ∙ ap on (entry_read reading before j (from + i) x low inside e ∙ ap (entry reading before) here))

-- a stretch cut at its edges: its first word, whole words, its last word
pub changes_cut : {R : Type 0} (reading : Reading R) (w0 w1 w2 w3 : List R) (place len first from last upto top : ℕ)
    (on : Bool → Bool) → first * reading.bits + from ≡ place → last * reading.bits + upto ≡ place + len
    → first < last → from ≤ reading.bits → upto ≤ reading.bits → top ≡ reading.bits
    → Changes reading w0 w1 (first * reading.bits + from) (top - from) on
    → Changes reading w1 w2 ((first + 1) * reading.bits) ((last - (first + 1)) * reading.bits) on
    → Changes reading w2 w3 (last * reading.bits + 0) (upto - 0) on
    → Changes reading w0 w3 place len on
changes_cut reading w0 w1 w2 w3 place len first from last upto top on start end more index within full one two three =
    let b = reading.bits in
    let n : ℕ = last - (first + 1) in
    let gap : first + 1 + n ≡ last = omega arith in
    let row : (first + 1 + n) * b ≡ last * b = ap (λ k. k * b) gap in
    let head = changes_as reading w0 w1 (first * b + from) (top - from) place (b - from) on start
    (ap (λ k. k - from) full) one in
    let front = changes_join reading w0 w1 w2 place (b - from) ((first + 1) * b) (n * b) (b - from + n * b) on
    (omega arith) refl head two in
    changes_join reading w0 w2 w3 place (b - from + n * b) (last * b + 0) (upto - 0) len on (omega arith) (omega arith)
    front three
