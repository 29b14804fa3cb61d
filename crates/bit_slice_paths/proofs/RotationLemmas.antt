-- A stretch rotated.
--
-- Where a bit stood: `rotated_from_on`, `rotated_from_over`. Towards an end, by no place and again: `rotated_none`,
-- `rotated_more`. A part exchanged, and the rest rotated: `exchanged_front`, `exchanged_back`.
use Rattle.bit_addressing_memory.proofs.Common.{◌≡◌, ℕ, ◌+◌, ◌-◌, ◌*◌, ◌%◌, ◌<◌, ◌≤◌, List, refl, sym, ap, ◌∙◌, inl, inr}
use Rattle.bit_addressing_memory.proofs.Common.{arith, cases_lt, lt-ltb, le-ltb, Reading, entry, Overwrites, Swaps}
use Rattle.std.specs.Prelude.{if◌then◌else◌}
use Rattle.std.proofs.Math.Nat.{add-mod_right, mod-add-mod}
use Rattle.std.proofs.lemmas.Nat.{mod-mul-add}
use Rattle.bit_slice_paths.specs.Rotations.{rotated_from, to_start}
use Rattle.bit_slice_paths.specs.declared.rotation.End.{End}
use Rattle.bit_slice_paths.specs.declared.rotation.End.TheVariants.{First, Last}

-- after is before with the n bits from a place on rotated by `by` towards their start
abbrev pub Rotates : {R : Type 0} → Reading R → List R → List R → ℕ → ℕ → ℕ → Type 0
Rotates reading before after place n by =
    Overwrites reading before after place n (λ k. entry reading before (place + rotated_from n by k))

-- behind the cut
pub rotated_from_on : (n by k : ℕ) → k + by < n → rotated_from n by k ≡ k + by
rotated_from_on n by k h = ap (λ t. if t then k + by else k + by - n) (lt-ltb (k + by) n h)

-- and before it
pub rotated_from_over : (n by k : ℕ) → n ≤ k + by → rotated_from n by k ≡ k + by - n
rotated_from_over n by k h = ap (λ t. if t then k + by else k + by - n) (le-ltb (k + by) n h)

-- and in both cases, as a remainder
rotated_from_mod : (n by k : ℕ) → k < n → by ≤ n → rotated_from n by k ≡ (k + by) % n
rotated_from_mod n by k small most = elim (cases_lt (k + by) n) [
  | inl on ↦ rotated_from_on n by k on ∙ remainder 0 (k + by) on (omega arith)
  | inr over ↦ rotated_from_over n by k over ∙ remainder 1 (k + by - n) (omega arith) (omega arith)
]
  where
    remainder : (q r : ℕ) → r < n → q * n + r ≡ k + by → r ≡ (k + by) % n
    remainder q r low is = sym (mod-mul-add q n r low) ∙ ap (λ x. x % n) is

-- towards an end by no place
pub rotated_none : {R : Type 0} (reading : Reading R) (words : List R) (end : End) (place n by : ℕ) → by ≡ 0
    → Rotates reading words words place n (to_start end n by)
rotated_none reading words end place n by none = record {
  there = λ k small. ap (λ i. entry reading words (place + i)) (sym (stays end k small));
  below = λ p low. refl;
  above = λ p high. refl;
  words = refl;
}
  where
    stays : (end : End) (k : ℕ) → k < n → rotated_from n (to_start end n by) k ≡ k
    stays First k small =
        let same : k + by ≡ k = omega arith in
        rotated_from_on n by k (omega arith) ∙ same
    stays Last k small =
        let same : k + (n - by) - n ≡ k = omega arith in
        rotated_from_over n (n - by) k (omega arith) ∙ same

twice : (n a b by k : ℕ) → k < n → a ≤ n → b ≤ n → by ≤ n → (k + b + a) % n ≡ (k + by) % n
    → (rotated_from n b k < n) × (rotated_from n a (rotated_from n b k) ≡ rotated_from n by k)
twice n a b by k small most_a most_b most sum =
    let j : ℕ = rotated_from n b k in
    let is : j ≡ (k + b) % n = rotated_from_mod n b k small most_b in
    let low : j < n = omega arith in (
      low,
      rotated_from_mod n a j low most_a
          ∙ ap (λ x. (x + a) % n) is
          ∙ mod-add-mod (k + b) n a
          ∙ sum
          ∙ sym (rotated_from_mod n by k small most),
    )

-- by a, and then by b
rotated_twice : (end : End) (n a b by k : ℕ) → by ≡ a + b → by ≤ n → k < n
    → (rotated_from n (to_start end n b) k < n)
    × (rotated_from n (to_start end n a) (rotated_from n (to_start end n b) k) ≡ rotated_from n (to_start end n by) k)
rotated_twice First n a b by k is most small =
    let sum : k + b + a ≡ k + by = omega arith in
    twice n a b by k small (omega arith) (omega arith) most (ap (λ x. x % n) sum)
rotated_twice Last n a b by k is most small =
    let sum : k + (n - b) + (n - a) ≡ k + (n - by) + n = omega arith in
    twice n (n - a) (n - b) (n - by) k small (omega arith) (omega arith) (omega arith)
    (ap (λ x. x % n) sum ∙ add-mod_right (k + (n - by)) n)

-- towards an end by a, and then by b
pub rotated_more : {R : Type 0} (reading : Reading R) (end : End) (before mid after : List R) (place n a b by : ℕ)
    → by ≡ a + b → by ≤ n → Rotates reading before mid place n (to_start end n a)
    → Rotates reading mid after place n (to_start end n b) → Rotates reading before after place n (to_start end n by)
rotated_more reading end before mid after place n a b by is most first next = record {
  there = λ k small.
      let both = rotated_twice end n a b by k is most small in
      next.there k small
      ∙ first.there (rotated_from n (to_start end n b) k) both.0
      ∙ ap (λ i. entry reading before (place + i)) both.1;
  below = λ p low. next.below p low ∙ first.below p low;
  above = λ p high. next.above p high ∙ first.above p high;
  words = next.words ∙ first.words;
}

-- the first `left` bits exchanged with the last of `left + right`, and all but these rotated
pub exchanged_front : {R : Type 0} (reading : Reading R) (before mid after : List R) (place left right second rest n : ℕ)
    → left ≤ right → second ≡ place + right → rest ≡ right → n ≡ left + right
    → Swaps reading before mid place second left → Rotates reading mid after place rest left
    → Rotates reading before after place n left
exchanged_front reading before mid after place left right second rest n most is_second is_rest is_n swapped turned =
    record {
      there = λ k small. elim (cases_lt (k + left) n) [
        | inl on ↦ turned.there k (omega arith) ∙ elim (cases_lt (k + left) rest) [
          | inl inner ↦
              ap (λ i. entry reading mid (place + i)) (rotated_from_on rest left k inner)
              ∙ swapped.others (place + (k + left)) (λ from. omega arith) (λ from. omega arith)
              ∙ ap (λ i. entry reading before (place + i)) (sym (rotated_from_on n left k on))
          | inr outer ↦
              let j : ℕ = k + left - rest in
              let here : second + j ≡ place + (k + left) = omega arith in
              ap (λ i. entry reading mid (place + i)) (rotated_from_over rest left k outer)
              ∙ swapped.to_first j (omega arith)
              ∙ ap (entry reading before) here
              ∙ ap (λ i. entry reading before (place + i)) (sym (rotated_from_on n left k on))
        ]
        | inr over ↦
            let j : ℕ = k + left - n in
            let here : place + k ≡ second + j = omega arith in
            turned.above (place + k) (omega arith)
            ∙ ap (entry reading mid) here
            ∙ swapped.to_second j (omega arith)
            ∙ ap (λ i. entry reading before (place + i)) (sym (rotated_from_over n left k over))
      ];
      below = λ p low. turned.below p low ∙ swapped.others p (λ from. omega arith) (λ from. omega arith);
      above = λ p high. turned.above p (omega arith) ∙ swapped.others p (λ from. omega arith) (λ from. omega arith);
      words = turned.words ∙ swapped.words;
    }

-- the first `right` bits exchanged with the last of `left + right`, and all but these rotated
pub exchanged_back : {R : Type 0} (reading : Reading R) (before mid after : List R)
    (place left right second start rest by n : ℕ) → right ≤ left → second ≡ place + left → start ≡ place + right
    → rest ≡ left → by ≡ left - right → n ≡ left + right → Swaps reading before mid place second right
    → Rotates reading mid after start rest by → Rotates reading before after place n left
exchanged_back reading before mid after place left right second start rest by n most is_second is_start is_rest is_by
    is_n swapped turned = record {
      there = λ k small. elim (cases_lt k right) [
        | inl on ↦
            let here : second + k ≡ place + (k + left) = omega arith in
            turned.below (place + k) (omega arith)
            ∙ swapped.to_first k on
            ∙ ap (entry reading before) here
            ∙ ap (λ i. entry reading before (place + i)) (sym (rotated_from_on n left k (omega arith)))
        | inr over ↦
            let j : ℕ = k - right in
            let at : place + k ≡ start + j = omega arith in
            let from : j ≡ k + left - n = omega arith in
            ap (entry reading after) at
            ∙ turned.there j (omega arith)
            ∙ elim (cases_lt (j + by) rest) [
              | inl inner ↦
                  let here : start + (j + by) ≡ second + j = omega arith in
                  ap (λ i. entry reading mid (start + i)) (rotated_from_on rest by j inner)
                  ∙ ap (entry reading mid) here
                  ∙ swapped.to_second j (omega arith)
              | inr outer ↦
                  let here : start + (j + by - rest) ≡ place + j = omega arith in
                  ap (λ i. entry reading mid (start + i)) (rotated_from_over rest by j outer)
                  ∙ ap (entry reading mid) here
                  ∙ swapped.others (place + j) (λ from. omega arith) (λ from. omega arith)
            ]
            ∙ ap (λ i. entry reading before (place + i)) (from ∙ sym (rotated_from_over n left k (omega arith)))
      ];
      below = λ p low. turned.below p (omega arith) ∙ swapped.others p (λ from. omega arith) (λ from. omega arith);
      above = λ p high. turned.above p (omega arith) ∙ swapped.others p (λ from. omega arith) (λ from. omega arith);
      words = turned.words ∙ swapped.words;
    }
