-- A window combined with a list of another length.
--
-- By its entries: `combined_window`. Where the list ends first: `combined_kept`, `combined_cleared`. Bits with a zero:
-- `and_zero`, `or_zero`, `xor_zero`.
use Rattle.std.proofs.Common.{◌≡◌, ℕ, ◌+◌, ◌-◌, ◌*◌, ◌<◌, ◌≤◌, Bool, true, false, List, ◌++◌, length, get_or, min}
use Rattle.std.proofs.Common.{replicate}
use Rattle.std.proofs.Common.{refl, sym, ap, ap₂, ◌∙◌, inl, inr, arith, length-append}
use Rattle.std.specs.Prelude.{◌&&◌, ◌||◌}
use mathlib.Core.Bool.{xor}
use Rattle.std.specs.Simd.Lanes.{zip2}
use Rattle.std.proofs.lemmas.Bool.{cases_lt}
use Rattle.std.proofs.lemmas.List.{length-take-le, length-replicate, get_or-take, get_or_append_left}
use Rattle.std.proofs.lemmas.List.{get_or-append_right, get_or-replicate, get_or_past}
use Rattle.std.proofs.lemmas.Simd.{length-zip2, get_or-zip2}
use Rattle.bit_addressing_memory.specs.Memory.{Reading, entry, memory, piece, Overwrites}
use Rattle.bit_addressing_memory.proofs.WindowLemmas.{window_is, window_bit, length-window}
use Rattle.bit_slice_views_mut.specs.Combined.{combined, fitted}

length-fitted : (n : ℕ) (bits : List Bool) → length (fitted n bits) ≡ n
length-fitted n bits =
    length-take-le n (bits ++ replicate n false)
    (omega (arith, length-append bits (replicate n false), length-replicate n false))

get_or-fitted : (n : ℕ) (bits : List Bool) (k : ℕ) → k < n → get_or (fitted n bits) k false ≡ get_or bits k false
get_or-fitted n bits k low =
    get_or-take n (bits ++ replicate n false) k false low
    ∙ elim (cases_lt k (length bits)) [
      | inl inside ↦ get_or_append_left bits (replicate n false) false k inside
      | inr past ↦
          get_or-append_right bits (replicate n false) (length bits) k false refl past
          ∙ get_or-replicate n (k - length bits) false false (omega arith)
          ∙ sym (get_or_past bits k false past)
    ]

-- a window whose entries are combined with a list is the combined list
pub combined_window : {R : Type 0} (reading : Reading R) (before after : List R) (place n : ℕ)
    (how : Bool → Bool → Bool) (ys : List Bool) → 0 < reading.bits → place + n ≤ length before * reading.bits
    → length after ≡ length before
    → ((k : ℕ) → k < n → entry reading after (place + k) ≡ how (entry reading before (place + k)) (get_or ys k false))
    → piece (memory reading after) place n ≡ combined how (piece (memory reading before) place n) ys
combined_window reading before after place n how ys some fits words same =
    let xs = piece (memory reading before) place n in
    let size : length xs ≡ n = length-window reading before place n fits in
    let zs = fitted (length xs) ys in
    let even : length xs ≡ length zs = sym (length-fitted (length xs) ys) in
    window_is reading after place n (zip2 how xs zs) some (rw words fits) (length-zip2 how xs zs even ∙ size) (λ k low.
    same k low
    ∙ sym (get_or-zip2 how xs zs k false false false (omega arith) (omega arith)
    ∙ ap₂ how (window_bit reading before place n k some low) (get_or-fitted (length xs) ys k (omega arith))))

pub and_zero : (bit : Bool) → (bit && false) ≡ false
and_zero true = refl
and_zero false = refl

pub or_zero : (bit : Bool) → (bit || false) ≡ bit
or_zero true = refl
or_zero false = refl

pub xor_zero : (bit : Bool) → xor bit false ≡ bit
unfolding xor
xor_zero true = refl
xor_zero false = refl

module _ {R Q : Type 0} (reading : Reading R) (before after : List R) (place n : ℕ) (its : Reading Q)
    (others : List Q) (source len : ℕ) (how : Bool → Bool → Bool) (some : 0 < reading.bits) (its_some : 0 < its.bits)
    (fits : place + n ≤ length before * reading.bits) (its_fits : source + len ≤ length others * its.bits) where
  -- the other list
  abbrev other_list : List Bool
  other_list = piece (memory its others) source len

  length-other : length other_list ≡ len
  length-other = length-window its others source len its_fits

  other_bit : (k : ℕ) → k < len → entry its others (source + k) ≡ get_or other_list k false
  other_bit k low = sym (window_bit its others source len k its_some low)

  past_other : (k : ℕ) → len ≤ k → get_or other_list k false ≡ false
  past_other k high = get_or_past other_list k false (omega (arith, length-other))

  -- combined as far as both go, where a zero keeps a bit
  pub combined_kept : ((bit : Bool) → how bit false ≡ bit) → (shared : ℕ) → shared ≡ min n len
      → Overwrites reading before after place shared
      (λ k. how (entry reading before (place + k)) (entry its others (source + k)))
      → piece (memory reading after) place n
      ≡ combined how (piece (memory reading before) place n) (piece (memory its others) source len)
  combined_kept keeps shared least is =
      combined_window reading before after place n how other_list some fits is.words (λ k low.
      elim (cases_lt k len) [
        | inl inside ↦
            is.there k (omega arith) ∙ ap (how (entry reading before (place + k))) (other_bit k inside)
        | inr past ↦
            is.above (place + k) (omega arith)
            ∙ sym (keeps (entry reading before (place + k)))
            ∙ ap (how (entry reading before (place + k))) (sym (past_other k past))
      ])

  -- and the rest cleared, where a zero clears one
  pub combined_cleared : (between : List R) → ((bit : Bool) → how bit false ≡ false) → (shared : ℕ)
      → shared ≡ min n len
      → Overwrites reading before between place shared
      (λ k. how (entry reading before (place + k)) (entry its others (source + k)))
      → Overwrites reading between after (place + shared) (n - shared) (λ _. false)
      → piece (memory reading after) place n
      ≡ combined how (piece (memory reading before) place n) (piece (memory its others) source len)
  combined_cleared between clears shared least first is =
      combined_window reading before after place n how other_list some fits (is.words ∙ first.words) (λ k low.
      elim (cases_lt k len) [
        | inl inside ↦
            is.below (place + k) (omega arith)
            ∙ first.there k (omega arith)
            ∙ ap (how (entry reading before (place + k))) (other_bit k inside)
        | inr past ↦
            let at : place + shared + (k - shared) ≡ place + k = omega arith in
            ap (entry reading after) (sym at)
            ∙ is.there (k - shared) (omega arith)
            ∙ sym (clears (entry reading before (place + k)))
            ∙ ap (how (entry reading before (place + k))) (sym (past_other k past))
      ])
