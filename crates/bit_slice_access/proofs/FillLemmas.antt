-- How a window is filled, bit by bit.
--
-- One more bit: `filled_step`; of a part that is written over: `filled_start`, `filled_next`, `filled_as`, `kept_above`. All of
-- them: `filled_whole`. A closure that answers by the index alone: `filled_by`. Bits of one word: `word_written`.
use Rattle.std.proofs.Common.{◌≡◌, ℕ, zero, suc, ◌+◌, ◌<◌, ◌≤◌, Bool, false, List, [], ◌∷◌, ◌++◌, length, take, get_or}
use Rattle.std.proofs.Common.{◌*◌, Option, append_assoc, drop, set, refl, ap, ◌∙◌, arith, subst}
use Rattle.std.proofs.lemmas.Fn.{FoldsTo-push}
use Rattle.std.specs.List.{FoldsTo}
use Rattle.bit_addressing_memory.specs.BitOrder.{IsLawful}
use Rattle.bit_addressing_memory.specs.Bits.{with_digit}
use Rattle.bit_addressing_memory.specs.Memory.{memory, piece, reading_in, with_piece}
use Rattle.bit_addressing_memory.proofs.EntryLemmas.{writes_bit}
use Rattle.bit_addressing_memory.proofs.WindowLemmas.{window_written}
use Rattle.bit_addressing_memory.proofs.MemoryLemmas.{length-with_piece, with_piece_above}
use Rattle.bit_slice_access.proofs.PartLemmas.{piece_set}
use Rattle.bit_slice_access.specs.Fills.{Filled}

take_set_suc : (xs : List Bool) (i : ℕ) (bit : Bool) → i < length xs
    → take (suc i) (set xs i bit) ≡ take i xs ++ bit ∷ []
take_set_suc [] i bit low = absurd (omega arith)
take_set_suc (x ∷ xs) zero bit low = refl
take_set_suc (x ∷ xs) (suc i) bit low = ap (λ l. x ∷ l) (take_set_suc xs i bit (omega arith))

take_set : (xs : List Bool) (i : ℕ) (bit : Bool) → i < length xs → take (i + 1) (set xs i bit) ≡ take i xs ++ bit ∷ []
take_set xs i bit low = let next : i + 1 ≡ suc i = omega arith in rw next (take_set_suc xs i bit low)

pub take_whole : (xs : List Bool) (n : ℕ) → length xs ≡ n → take n xs ≡ xs
take_whole [] zero all = refl
take_whole [] (suc n) all = refl
take_whole (x ∷ xs) zero all = absurd (omega arith)
take_whole (x ∷ xs) (suc n) all = ap (λ l. x ∷ l) (take_whole xs n (omega arith))

length_taken : (xs : List Bool) (i : ℕ) → i ≤ length xs → length (take i xs) ≡ i
length_taken xs zero low = refl
length_taken [] (suc i) low = absurd (omega arith)
length_taken (x ∷ xs) (suc i) low = ap suc (length_taken xs i (omega arith))

length_pushed : (xs : List Bool) (bit : Bool) → length (xs ++ bit ∷ []) ≡ suc (length xs)
length_pushed [] bit = refl
length_pushed (x ∷ xs) bit = ap suc (length_pushed xs bit)

filled_push : {F : Type 0} (step : F → ℕ → Bool → F → Type 0) (f : F) (bits : List Bool) (i : ℕ) (q : F) (bit : Bool)
    (u : F) → Filled step f bits q → length bits ≡ i → step q i bit u → Filled step f (bits ++ bit ∷ []) u
filled_push {F} step f bits i q bit u so_far size call =
    let R : F × ℕ → Bool → F × ℕ → Type 0 = λ p b r. step p.0 p.1 b r.0 × (r.1 ≡ p.1 + 1) in
    let count : length (bits ++ bit ∷ []) ≡ length bits + 1 = omega (arith, length_pushed bits bit) in
    let fold : FoldsTo {P = F × ℕ} R (f, 0) (bits ++ bit ∷ []) (u, length bits + 1) =
    FoldsTo-push R (f, 0) bits (q, length bits) bit (u, length bits + 1) so_far (rw size call, refl) in
    rw count fold

-- the bits below i are filled, and then the one at i
pub filled_step : {F : Type 0} (step : F → ℕ → Bool → F → Type 0) (f : F) (xs : List Bool) (i : ℕ) (q : F) (bit : Bool)
    (u : F) → Filled step f (take i xs) q → i < length xs → step q i bit u
    → Filled step f (take (i + 1) (set xs i bit)) u
filled_step step f xs i q bit u so_far low call =
    rw (take_set xs i bit low)
    (filled_push step f (take i xs) i q bit u so_far (length_taken xs i (omega arith)) call)

take_front : (xs zs : List Bool) (n : ℕ) → n ≤ length xs → take n (take n xs ++ zs) ≡ take n xs
take_front xs zs zero low = refl
take_front [] zs (suc n) low = absurd (omega arith)
take_front (x ∷ xs) zs (suc n) low = ap (λ l. x ∷ l) (take_front xs zs n (omega arith))

take_kept : (xs ys : List Bool) (at : ℕ) → at ≤ length xs → take at (with_piece xs at ys) ≡ take at xs
unfolding with_piece
take_kept xs ys at low = rw append_assoc (take_front xs (ys ++ drop (at + length ys) xs) at low)

-- those below a part that is written over are still filled
pub filled_start : {F : Type 0} (step : F → ℕ → Bool → F → Type 0) (f : F) (xs ys : List Bool) (at i : ℕ) (q : F)
    → i ≡ at → at ≤ length xs → Filled step f (take i xs) q → Filled step f (take (at + 0) (with_piece xs at ys)) q
filled_start step f xs ys at i q is low filled =
    let none : at + 0 ≡ at = omega arith in
    rw (none, take_kept xs ys at low) (rw is at filled)

-- the bits below one of a part are filled, and then that one
pub filled_next : {F : Type 0} (step : F → ℕ → Bool → F → Type 0) (f : F) (xs ys zs : List Bool) (at j n : ℕ) (q : F)
    (bit : Bool) (u : F) → at + n ≤ length xs → length ys ≡ n → j < n → zs ≡ set ys j bit
    → Filled step f (take (at + j) (with_piece xs at ys)) q → step q (at + j) bit u
    → Filled step f (take (at + (j + 1)) (with_piece xs at zs)) u
filled_next step f xs ys zs at j n q bit u room size low is filled call =
    let many : length (with_piece xs at ys) ≡ length xs = length-with_piece xs at ys (omega arith) in
    let wrote : with_piece xs at zs ≡ set (with_piece xs at ys) (at + j) bit =
    ap (with_piece xs at) is ∙ piece_set xs ys at j bit (omega arith) (omega arith) in
    let next : at + (j + 1) ≡ at + j + 1 = omega arith in
    rw (wrote, next) (filled_step step f (with_piece xs at ys) (at + j) q bit u filled (omega arith) call)

-- the same bits by other names
pub filled_as : {F : Type 0} (step : F → ℕ → Bool → F → Type 0) (f : F) (xs ys : List Bool) (i j : ℕ) (q : F)
    → xs ≡ ys → j ≡ i → Filled step f (take i ys) q → Filled step f (take j xs) q
filled_as step f xs ys i j q same is filled = rw (same, is) filled

-- the bits behind a part that is written over are as they were
pub kept_above : (xs bits ys zs : List Bool) (at n : ℕ) → at + length ys ≤ length xs → length ys ≤ n
    → bits ≡ with_piece xs at ys → ((i : ℕ) → at ≤ i → get_or xs i false ≡ get_or zs i false)
    → (i : ℕ) → at + n ≤ i → get_or bits i false ≡ get_or zs i false
kept_above xs bits ys zs at n room few same rest i past =
    rw same (with_piece_above xs at ys i false room (omega arith) ∙ rest i (omega arith))

-- all bits are filled
pub filled_whole : {F : Type 0} (step : F → ℕ → Bool → F → Type 0) (f : F) (xs : List Bool) (n : ℕ) (q : F)
    → Filled step f (take n xs) q → length xs ≡ n → Filled step f xs q
filled_whole step f xs n q filled all = subst (λ l. Filled step f l q) (take_whole xs n all) filled

filled_from : {F : Type 0} (step : F → ℕ → Bool → F → Type 0) (g : ℕ → Bool)
    → ((p : F) (i : ℕ) (bit : Bool) (q : F) → step p i bit q → bit ≡ g i)
    → (bits : List Bool) (f : F) (n : ℕ) (last : F × ℕ)
    → FoldsTo {P = F × ℕ} (λ p bit q. step p.0 p.1 bit q.0 × (q.1 ≡ p.1 + 1)) (f, n) bits last
    → (k : ℕ) → k < length bits → get_or bits k false ≡ g (n + k)
filled_from step g each [] f n last h k low = absurd (omega arith)
filled_from {F} step g each (x ∷ bits) f n last (j, (s, next), rest) zero low =
    let same : n + 0 ≡ n = omega arith in rw same (each f n x j.0 s)
filled_from {F} step g each (x ∷ bits) f n last (j, (s, next), rest) (suc k) low =
    let there : n + suc k ≡ j.1 + k = omega (arith, next) in
    rw there (filled_from step g each bits j.0 j.1 last rest k (omega arith))

-- a closure that answers g at each index fills with g
pub filled_by : {F : Type 0} (step : F → ℕ → Bool → F → Type 0) (g : ℕ → Bool)
    → ((p : F) (i : ℕ) (bit : Bool) (q : F) → step p i bit q → bit ≡ g i)
    → (f : F) (bits : List Bool) (last : F) → Filled step f bits last
    → (k : ℕ) → k < length bits → get_or bits k false ≡ g k
filled_by step g each f bits last filled k low =
    let same : 0 + k ≡ k = omega arith in
    subst (λ m. get_or bits k false ≡ g m) same (filled_from step g each bits f 0 (last, length bits) filled k low)

-- bits of one word with one of them written
pub word_written : {R : Type 0} (b : ℕ) (number : R → ℕ) (at select : ℕ → ℕ) (mask : Option ℕ → Option ℕ → ℕ)
    (now next : R) (n j : ℕ) (bit : Bool) → IsLawful b at select mask → 0 + n ≤ length (now ∷ []) * b → j < b → j < n
    → number next ≡ with_digit (number now) (at j) bit
    → piece (memory (reading_in b number at) (next ∷ [])) 0 n
    ≡ set (piece (memory (reading_in b number at) (now ∷ [])) 0 n) j bit
word_written b number at select mask now next n j bit law fits small low is =
    let here : 0 * b + j ≡ j = omega arith in
    window_written (reading_in b number at) (now ∷ []) (next ∷ []) 0 n (0 * b + j) j bit (omega arith) fits (omega arith)
    low (writes_bit b number at select mask (now ∷ []) now next 0 j bit law small (omega arith) refl is)

pub ruleset fills = (filled_step, take_whole)
