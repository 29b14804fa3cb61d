-- What a call that wrote a whole window makes of the memory: `memory_with`, by the clauses of what made the window and
-- of the call. A program names the ruleset `frames` where its clause says what stands beside a window.
use Rattle.std.proofs.Common.{◌≡◌, ℕ, ◌+◌, Bool, List, ◌++◌, length, take, drop, append_assoc, sym, ap, ◌∙◌}
use Rattle.std.proofs.lemmas.List.{take-append-drop, drop-drop}
use Rattle.bit_addressing_memory.specs.Memory.{Reading, memory, piece, with_piece}
use Rattle.bit_addressing_memory.proofs.WindowLemmas.{length-window, window_written}
use Rattle.bit_slice_views_mut.specs.Frame.{frame_of}
use Rattle.bit_slice_views_mut.proofs.FrameLemmas.{overwritten_beside}

-- a list by its front, a piece, and what stands behind it
cut : (xs : List Bool) (at n : ℕ) → take at xs ++ (piece xs at n ++ drop (at + n) xs) ≡ xs
unfolding piece
cut xs at n =
    ap (λ ys. take at xs ++ (take n (drop at xs) ++ ys)) (sym (drop-drop n at xs))
    ∙ ap (λ ys. take at xs ++ ys) (take-append-drop n (drop at xs))
    ∙ take-append-drop at xs

-- a list of which only a piece is another
pub pieced : (before after ys : List Bool) (at n : ℕ) → length ys ≡ n → take at after ≡ take at before
    → drop (at + n) after ≡ drop (at + n) before → piece after at n ≡ ys → after ≡ with_piece before at ys
unfolding with_piece
pieced before after ys at n size front back now =
    sym (cut after at n)
    ∙ ap (λ xs. xs ++ (piece after at n ++ drop (at + n) after)) front
    ∙ ap (λ xs. take at before ++ (xs ++ drop (at + n) after)) now
    ∙ ap (λ xs. take at before ++ (ys ++ xs)) back
    ∙ ap (λ k. take at before ++ (ys ++ drop (at + k) before)) (sym size)
    ∙ sym (append_assoc (take at before) ys (drop (at + length ys) before))

-- of words `before` a window of n bits from `place` on was made, of words `was`, from `p` on and of k bits; a call that
-- left its frame made it m bits from `at` on of words `after`, and these are ys
pub memory_with : {X R : Type 0} (reading : Reading R) (lender its : X) (before was after : List R)
    (place p at n k m : ℕ) (ys : List Bool) → was ≡ before → p ≡ place → k ≡ n → m ≡ k
    → frame_of reading its after at m ≡ frame_of reading lender was p k → piece (memory reading after) at m ≡ ys
    → length ys ≡ n → memory reading after ≡ with_piece (memory reading before) place ys
memory_with reading lender its before was after place p at n k m ys words here count size same now many =
    let old = memory reading before in
    let new = memory reading after in
    let start : at ≡ place = ap (λ f. f.place) same ∙ here in
    let long : m ≡ n = size ∙ count in
    let kept : memory reading was ≡ old = ap (memory reading) words in
    let front : take place new ≡ take place old =
    ap (λ i. take i new) (sym start) ∙ ap (λ f. f.before) same ∙ ap (λ i. take i (memory reading was)) here
    ∙ ap (take place) kept in
    let back : drop (place + n) new ≡ drop (place + n) old =
    ap (λ i. drop (i + n) new) (sym start) ∙ ap (λ i. drop (at + i) new) (sym long) ∙ ap (λ f. f.behind) same
    ∙ ap (λ i. drop (p + i) (memory reading was)) count ∙ ap (λ i. drop (i + n) (memory reading was)) here
    ∙ ap (drop (place + n)) kept in
    let is : piece new place n ≡ ys =
    ap (λ i. piece new i n) (sym start) ∙ ap (λ i. piece new at i) (sym long) ∙ now in
    pieced old new ys place n many front back is

pub ruleset frames = (length-window, window_written, overwritten_beside)
