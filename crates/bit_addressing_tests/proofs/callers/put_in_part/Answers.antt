use Rattle.std.proofs.Common.{◌≡◌, ℕ, ◌+◌, ◌-◌, ◌<◌, ◌≤◌, List, ◌++◌, length, take, drop, set, sym, ap, ◌∙◌, arith}
use Rattle.std.proofs.lemmas.List.{length-drop, length-take-le, set-append_left, set-append_right, take-append-drop}
use borrow.Rule.Slice.PartMut.{put_mid}
use Rattle.bit_addressing_tests.proofs.callers.put_in_part.Goals as goal

-- a part with one element set, put back, is the whole with that element set
put_mid-set : {X : Type 0} (a n k : ℕ) (xs ys : List X) (x : X) → a + n ≤ length xs → k < n
    → ys ≡ set (take n (drop a xs)) k x → put_mid a n xs ys ≡ set xs (a + k) x
put_mid-set a n k xs ys x within inside is =
    let rest = drop a xs in
    let count : length (take n rest) ≡ n = length-take-le n rest (omega (arith, length-drop a xs)) in
    let front : length (take a xs) ≡ a = length-take-le a xs (omega arith) in
    let index : a + k - a ≡ k = omega arith in
    let part : set (take n rest) k x ++ drop n rest ≡ set rest k x =
    sym (set-append_left (take n rest) (drop n rest) k x (omega arith))
    ∙ ap (λ zs. set zs k x) (take-append-drop n rest) in
    let whole : set xs (a + k) x ≡ take a xs ++ set rest k x =
    ap (λ zs. set zs (a + k) x) (sym (take-append-drop a xs))
    ∙ set-append_right (take a xs) rest a (a + k) x front (omega arith)
    ∙ ap (λ i. take a xs ++ set rest i x) index in
    rw is (ap (λ zs. take a xs ++ zs) part ∙ sym whole)

pub returns : goal.returns
returns g c =
    put_mid-set c.args.first (c.args.first + c.args.count - c.args.first) c.args.k c.args.words.now c.put_one.new.words
    c.args.word (omega arith) (omega arith) c.put_one.ensures
