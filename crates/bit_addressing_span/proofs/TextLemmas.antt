-- Numbers joined in a text: `joined-append`, `joined_more` and `cut_text`.
use Rattle.std.proofs.Common.{◌≡◌, ℕ, Bool, true, false, List, [], ◌∷◌, ◌++◌}
use Rattle.std.proofs.Common.{refl, sym, ap, ◌∙◌, append_assoc, append-nil}
use Rattle.bit_addressing_span.specs.Texts.{between, joined_text, begun_after}

-- once begun, it stays so
begun_on : (ns : List ℕ) → begun_after true ns ≡ true
begun_on [] = refl
begun_on (n ∷ ns) = refl

-- numbers joined after others
pub joined-append : (text : ℕ → List ℕ) (begun : Bool) (xs ys : List ℕ)
    → joined_text text begun (xs ++ ys) ≡ joined_text text begun xs ++ joined_text text (begun_after begun xs) ys
joined-append text begun [] ys = refl
joined-append text begun (n ∷ ns) ys =
    ap (λ rest. between begun ++ (text n ++ rest))
    (joined-append text true ns ys ∙ ap (λ b. joined_text text true ns ++ joined_text text b ys) (begun_on ns))
    ∙ ap (λ rest. between begun ++ rest)
    (sym (append_assoc (text n) (joined_text text true ns) (joined_text text true ys)))
    ∙ sym (append_assoc (between begun) (text n ++ joined_text text true ns) (joined_text text true ys))

-- whether one is written, after two lists
pub begun-append : (begun : Bool) (xs ys : List ℕ)
    → begun_after begun (xs ++ ys) ≡ begun_after (begun_after begun xs) ys
begun-append begun [] ys = refl
begun-append begun (n ∷ ns) ys = sym (begun_on ys)

-- three lists of numbers, joined one after another
pub cut_text : (text : ℕ → List ℕ) (xs ys zs : List ℕ) (begun all : Bool) → begun ≡ begun_after false xs
    → all ≡ begun_after begun ys
    → (joined_text text false xs ++ joined_text text begun ys) ++ joined_text text all zs
    ≡ joined_text text false ((xs ++ ys) ++ zs)
cut_text text xs ys zs begun all is_begun is_all =
    let front : joined_text text false xs ++ joined_text text begun ys ≡ joined_text text false (xs ++ ys) =
    ap (λ b. joined_text text false xs ++ joined_text text b ys) is_begun ∙ sym (joined-append text false xs ys) in
    let now : all ≡ begun_after false (xs ++ ys) =
    is_all ∙ ap (λ b. begun_after b ys) is_begun ∙ sym (begun-append false xs ys) in
    ap (λ front. front ++ joined_text text all zs) front
    ∙ ap (λ b. joined_text text false (xs ++ ys) ++ joined_text text b zs) now
    ∙ sym (joined-append text false (xs ++ ys) zs)

-- one more number
pub joined_more : (text : ℕ → List ℕ) (begun now : Bool) (xs ys : List ℕ) (n : ℕ) → now ≡ begun_after begun xs
    → ys ≡ xs ++ (n ∷ []) → (joined_text text begun xs ++ between now) ++ text n ≡ joined_text text begun ys
joined_more text begun now xs ys n is is_more =
    append_assoc (joined_text text begun xs) (between now) (text n)
    ∙ ap (λ rest. joined_text text begun xs ++ (between now ++ rest)) (sym (append-nil (text n)))
    ∙ ap (λ b. joined_text text begun xs ++ joined_text text b (n ∷ [])) is
    ∙ sym (joined-append text begun xs (n ∷ []))
    ∙ ap (joined_text text begun) (sym is_more)

-- and one is written then
pub begun_more : (begun : Bool) (xs ys : List ℕ) (n : ℕ) → ys ≡ xs ++ (n ∷ []) → true ≡ begun_after begun ys
begun_more begun xs ys n is_more =
    sym (begun-append begun xs (n ∷ [])) ∙ ap (begun_after begun) (sym is_more)
