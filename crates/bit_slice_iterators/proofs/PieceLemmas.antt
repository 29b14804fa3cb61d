-- The two ends of the pieces that are left and of where they begin, and how many they are.
use Rattle.std.proofs.Common.{◌≡◌, ℕ, suc, ◌+◌, ◌-◌, ◌%◌, ◌<◌, Bool, List, [], ◌∷◌, ◌++◌, length, refl, ap, ◌∙◌, arith}
use Rattle.std.proofs.lemmas.List.FromFn.{length-map-range_with_len, map-range_with_len_more}
use Rattle.bit_addressing_memory.specs.Memory.{piece}
use Rattle.bit_slice_iterators.specs.Cuts.{Cut, some_heads, some_pieces}

-- none are left where the two ends meet
pub pieces-none : (cut : Cut) (bits : List Bool) (k front back : ℕ) → front ≡ back
    → some_pieces cut bits k front (back - front) ≡ []
pieces-none cut bits k front back same = let none : back - front ≡ 0 = omega arith in rw none refl

-- the first of them, and the others
pub pieces-first : (cut : Cut) (bits : List Bool) (k front back : ℕ) → front < back
    → some_pieces cut bits k front (back - front)
    ≡ piece bits (cut.start (length bits) k front) (cut.size (length bits) k front)
    ∷ some_pieces cut bits k (front + 1) (back - (front + 1))
pieces-first cut bits k front back below =
    let more : back - front ≡ suc (back - (front + 1)) = omega arith in
    rw more refl

-- the last of them, and the others
pub pieces-last : (cut : Cut) (bits : List Bool) (k front back last : ℕ) → front < back → last ≡ back - 1
    → some_pieces cut bits k front (back - front)
    ≡ some_pieces cut bits k front (last - front)
    ++ piece bits (cut.start (length bits) k last) (cut.size (length bits) k last) ∷ []
pieces-last cut bits k front back last below e =
    let more : back - front ≡ last - front + 1 = omega arith in
    ap (some_pieces cut bits k front) more
    ∙ map-range_with_len_more
    (λ i. piece bits (cut.start (length bits) k i) (cut.size (length bits) k i)) front (last - front) last (omega arith)

-- how many they are
pub length-pieces : (cut : Cut) (bits : List Bool) (k front back : ℕ)
    → length (some_pieces cut bits k front (back - front)) ≡ back - front
length-pieces cut bits k front back =
    length-map-range_with_len (λ i. piece bits (cut.start (length bits) k i) (cut.size (length bits) k i)) front
    (back - front)

-- where they begin: none, the first and the others, the last and the others
pub heads-none : (cut : Cut) (b h n k front back : ℕ) → front ≡ back → some_heads cut b h n k front (back - front) ≡ []
heads-none cut b h n k front back same = let none : back - front ≡ 0 = omega arith in rw none refl

pub heads-first : (cut : Cut) (b h n k front back : ℕ) → front < back
    → some_heads cut b h n k front (back - front)
    ≡ (h + cut.start n k front) % b ∷ some_heads cut b h n k (front + 1) (back - (front + 1))
heads-first cut b h n k front back below =
    let more : back - front ≡ suc (back - (front + 1)) = omega arith in
    rw more refl

pub heads-last : (cut : Cut) (b h n k front back last : ℕ) → front < back → last ≡ back - 1
    → some_heads cut b h n k front (back - front)
    ≡ some_heads cut b h n k front (last - front) ++ (h + cut.start n k last) % b ∷ []
heads-last cut b h n k front back last below e =
    let more : back - front ≡ last - front + 1 = omega arith in
    ap (some_heads cut b h n k front) more
    ∙ map-range_with_len_more (λ i. (h + cut.start n k i) % b) front (last - front) last (omega arith)

pub ruleset ends_of_pieces =
    (pieces-none, pieces-first, pieces-last, length-pieces, heads-none, heads-first, heads-last)
