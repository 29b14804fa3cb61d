-- The weights of a window's bits: they are the numbers below the window's length, each that of one bit.
--
-- Below it: `weight_within`. Apart: `weights_apart`. Each: `weight_onto`. In window order whatever the start: `weight_up` (the first
-- segment lowest, each from its lowest end), `weight_down`.
use Rattle.std.proofs.Common.{◌≡◌, ℕ, ◌+◌, ◌-◌, ◌*◌, ◌/◌, ◌%◌, ◌<◌, ◌≤◌, ◌∙◌}
use Rattle.std.proofs.Common.{Bool, true, false, min, arith, refl, sym, ap}
use Rattle.std.proofs.lemmas.Nat.{div-add-mod', div-mul-add}
use Rattle.std.proofs.Math.Nat.{min-le_left, min-le_right}
use Rattle.std.specs.Prelude.{if◌then◌else◌}
use Rattle.bit_slice_fields.specs.Number.{segment_start, segment_end, lower_bits, weight}
use Rattle.bit_slice_fields.specs.Pieces.{least_bit}

-- bit i lies in the segment from bit s up to before bit e, whose word begins at the place p
pub record InSegment (b h n i p s e : ℕ) : Type 0 where
  pub from : s ≤ i
  pub upto : i < e
  pub end : e ≤ n
  pub low : p ≤ h + s
  pub high : h + e ≤ p + b

in_segment : (b h n i p : ℕ) → p ≤ h + i → h + i < p + b → i < n
    → InSegment b h n i p (p - h) (min n (p + b - h))
in_segment b h n i p low high inside = record {
  from = omega arith;
  upto = omega arith;
  end = min-le_left n (p + b - h);
  low = omega arith;
  high = omega (arith, min-le_right n (p + b - h));
}

-- the segment of bit i
pub of_bit : (b h n i : ℕ) → 0 < b → i < n
    → InSegment b h n i ((h + i) / b * b) (segment_start b h i) (segment_end b h n i)
of_bit b h n i some inside =
    let at : (h + i) / b * b + (h + i) % b ≡ h + i = div-add-mod' (h + i) b in
    in_segment b h n i ((h + i) / b * b) (omega arith) (omega arith) inside

-- a bit of the segment of bit s lies in the same word
pub same_segment : (b h n s k : ℕ) → 0 < b → s < n → s ≤ k → k < segment_end b h n s → (h + k) / b ≡ (h + s) / b
same_segment b h n s k some inside from upto =
    let f = of_bit b h n s some inside in
    let p : ℕ = (h + s) / b * b in
    let r : ℕ = h + k - p in
    let low : p ≤ h + k = omega (arith, f.low, f.from) in
    let high : h + k < p + b = omega (arith, f.high) in
    let at : p + r ≡ h + k = omega arith in
    rw (← at) (div-mul-add ((h + s) / b) b r (omega arith))

-- ---- in window order

-- the first bit weighs least
pub weight_up : (b h n i : ℕ) → 0 < b → i < n → weight true true b h n i ≡ i
weight_up b h n i some inside = let f = of_bit b h n i some inside in omega (arith, f.from)

-- the first bit weighs most
pub weight_down : (b h n i : ℕ) → 0 < b → i < n → weight false false b h n i ≡ n - 1 - i
weight_down b h n i some inside =
    let f = of_bit b h n i some inside in
    omega (arith, f.from, f.upto, f.end)

-- ---- mirrored in each segment

abbrev mirror : ℕ → ℕ → ℕ → ℕ → ℕ
mirror b h n i = segment_start b h i + (segment_end b h n i - 1 - i)

mirror_within : (b h n i : ℕ) → 0 < b → i < n → mirror b h n i < n
mirror_within b h n i some inside =
    let f = of_bit b h n i some inside in
    omega (arith, f.from, f.upto, f.end)

-- it lies in the same segment
mirror_segment : (b h n i : ℕ) → 0 < b → i < n → (h + mirror b h n i) / b ≡ (h + i) / b
mirror_segment b h n i some inside =
    let f = of_bit b h n i some inside in
    let p : ℕ = (h + i) / b * b in
    let r : ℕ = h + mirror b h n i - p in
    let low : p ≤ h + mirror b h n i = omega (arith, f.low, f.from, f.upto) in
    let high : h + mirror b h n i < p + b = omega (arith, f.high, f.from, f.upto) in
    let at : p + r ≡ h + mirror b h n i = omega arith in
    rw (← at) (div-mul-add ((h + i) / b) b r (omega arith))

-- mirrored again it is where it was
mirror_back : (b h n i : ℕ) → 0 < b → i < n → mirror b h n (mirror b h n i) ≡ i
mirror_back b h n i some inside =
    let q = mirror_segment b h n i some inside in
    let m : ℕ = mirror b h n i in
    let s : segment_start b h m ≡ segment_start b h i = ap (λ q. q * b - h) q in
    let e : segment_end b h n m ≡ segment_end b h n i = ap (λ q. min n (q * b + b - h)) q in
    let f = of_bit b h n i some inside in
    omega (arith, s, e, f.from, f.upto)

mirror_apart : (b h n i j : ℕ) → 0 < b → i < n → j < n → mirror b h n i ≡ mirror b h n j → i ≡ j
mirror_apart b h n i j some low_i low_j same =
    sym (mirror_back b h n i some low_i) ∙ ap (mirror b h n) same ∙ mirror_back b h n j some low_j

-- the other end first mirrors all
weight_mirrored : (b h n i : ℕ) → 0 < b → i < n → weight true false b h n i ≡ n - 1 - mirror b h n i
weight_mirrored b h n i some inside =
    let f = of_bit b h n i some inside in
    omega (arith, f.from, f.upto, f.end)

flip_apart : (n x y : ℕ) → x < n → y < n → n - 1 - x ≡ n - 1 - y → x ≡ y
flip_apart n x y low_x low_y same = omega arith

-- ---- all four

pub weight_within : (low le : Bool) (b h n i : ℕ) → 0 < b → i < n → weight low le b h n i < n
weight_within true true b h n i some inside = rw (weight_up b h n i some inside) inside
weight_within false true b h n i some inside = mirror_within b h n i some inside
weight_within true false b h n i some inside =
    rw (weight_mirrored b h n i some inside) (omega (arith, inside))
weight_within false false b h n i some inside = rw (weight_down b h n i some inside) (omega (arith, inside))

pub weights_apart : (low le : Bool) (b h n i j : ℕ) → 0 < b → i < n → j < n
    → weight low le b h n i ≡ weight low le b h n j → i ≡ j
weights_apart true true b h n i j some low_i low_j same =
    sym (weight_up b h n i some low_i) ∙ same ∙ weight_up b h n j some low_j
weights_apart false true b h n i j some low_i low_j same = mirror_apart b h n i j some low_i low_j same
weights_apart true false b h n i j some low_i low_j same =
    mirror_apart b h n i j some low_i low_j
    (flip_apart n (mirror b h n i) (mirror b h n j) (mirror_within b h n i some low_i)
    (mirror_within b h n j some low_j)
    (sym (weight_mirrored b h n i some low_i) ∙ same ∙ weight_mirrored b h n j some low_j))
weights_apart false false b h n i j some low_i low_j same =
    flip_apart n i j low_i low_j
    (sym (weight_down b h n i some low_i) ∙ same ∙ weight_down b h n j some low_j)

-- each weight is that of a bit
pub weight_onto : (low le : Bool) (b h n p : ℕ) → 0 < b → p < n
    → (i : ℕ) × (i < n) × (weight low le b h n i ≡ p)
weight_onto true true b h n p some inside = (p, inside, weight_up b h n p some inside)
weight_onto false true b h n p some inside =
    (mirror b h n p, mirror_within b h n p some inside, mirror_back b h n p some inside)
weight_onto true false b h n p some inside =
    let q : ℕ = n - 1 - p in
    let low : q < n = omega arith in
    let there = mirror_within b h n q some low in (
      mirror b h n q,
      there,
      weight_mirrored b h n (mirror b h n q) some there
          ∙ omega (arith, mirror_back b h n q some low),
    )
weight_onto false false b h n p some inside =
    let low : n - 1 - p < n = omega arith in
    (n - 1 - p, low, weight_down b h n (n - 1 - p) some low ∙ omega arith)

-- how many bits of the segment of bit s weigh less than the least of those from it up to before bit e
abbrev pub least_inner : Bool → ℕ → ℕ → ℕ → ℕ → ℕ → ℕ
least_inner true b h n s e = s - segment_start b h s
least_inner false b h n s e = segment_end b h n s - e

last_inner : (last e : ℕ) → 0 < e → last - 1 - (e - 1) ≡ last - e
last_inner last e some = omega arith

-- the bit that weighs least, of those from bit s up to before bit e in one segment
pub least_in_segment : (low le : Bool) (b h n s e : ℕ) → 0 < b → s < e → e ≤ n → e ≤ segment_end b h n s
    → weight low le b h n (least_bit low s e) ≡ lower_bits le b h n s + least_inner low b h n s e
least_in_segment true le b h n s e some order inside upto = refl
least_in_segment false true b h n s e some order inside upto =
    let q = same_segment b h n s (e - 1) some (omega arith) (omega arith) (omega arith) in
    ap (λ k. k * b - h + (min n (k * b + b - h) - 1 - (e - 1))) q
    ∙ ap (λ i. segment_start b h s + i) (last_inner (segment_end b h n s) e (omega arith))
least_in_segment false false b h n s e some order inside upto =
    let q = same_segment b h n s (e - 1) some (omega arith) (omega arith) (omega arith) in
    ap (λ k. n - min n (k * b + b - h) + (min n (k * b + b - h) - 1 - (e - 1))) q
    ∙ ap (λ i. n - segment_end b h n s + i) (last_inner (segment_end b h n s) e (omega arith))

-- and where all bits weigh in turn
pub least_in_turn : (low : Bool) (b h n s e : ℕ) → 0 < b → s < e → e ≤ n
    → weight low low b h n (least_bit low s e) ≡ if low then s else n - e
least_in_turn true b h n s e some order inside = weight_up b h n s some (omega arith)
least_in_turn false b h n s e some order inside = weight_down b h n (e - 1) some (omega arith) ∙ omega arith
