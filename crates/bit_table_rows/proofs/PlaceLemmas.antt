-- Where rows of w bits each begin and end.
use Rattle.std.proofs.Common.{◌≡◌, ℕ, ◌+◌, ◌-◌, ◌*◌, ◌<◌, ◌≤◌, sym, ap, ◌∙◌, arith, add-mul, mul-le-mul_right}

-- earlier rows begin no later
pub place_order : (p q w : ℕ) → p ≤ q → p * w ≤ q * w
place_order p q w order = mul-le-mul_right w order

-- the row that is k rows behind another
pub place_behind : (p k w : ℕ) → (p + k) * w ≡ p * w + k * w
place_behind p k w = add-mul p k w

-- between two rows lie the bits of those between them
pub place_apart : (p q w : ℕ) → p ≤ q → q * w - p * w ≡ (q - p) * w
place_apart p q w order =
    let all : p + (q - p) ≡ q = omega arith in
    let split : p * w + (q - p) * w ≡ q * w = sym (place_behind p (q - p) w) ∙ ap (λ k. k * w) all in
    omega arith

-- a row ends where the next begins
pub place_next : (p w : ℕ) → (p + 1) * w ≡ p * w + w
place_next p w = place_behind p 1 w ∙ omega arith

-- k rows of the first n, from row r on, end among them
pub place_part : (r k n w : ℕ) → r + k ≤ n → r * w + k * w ≤ n * w
place_part r k n w inside = omega (arith, place_behind r k w, place_order (r + k) n w inside)

-- a row of the first n ends among them
pub place_end : (p n w : ℕ) → p < n → p * w + w ≤ n * w
place_end p n w low = omega (arith, place_part p 1 n w (omega arith))

pub ruleset row_places = (place_order, place_apart, place_next, place_end)
