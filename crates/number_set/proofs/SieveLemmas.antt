-- The steps of a sieve.
use Rattle.std.proofs.Common.{◌≡◌, ◌≢◌, ◌↔◌, ℕ, ◌+◌, ◌*◌, ◌<◌, ◌≤◌, ◌&&◌, Bool, true, false, not}
use Rattle.std.proofs.Common.{refl, sym, ap, ◌∙◌, inl, inr, arith, eqb, ltb}
use Rattle.std.proofs.Math.Nat.{mul-le-mul_left, mul-le-mul_right, mul_comm, mul_assoc}
use Rattle.std.proofs.lemmas.Bool.{cases_lt, cases_eq, true≢false}
use Rattle.std.proofs.lemmas.Bool.Decides.{nat_tests}
use Rattle.std.specs.Cmp.{nat_cmp_total, unsigned_tied}
use Rattle.std.specs.FinSet.{FinSet, contains, contains-remove, remove}
use Rattle.std.specs.Ordering.{nat_cmp}
use Rattle.number_set.specs.Primes.{IsPrime, IsLeft, Strikes}

-- the numbers of a set are those that are left
abbrev pub Sieved : FinSet nat_cmp → ℕ → ℕ → Type 0
Sieved left factor end = (n : ℕ) → (contains left n ≡ true) ↔ IsLeft factor end n

-- without one number
less : (s : FinSet nat_cmp) (k q : ℕ) → contains (remove s k) q ≡ (not (eqb q k) && contains s q)
less s k q = contains-remove nat_cmp_total s k q ∙ ap (λ t. not t && contains s q) (unsigned_tied q k)

less_same : (s : FinSet nat_cmp) (k : ℕ) → contains (remove s k) k ≡ false
less_same s k =
    let yes : eqb k k ≡ true = grind (arith, nat_tests) in
    less s k k ∙ ap (λ t. not t && contains s k) yes

less_other : (s : FinSet nat_cmp) (k q : ℕ) → q ≢ k → contains (remove s k) q ≡ contains s q
less_other s k q other =
    let no : eqb q k ≡ false = grind (arith, nat_tests) in
    less s k q ∙ ap (λ t. not t && contains s q) no

both : (a b : Bool) → (a && b) ≡ true → b ≡ true
both true b e = e
both false b e = absurd (true≢false (sym e))

less_from : (s : FinSet nat_cmp) (k q : ℕ) → contains (remove s k) q ≡ true → contains s q ≡ true
less_from s k q e = both (not (eqb q k)) (contains s q) (sym (less s k q) ∙ e)

-- no multiple is struck yet
pub strikes_none : (s : FinSet nat_cmp) (factor : ℕ) → Strikes s s factor (λ b. b < factor)
strikes_none s factor = record {
  none_new = λ n e. e;
  others = λ n apart. refl;
  struck = λ b low high. absurd (omega arith);
}

-- one more
pub strikes_more : (old s : FinSet nat_cmp) (factor other : ℕ) → factor ≤ other → Strikes old s factor (λ b. b < other)
    → Strikes old (remove s (factor * other)) factor (λ b. b < other + 1)
strikes_more old s factor other from far = record {
  none_new = λ n e. far.none_new n (less_from s (factor * other) n e);
  others = λ n apart. less_other s (factor * other) n (λ e. apart other from (sym e)) ∙ far.others n apart;
  struck = λ b low high. elim (cases_eq (factor * b) (factor * other)) [
    | inl same ↦ ap (λ q. contains (remove s (factor * other)) q) same ∙ less_same s (factor * other)
    | inr apart ↦ elim (cases_lt b other) [
      | inl below ↦ less_other s (factor * other) (factor * b) apart ∙ far.struck b low below
      | inr above ↦
          let same : b ≡ other = omega arith in
          absurd (apart (ap (λ m. factor * m) same))
    ]
  ];
}

-- all below the end
pub strikes_all : (old s : FinSet nat_cmp) (factor other end : ℕ) → end ≤ factor * other
    → Strikes old s factor (λ b. b < other) → Strikes old s factor (λ b. factor * b < end)
strikes_all old s factor other end far it = record {
  none_new = it.none_new;
  others = it.others;
  struck = λ b low high. elim (cases_lt b other) [
    | inl below ↦ it.struck b low below
    | inr above ↦ let more : factor * other ≤ factor * b = mul-le-mul_left factor above in absurd (omega arith)
  ];
}

weaker : (factor end n : ℕ) → IsLeft (factor + 1) end n → IsLeft factor end n
weaker factor end n it = record {
  inside = it.inside;
  least = it.least;
  no_product = λ a b two low two_b. it.no_product a b two (omega arith) two_b;
}

-- all numbers but 0 and 1 are left at first
pub sieve_begun : (s : FinSet nat_cmp) (end : ℕ) → ((n : ℕ) → contains s n ≡ ltb n end)
    → Sieved (remove (remove s 0) 1) 2 end
sieve_begun s end all n = record {
  0 = λ e.
      let in_one : contains (remove s 0) n ≡ true = less_from (remove s 0) 1 n e in
      let in_all : ltb n end ≡ true = sym (all n) ∙ less_from s 0 n in_one in
      let not_one : n ≢ 1 = λ is. true≢false (sym e ∙ ap (λ q. contains (remove (remove s 0) 1) q) is ∙ less_same (remove s 0) 1) in
      let not_zero : n ≢ 0 = λ is. true≢false (sym in_one ∙ ap (λ q. contains (remove s 0) q) is ∙ less_same s 0) in
      record {
        inside = grind (arith, nat_tests);
        least = grind arith;
        no_product = λ a b two low two_b. absurd (omega arith);
      };
  1 = λ it.
      let in_all : ltb n end ≡ true = let low : n < end = it.inside in grind (arith, nat_tests) in
      let two : 2 ≤ n = it.least in
      less_other (remove s 0) 1 n (omega arith) ∙ less_other s 0 n (omega arith) ∙ all n ∙ in_all;
}

-- a factor that is left, with its multiples struck
pub sieve_struck : (s t : FinSet nat_cmp) (factor end : ℕ) → 2 ≤ factor → Sieved s factor end
    → Strikes s t factor (λ b. factor * b < end) → Sieved t (factor + 1) end
sieve_struck s t factor end two far it n = record {
  0 = λ e.
      let was : IsLeft factor end n = (far n).0 (it.none_new n e) in
      record {
        inside = was.inside;
        least = was.least;
        no_product = λ a b two_a low two_b is. elim (cases_lt a factor) [
          | inl below ↦ was.no_product a b two_a below two_b is
          | inr above ↦
              let same : a ≡ factor = omega arith in
              let product : factor * b ≡ n = ap (λ m. m * b) (sym same) ∙ is in
              elim (cases_lt b factor) [
                | inl small ↦ was.no_product b factor two_b small two (mul_comm b factor ∙ product)
                | inr large ↦
                    let inside : factor * b < end = let low_n : n < end = was.inside in omega (arith, product) in
                    true≢false (sym e ∙ ap (λ q. contains t q) (sym product) ∙ it.struck b large inside)
              ]
        ];
      };
  1 = λ left.
      it.others n (λ b low is. left.no_product factor b two (omega arith) (omega arith) is)
      ∙ (far n).1 (weaker factor end n left);
}

-- a factor that is not: its multiples are gone with those of a smaller one
pub sieve_passed : (s : FinSet nat_cmp) (factor end : ℕ) → 2 ≤ factor → factor < end → Sieved s factor end
    → contains s factor ≡ false → Sieved s (factor + 1) end
sieve_passed s factor end two low far gone n = record {
  0 = λ e.
      let was : IsLeft factor end n = (far n).0 e in
      record {
        inside = was.inside;
        least = was.least;
        no_product = λ a b two_a low_a two_b is. elim (cases_lt a factor) [
          | inl below ↦ was.no_product a b two_a below two_b is
          | inr above ↦
              let same : a ≡ factor = omega arith in
              let product : factor * b ≡ n = ap (λ m. m * b) (sym same) ∙ is in
              let there : IsLeft factor end factor = record {
                inside = low;
                least = two;
                no_product = λ c d two_c low_c two_d was_product.
                    let whole : c * (d * b) ≡ n = sym (mul_assoc c d b) ∙ ap (λ m. m * b) was_product ∙ product in
                    let more : d * 1 ≤ d * b = mul-le-mul_left d (omega arith) in
                    was.no_product c (d * b) two_c low_c (omega arith) whole;
              } in
              true≢false (sym ((far factor).1 there) ∙ gone)
        ];
      };
  1 = λ left. (far n).1 (weaker factor end n left);
}

-- a product of two numbers that are no less than a factor is no less than its square
square_least : (factor a b : ℕ) → factor ≤ a → factor ≤ b → factor * factor ≤ a * b
square_least factor a b low_a low_b =
    let one : factor * factor ≤ factor * b = mul-le-mul_left factor low_b in
    let two : factor * b ≤ a * b = mul-le-mul_right b low_a in
    omega arith

-- no number below the square of a factor has none but greater factors
pub sieve_done : (s : FinSet nat_cmp) (factor end : ℕ) → end ≤ factor * factor → Sieved s factor end
    → (n : ℕ) → (contains s n ≡ true) ↔ ((n < end) × IsPrime n)
sieve_done s factor end square far n = record {
  0 = λ e.
      let left : IsLeft factor end n = (far n).0 e in
      let low : n < end = left.inside in (
        low,
        record {
          least = left.least;
          no_product = λ a b two_a two_b is. elim (cases_lt a factor) [
            | inl small ↦ left.no_product a b two_a small two_b is
            | inr large ↦ elim (cases_lt b factor) [
              | inl small_b ↦ left.no_product b a two_b small_b two_a (mul_comm b a ∙ is)
              | inr large_b ↦ let least = square_least factor a b large large_b in absurd (omega arith)
            ]
          ];
        },
      );
  1 = λ (low, prime). (far n).1 (record {
    inside = low;
    least = prime.least;
    no_product = λ a b two_a low_a two_b. prime.no_product a b two_a two_b;
  });
}

-- what has a square below another's is below it
pub below_root : (n m : ℕ) → n * n < m * m → n < m
below_root n m low =
    elim (cases_lt n m) [
      | inl below ↦ below
      | inr above ↦ let least = square_least m n n above above in absurd (omega arith)
    ]
