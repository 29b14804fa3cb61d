-- A list of bits as a set of numbers, and what a call on the bits makes of the set: `held_calls`, for a `tactic` line.
--
-- In each lemma the set before is `s`, that of the list `bits`.
use Rattle.std.proofs.Common.{◌≡◌, ℕ, ◌+◌, ◌<◌, ◌≤◌, ◌↔◌, ◌||◌, ◌&&◌, ◌++◌, Bool, true, false, not, cond, List, []}
use Rattle.std.proofs.Common.{length, set, count_by, drop, take, replicate, min, eqb, ltb, IsTrue}
use Rattle.std.proofs.Common.{refl, sym, subst, ap, ap₂, ◌∙◌, inl, inr, arith}
use mathlib.Core.Bool.{xor}
use Rattle.std.proofs.lemmas.Bool.{cases_eq}
use Rattle.std.proofs.lemmas.Bool.Decides.{nat_tests}
use Rattle.std.proofs.lemmas.List.{get_or_past}
use Rattle.std.specs.Cmp.{nat_cmp_total, unsigned_tied}
use Rattle.std.specs.FinSet.{FinSet, contains, difference, empty, insert, intersection, len, remove, retain, union}
use Rattle.std.specs.FinSet.{contains-difference, contains-empty, contains-from_list_nat, contains-insert}
use Rattle.std.specs.FinSet.{contains-intersection, contains-remove, contains-retain, contains-union}
use Rattle.std.specs.FinSet.{same_set, nat_cmp-IsAntisymmetric}
use Rattle.std.specs.List.{list_any}
use Rattle.std.specs.Ordering.{nat_cmp}
use Rattle.bit_containers.specs.Combined.{combined}
use Rattle.bit_containers.specs.Indices.{indices}
use Rattle.bit_containers.specs.Memory.{piece}
use Rattle.number_set.specs.Held.{held}
use Rattle.number_set.specs.Numbers.{rank, Lists}
use Rattle.bit_containers.proofs.BitLemmas.{bit, bit-set, bit-padded, bit-combined, length-combined, bit-take}
use Rattle.bit_containers.proofs.BitLemmas.{bit-moved}
use Rattle.bit_containers.proofs.BitLemmas.{bit-ones, bit-none, none-bit, first_part}
use Rattle.bit_containers.proofs.IndexLemmas.{ones, in_indices, len-indices, indices_ascend}

-- a number is in the set where its bit is 1
contains-held : (bits : List Bool) (n : ℕ) → contains (held bits) n ≡ bit bits n
unfolding held
contains-held bits n = contains-from_list_nat (ones 0 bits) n ∙ in_indices 0 n n bits (omega arith)

-- the set of these bits is this one
is_held : (bits : List Bool) (s : FinSet nat_cmp) → ((n : ℕ) → bit bits n ≡ contains s n) → held bits ≡ s
is_held bits s same =
    same_set nat_cmp_total nat_cmp-IsAntisymmetric (held bits) s (λ n. contains-held bits n ∙ same n)

-- ---- made

pub empty_is : (bits : List Bool) → bits ≡ [] → held bits ≡ empty
empty_is bits e = is_held bits empty (λ n. ap (λ xs. bit xs n) e ∙ sym (contains-empty nat_cmp n))

pub ones_are : (bits : List Bool) (n : ℕ) → bits ≡ replicate n true → (k : ℕ) → contains (held bits) k ≡ ltb k n
ones_are bits n e k = contains-held bits k ∙ ap (λ xs. bit xs k) e ∙ bit-ones n k

pub padded_is : (bits after : List Bool) (m : ℕ) → after ≡ bits ++ replicate m false → held after ≡ held bits
padded_is bits after m e =
    is_held after (held bits) (λ n. ap (λ xs. bit xs n) e ∙ bit-padded bits m n ∙ sym (contains-held bits n))

-- ---- tests of bits, as tests of sets

put_in : (t b : Bool) → cond t true b ≡ (t || b)
put_in true b = refl
put_in false b = refl

taken_out : (t b : Bool) → cond t false b ≡ (not t && b)
taken_out true b = refl
taken_out false b = refl

within_or : (t a b : Bool) → (t ≡ false → a ≡ false) → (t ≡ false → b ≡ false) → cond t (a || b) false ≡ (a || b)
within_or true a b no_a no_b = refl
within_or false a b no_a no_b = sym (ap₂ (λ x y. x || y) (no_a refl) (no_b refl))

within_and : (t a b : Bool) → (t ≡ false → a ≡ false) → cond t (a && b) false ≡ (a && b)
within_and true a b no_a = refl
within_and false a b no_a = sym (ap (λ x. x && b) (no_a refl))

or_then_xor : (t a b : Bool) → (t ≡ false → a ≡ false) → cond t (xor (cond t (a || b) false) b) false ≡ (a && not b)
unfolding xor
or_then_xor true true true no_a = refl
or_then_xor true true false no_a = refl
or_then_xor true false true no_a = refl
or_then_xor true false false no_a = refl
or_then_xor false a b no_a = sym (ap (λ x. x && not b) (no_a refl))

not_true : (b : Bool) → not b ≡ true → b ≡ false
not_true true e = sym e
not_true false e = refl

past : (xs : List Bool) (n m : ℕ) → length xs ≤ m → ltb n m ≡ false → bit xs n ≡ false
past xs n m short out = get_or_past xs n false (grind (arith, nat_tests))

module _ (bits : List Bool) (s : FinSet nat_cmp) (is : held bits ≡ s) where
  at : (n : ℕ) → contains s n ≡ bit bits n
  at n = ap (λ t. contains t n) (sym is) ∙ contains-held bits n

  -- ---- asked

  pub contains_is : (i : ℕ) (b : Bool) → b ≡ bit bits i → b ≡ contains s i
  contains_is i b e = e ∙ sym (at i)

  pub past_end : (i n : ℕ) → n ≡ length bits → n ≤ i → ltb i n ≡ contains s i
  past_end i n size high =
      let no : ltb i n ≡ false = grind (arith, nat_tests) in
      no ∙ sym (get_or_past bits i false (omega arith)) ∙ sym (at i)

  pub none_is : (b : Bool) → b ≡ not (list_any (λ x. x) bits) → IsTrue b ↔ (s ≡ empty)
  none_is b e = record {
    0 = λ yes.
        sym is ∙ is_held bits empty (λ n.
        none-bit bits (not_true (list_any (λ x. x) bits) (sym e ∙ yes)) n ∙ sym (contains-empty nat_cmp n));
    1 = λ none.
        e ∙ ap not (bit-none bits (λ n.
        sym (at n) ∙ ap (λ t. contains t n) none ∙ contains-empty nat_cmp n));
  }

  pub listed_is : (xs : List ℕ) → xs ≡ indices (λ b. b) 0 bits → Lists xs s
  unfolding held
  listed_is xs e =
      subst (λ ys. Lists ys s) (sym e) (record { numbers = is; ascending = indices_ascend 0 bits })

  -- the numbers below one are those of the first bits
  first_is : (end : ℕ) → held (take end bits) ≡ retain s (λ m. ltb m end)
  first_is end =
      let low : ℕ → Bool = λ m. ltb m end in
      is_held (take end bits) (retain s low) (λ n. bit-take bits end n
      ∙ sym (contains-retain s low n (λ x tie. ap low (sym (nat_cmp-IsAntisymmetric n x tie)))
      ∙ ap (λ b. b && low n) (at n)))

  rank_is : (end : ℕ) → rank s end ≡ count_by (λ b. b) (take end bits)
  unfolding held
  rank_is end = ap (λ t. len t) (sym (first_is end)) ∙ len-indices 0 (take end bits)

  -- of a window that shows the bits
  module _ (shown : List Bool) (same : shown ≡ bits) where
    pub len_is : (n : ℕ) → n ≡ count_by (λ b. b) shown → n ≡ len s
    unfolding held
    len_is n e =
        e ∙ ap (λ xs. count_by (λ b. b) xs) same ∙ sym (len-indices 0 bits) ∙ ap (λ t. len t) is

    pub rank_counted : (n end m size : ℕ) (part : List Bool) → n ≡ count_by (λ b. b) part → part ≡ piece shown 0 m
        → m ≡ min end size → size ≡ length shown → n ≡ rank s end
    rank_counted n end m size part e cut is_min is_size =
        let least : m ≡ min end (length shown) = is_min ∙ ap (λ k. min end k) is_size in
        let first : part ≡ take end shown = first_part shown part end (cut ∙ ap (λ k. piece shown 0 k) least) in
        e ∙ ap (λ xs. count_by (λ b. b) xs) (first ∙ ap (λ xs. take end xs) same) ∙ sym (rank_is end)

    pub selected_is : (i k : ℕ) → bit shown i ≡ true → count_by (λ b. b) (take i shown) ≡ k
        → (contains s i ≡ true) × (rank s i ≡ k)
    selected_is i k one before = (
      at i ∙ ap (λ xs. bit xs i) (sym same) ∙ one,
      rank_is i ∙ ap (λ xs. count_by (λ b. b) (take i xs)) (sym same) ∙ before,
    )

  -- ---- changed

  pub put_is : (after : List Bool) (i : ℕ) → i < length bits → after ≡ set bits i true → held after ≡ insert s i
  put_is after i low e =
      is_held after (insert s i) (λ n.
      ap (λ xs. bit xs n) e ∙ bit-set bits i n true low ∙ put_in (eqb n i) (bit bits n)
      ∙ sym (contains-insert nat_cmp_total s i n ∙ ap₂ (λ t b. t || b) (unsigned_tied n i) (at n)))

  pub taken_is : (after : List Bool) (i : ℕ) → i < length bits → after ≡ set bits i false → held after ≡ remove s i
  taken_is after i low e =
      is_held after (remove s i) (λ n.
      ap (λ xs. bit xs n) e ∙ bit-set bits i n false low ∙ taken_out (eqb n i) (bit bits n)
      ∙ sym (contains-remove nat_cmp_total s i n ∙ ap₂ (λ t b. not t && b) (unsigned_tied n i) (at n)))

  pub not_there : (i n : ℕ) → n ≡ length bits → n ≤ i → s ≡ remove s i
  not_there i n size high =
      sym is ∙ is_held bits (remove s i) (λ n.
      elim (cases_eq n i) [
        | inl same ↦
            let yes : eqb n i ≡ true = grind (arith, nat_tests) in
            get_or_past bits n false (omega arith)
            ∙ sym (contains-remove nat_cmp_total s i n
            ∙ ap (λ t. not t && contains s n) (unsigned_tied n i ∙ yes))
        | inr other ↦
            let no : eqb n i ≡ false = grind (arith, nat_tests) in
            sym (contains-remove nat_cmp_total s i n
            ∙ ap₂ (λ t b. not t && b) (unsigned_tied n i ∙ no) (at n))
      ])

  pub moved_is : (after : List Bool) (by m : ℕ) → after ≡ drop by bits ++ replicate m false
      → (n : ℕ) → contains (held after) n ≡ contains s (n + by)
  moved_is after by m e n =
      contains-held after n ∙ ap (λ xs. bit xs n) e ∙ bit-moved bits by m n ∙ sym (at (n + by))

  -- ---- combined with the bits of another set

  module _ (others : List Bool) (t : FinSet nat_cmp) (it : held others ≡ t) where
    also : (n : ℕ) → contains t n ≡ bit others n
    also n = ap (λ r. contains r n) (sym it) ∙ contains-held others n

    pub united_is : (after : List Bool) → length others ≤ length bits → after ≡ combined (λ a b. a || b) bits others
        → held after ≡ union s t
    united_is after short e =
        is_held after (union s t) (λ n.
        ap (λ xs. bit xs n) e ∙ bit-combined (λ a b. a || b) bits others n
        ∙ within_or (ltb n (length bits)) (bit bits n) (bit others n)
        (past bits n (length bits) (omega arith)) (past others n (length bits) short)
        ∙ sym (contains-union nat_cmp_total s t n ∙ ap₂ (λ a b. a || b) (at n) (also n)))

    pub shared_is : (after : List Bool) → after ≡ combined (λ a b. a && b) bits others → held after ≡ intersection s t
    shared_is after e =
        is_held after (intersection s t) (λ n.
        ap (λ xs. bit xs n) e ∙ bit-combined (λ a b. a && b) bits others n
        ∙ within_and (ltb n (length bits)) (bit bits n) (bit others n) (past bits n (length bits) (omega arith))
        ∙ sym (contains-intersection nat_cmp_total s t n ∙ ap₂ (λ a b. a && b) (at n) (also n)))

    pub without_is : (middle after : List Bool) → middle ≡ combined (λ a b. a || b) bits others
        → after ≡ combined xor middle others → held after ≡ difference s t
    without_is middle after e f =
        let size : length middle ≡ length bits =
        ap (λ xs. length xs) e ∙ length-combined (λ a b. a || b) bits others in
        is_held after (difference s t) (λ n.
        ap (λ xs. bit xs n) f ∙ bit-combined xor middle others n
        ∙ ap (λ m. cond (ltb n m) (xor (bit middle n) (bit others n)) false) size
        ∙ ap (λ a. cond (ltb n (length bits)) (xor a (bit others n)) false)
        (ap (λ xs. bit xs n) e ∙ bit-combined (λ a b. a || b) bits others n)
        ∙ or_then_xor (ltb n (length bits)) (bit bits n) (bit others n) (past bits n (length bits) (omega arith))
        ∙ sym (contains-difference nat_cmp_total s t n ∙ ap₂ (λ a b. a && not b) (at n) (also n)))

pub ruleset held_calls = (
  empty_is,
  ones_are,
  padded_is,
  contains_is,
  past_end,
  none_is,
  listed_is,
  put_is,
  taken_is,
  not_there,
  moved_is,
  united_is,
  shared_is,
  without_is,
)
