-- What fields take, by the least number and the greatest.
use Rattle.std.proofs.Common.{◌≡◌, ℕ, ◌≤◌, ◌^◌, ◌-◌, ◌&&◌, Bool, true, false, ℤ, pos, ◌≤ℤ◌, ◌<ℤ◌, List, [], length}
use Rattle.std.proofs.Common.{get_or}
use Rattle.std.proofs.Common.{refl, sym, subst, cond, ◌∙◌, ap, arith, inl, inr, ◌+◌, below_more}
use Rattle.std.specs.Prelude.{int_le, int_lt, ◌⊎◌, ◌↔◌, Option, Some, None, IfSome, IsNone}
use Rattle.std.proofs.lemmas.Int.{ints}
use Rattle.std.proofs.Math.Nat.{one-le-pow}
use Rattle.std.specs.Ordering.{ord_min, ord_max, int_cmp, is_lt, MatchOrdering}
use Rattle.std.specs.Cmp.{int_ranks}
use Rattle.std.specs.declared.cmp.Ordering.{Ordering}
use Rattle.std.specs.declared.cmp.Ordering.TheVariants.{Less, Equal, Greater}
use Rattle.std.proofs.lemmas.Bool.{and_parts, and_from}
use Rattle.bit_table.specs.Fields.{FieldShape, takes, least, limit}
use Rattle.column_table.specs.declared.width.Kind.{Kind}
use Rattle.column_table.specs.Widths.{kind_takes, take_both, TakesAll, HasNegative, IsNarrowest, NoneTakes}
use Rattle.column_table.specs.Widths.{IsZeroOr, IsRange, IsNarrowestBetween}

in_between : (l u low n high : ℤ) → low ≤ℤ n → n ≤ℤ high → int_le l low && int_lt low u ≡ true
    → int_le l high && int_lt high u ≡ true → int_le l n && int_lt n u ≡ true
in_between l u low n high a b c d = grind (arith, ints)

-- a field takes each number between two that it takes
pub takes_between : (f : FieldShape) (low n high : ℤ) → low ≤ℤ n → n ≤ℤ high → takes f low ≡ true
    → takes f high ≡ true → takes f n ≡ true
takes_between f low n high a b c d = in_between (least f) (limit f) low n high a b c d

-- each field takes 0
takes_none : (signed : Bool) (w : ℕ) → kind_takes (record { signed = signed; width = w }) (pos 0) ≡ true
takes_none true w = let some : 1 ≤ 2 ^ (w - 1) = one-le-pow (w - 1) 2 (omega arith) in grind (arith, ints)
takes_none false w = let some : 1 ≤ 2 ^ w = one-le-pow w 2 (omega arith) in grind (arith, ints)

pub takes_0 : (kind : Kind) → kind_takes kind (pos 0) ≡ true
takes_0 kind = takes_none kind.signed kind.width

-- a kind that takes the least and the greatest takes all
pub takes_all : (kind : Kind) (numbers : List ℤ) (least greatest : ℤ) → IsRange (length numbers) numbers least greatest
    → take_both kind least greatest ≡ true → TakesAll kind numbers
takes_all kind numbers least greatest range both k h =
    let parts = and_parts (kind_takes kind least) (kind_takes kind greatest) both in
    takes_between (record { name = []; width = kind.width; signed = kind.signed }) least (get_or numbers k (pos 0)) greatest
    (range.lower k h) (range.upper k h) parts.0 parts.1

takes_zero_or : (kind : Kind) (numbers : List ℤ) (n : ℤ) → TakesAll kind numbers → IsZeroOr (length numbers) numbers n
    → kind_takes kind n ≡ true
takes_zero_or kind numbers n all (inl e) = ap (kind_takes kind) e ∙ takes_0 kind
takes_zero_or kind numbers n all (inr (k, h, e)) = ap (kind_takes kind) (sym e) ∙ all k h

-- and one that takes all takes these two
pub takes_both : (kind : Kind) (numbers : List ℤ) (least greatest : ℤ) → IsRange (length numbers) numbers least greatest
    → TakesAll kind numbers → take_both kind least greatest ≡ true
takes_both kind numbers least greatest range all =
    and_from (kind_takes kind least) (kind_takes kind greatest)
    (takes_zero_or kind numbers least all range.least_is) (takes_zero_or kind numbers greatest all range.greatest_is)

-- the least is negative where one of the numbers is
negative_least : (numbers : List ℤ) (least : ℤ) → IsZeroOr (length numbers) numbers least → int_lt least (pos 0) ≡ true
    → HasNegative numbers
negative_least numbers least (inl e) h = absurd (grind (arith, ints))
negative_least numbers least (inr (k, below, e)) h = (k, below, ap (λ n. int_lt n (pos 0)) e ∙ h)

least_below : (least n : ℤ) → least ≤ℤ n → int_lt n (pos 0) ≡ true → int_lt least (pos 0) ≡ true
least_below least n a b = grind (arith, ints)

pub negative : (numbers : List ℤ) (least greatest : ℤ) → IsRange (length numbers) numbers least greatest
    → (int_lt least (pos 0) ≡ true) ↔ HasNegative numbers
negative numbers least greatest range = (
  negative_least numbers least range.least_is,
  λ has. least_below least (get_or numbers has.0 (pos 0)) (range.lower has.0 has.1) has.2,
)

-- ---- one number more

record IsLesser (a b r : ℤ) : Type 0 where
  one : r ≤ℤ a
  other : r ≤ℤ b
  is : (r ≡ a) ⊎ (r ≡ b)

lesser_from : (o : Ordering) (a b : ℤ) → MatchOrdering o (b <ℤ a) (b ≡ a) (a <ℤ b) → IsLesser a b (cond (is_lt o) b a)
lesser_from Less a b h = record { one = grind (arith, ints); other = grind (arith, ints); is = inr refl }
lesser_from Equal a b h = record { one = grind (arith, ints); other = grind (arith, ints); is = inl refl }
lesser_from Greater a b h = record { one = grind (arith, ints); other = grind (arith, ints); is = inl refl }

lesser : (a b r : ℤ) → r ≡ ord_min int_cmp a b → IsLesser a b r
lesser a b r e = subst (IsLesser a b) (sym e) (lesser_from (int_cmp b a) a b (int_ranks b a))

record IsGreater (a b r : ℤ) : Type 0 where
  one : a ≤ℤ r
  other : b ≤ℤ r
  is : (r ≡ a) ⊎ (r ≡ b)

greater_from : (o : Ordering) (a b : ℤ) → MatchOrdering o (b <ℤ a) (b ≡ a) (a <ℤ b) → IsGreater a b (cond (is_lt o) a b)
greater_from Less a b h = record { one = grind (arith, ints); other = grind (arith, ints); is = inl refl }
greater_from Equal a b h = record { one = grind (arith, ints); other = grind (arith, ints); is = inr refl }
greater_from Greater a b h = record { one = grind (arith, ints); other = grind (arith, ints); is = inr refl }

greater : (a b r : ℤ) → r ≡ ord_max int_cmp a b → IsGreater a b r
greater a b r e = subst (IsGreater a b) (sym e) (greater_from (int_cmp b a) a b (int_ranks b a))

zero_or_more : (count : ℕ) (numbers : List ℤ) (n r : ℤ) → IsZeroOr count numbers n
    → (r ≡ n) ⊎ (r ≡ get_or numbers count (pos 0)) → IsZeroOr (count + 1) numbers r
zero_or_more count numbers n r (inl e) (inl same) = inl (same ∙ e)
zero_or_more count numbers n r (inr (k, h, e)) (inl same) = inr (k, omega arith, e ∙ sym same)
zero_or_more count numbers n r is (inr same) = inr (count, omega arith, sym same)

at_most : (a b c : ℤ) → a ≤ℤ b → b ≤ℤ c → a ≤ℤ c
at_most a b c h k = omega (arith, ints)

pub range_more : (count : ℕ) (numbers : List ℤ) (least greatest low high : ℤ) → IsRange count numbers least greatest
    → low ≡ ord_min int_cmp least (get_or numbers count (pos 0))
    → high ≡ ord_max int_cmp greatest (get_or numbers count (pos 0)) → IsRange (count + 1) numbers low high
range_more count numbers least greatest low high range e f =
    let n = get_or numbers count (pos 0) in
    let down = lesser least n low e in
    let up = greater greatest n high f in
    record {
      low = at_most low least (pos 0) down.one range.low;
      high = at_most (pos 0) greatest high range.high up.one;
      lower = below_more (λ k. low ≤ℤ get_or numbers k (pos 0)) count
          (λ k h. at_most low least (get_or numbers k (pos 0)) down.one (range.lower k h)) down.other;
      upper = below_more (λ k. get_or numbers k (pos 0) ≤ℤ high) count
          (λ k h. at_most (get_or numbers k (pos 0)) greatest high (range.upper k h) up.one) up.other;
      least_is = zero_or_more count numbers least low range.least_is down.is;
      greatest_is = zero_or_more count numbers greatest high range.greatest_is up.is;
    }

-- ---- the narrowest

apart : (b : Bool) → b ≡ true → b ≡ false → ⊥
apart b t f = cc

narrowest_kind : (numbers : List ℤ) (least greatest : ℤ) (kind : Kind) → IsRange (length numbers) numbers least greatest
    → IsNarrowestBetween kind least greatest → IsNarrowest kind numbers
narrowest_kind numbers least greatest kind range is =
    let sign = negative numbers least greatest range in
    record {
      lawful = record {
        some = is.some;
        few = is.few;
        signed = (λ h. sign.0 (sym is.signed ∙ h), λ h. is.signed ∙ sign.1 h);
      };
      takes = takes_all kind numbers least greatest range is.takes;
      narrower = λ w some below all.
          apart _ (takes_both (record kind { width = w }) numbers least greatest range all) (is.narrower w some below);
    }

pub narrowest_of : (numbers : List ℤ) (least greatest : ℤ) (found : Option Kind)
    → IsRange (length numbers) numbers least greatest → IfSome found (λ kind. IsNarrowestBetween kind least greatest)
    → IfSome found (λ kind. IsNarrowest kind numbers)
narrowest_of numbers least greatest (Some kind) range is = narrowest_kind numbers least greatest kind range is
narrowest_of numbers least greatest None range is = is

same_sign : (a b : Bool) (P : Type 0) → (a ≡ true) ↔ P → (b ≡ true) ↔ P → a ≡ b
same_sign true true P x y = refl
same_sign true false P x y = absurd (let h : false ≡ true = y.1 (x.0 refl) in cc)
same_sign false true P x y = absurd (let h : false ≡ true = x.1 (y.0 refl) in cc)
same_sign false false P x y = refl

pub none_of : (numbers : List ℤ) (least greatest : ℤ) (found : Option Kind)
    → IsRange (length numbers) numbers least greatest
    → (IsNone found → (w : ℕ) → 1 ≤ w → w ≤ 64
    → take_both (record { signed = int_lt least (pos 0); width = w }) least greatest ≡ false)
    → IsNone found → NoneTakes numbers
none_of numbers least greatest found range h none kind lawful all =
    let sign : kind.signed ≡ int_lt least (pos 0) =
    same_sign _ _ (HasNegative numbers) lawful.signed (negative numbers least greatest range) in
    apart _ (takes_both kind numbers least greatest range all)
    (ap (λ s. take_both (record { signed = s; width = kind.width }) least greatest) sign
    ∙ h none kind.width lawful.some lawful.few)
