use Rattle.std.proofs.Common.{◌≡◌, true, Option, Some, None, refl, sym, ◌∙◌}
use Rattle.std.proofs.lemmas.Iterator.Consumers.{YieldsList-from_first, nth_from_yields_List}
use Rattle.std.specs.Option.{option_map}
use Rattle.bit_slice_words.specs.Found.{is_bit}
use Rattle.bit_slice_iterators.specs.Indices.{indices}
use Rattle.bit_slice_tests.proofs.iter_callers.third_one.Goals as goal

as_it_is : {A : Type 0} (o : Option A) → option_map (λ x. x) o ≡ o
as_it_is None = refl
as_it_is (Some x) = refl

pub returns : goal.returns
returns g c =
    sym (as_it_is c.nth.result)
    ∙ nth_from_yields_List c.nth.result c.nth.new.self 2 c.nth.ensures.ran
    (YieldsList-from_first (λ i. i) (λ left. left) (indices (is_bit true) 0 (g.V.Bits.bits c.args.view.now))
    c.iter_ones.ensures)
