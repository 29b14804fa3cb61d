use Rattle.std.proofs.Common.{not, arith, sym, ◌∙◌}
use Rattle.bit_addressing_memory.specs.Memory.{read_by}
use Rattle.bit_slice_words.specs.Found.{is_bit}
use Rattle.bit_slice_views.specs.View.{view_bits}
use Rattle.bit_slice_views.proofs.EndLemmas.{last_at, last_none}
use Rattle.bit_slice_views.proofs.bits.trailing_of.Goals as goal

pub overflow_sub-result : goal.overflow_sub-result
overflow_sub-result g c =
    let bits = view_bits (read_by g.T.BitRegister g.O.Positions.position) c.args.view in
    let at = last_at (is_bit (not c.args.bit)) bits c.in-Some.last (sym c.last_of.ensures ∙ c.in-Some.is) in
    omega (arith, at.1)

pub overflow_sub-result-in-Some : goal.overflow_sub-result-in-Some
overflow_sub-result-in-Some g c =
    let bits = view_bits (read_by g.T.BitRegister g.O.Positions.position) c.args.view in
    let at = last_at (is_bit (not c.args.bit)) bits c.in-Some.last (sym c.last_of.ensures ∙ c.in-Some.is) in
    omega (arith, at.1)

pub returns-in-Some : goal.returns-in-Some
returns-in-Some g c =
    let bits = view_bits (read_by g.T.BitRegister g.O.Positions.position) c.args.view in
    let at = last_at (is_bit (not c.args.bit)) bits c.in-Some.last (sym c.last_of.ensures ∙ c.in-Some.is) in
    omega (arith, at.0)

pub returns-in-None : goal.returns-in-None
returns-in-None g c =
    let bits = view_bits (read_by g.T.BitRegister g.O.Positions.position) c.args.view in
    let none = last_none (is_bit (not c.args.bit)) bits (sym c.last_of.ensures ∙ c.in-None.is) in
    c.len-in-None.ensures ∙ sym none
