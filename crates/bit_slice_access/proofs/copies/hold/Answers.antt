use Rattle.std.proofs.Common.{◌≡◌, ap, length, sym, ◌∙◌, arith}
use Rattle.bit_addressing_memory.specs.Memory.{read_by}
use Rattle.bit_addressing_memory.proofs.MemoryLemmas.{length-piece}
use Rattle.bit_slice_views_mut.proofs.ListLemmas.{copied_list}
use Rattle.bit_slice_access.proofs.copies.hold.Goals as goal

pub copy_in-requires-clause-source_in : goal.copy_in-requires-clause-source_in
copy_in-requires-clause-source_in g c =
    let size = length-piece (g.V.Bits.bits c.args.view.now) c.args.at c.args.count c.requires.within in
    omega (arith, c.parts-head.ensures.len, ap length c.part.ensures.bits, size, c.parts-head.ensures.fits)

pub copy_in-requires-clause-source_ends : goal.copy_in-requires-clause-source_ends
copy_in-requires-clause-source_ends g c = omega arith

pub returns-clause-bits : goal.returns-clause-bits
returns-clause-bits g c =
    let parts = c.parts-head in
    let its = read_by g.V.Store.BitRegister g.V.Order.Positions.position in
    let size : parts.result.2 ≡ c.args.count =
    parts.ensures.len
    ∙ ap length c.part.ensures.bits
    ∙ length-piece (g.V.Bits.bits c.args.view.now) c.args.at c.args.count c.requires.within in
    copied_list (read_by g.R.BitRegister g.O.Positions.position) c.args.held.now c.copy_in.new.words 0 c.args.count
    (omega (arith, g.met.R.BitRegister.least_bits)) (omega arith) its parts.result.0.now parts.result.1
    (omega (arith, g.met.V.Store.BitRegister.least_bits)) (rw size at parts.ensures.fits) c.copy_in.ensures.copied
    ∙ sym (rw size at parts.ensures.bits)
    ∙ c.part.ensures.bits
