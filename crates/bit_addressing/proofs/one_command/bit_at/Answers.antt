use Rattle.std.proofs.Common.{arith, ◌≡◌, ◌+◌}
use Rattle.bit_addressing.specs.Pointer.{memory_place}
use Rattle.bit_addressing_span.specs.Span.{span_place}
use Rattle.bit_addressing.proofs.CommandLemmas.{lies_in_memory, place_fits}
use Rattle.bit_addressing.proofs.one_command.bit_at.Goals as goal

pub bit_from-requires : goal.bit_from-requires
bit_from-requires g c =
    let parts = c.raw_parts-word.ensures in
    place_fits g.R.BitRegister.BITS c.args.span _ _ c.args.i parts.word parts.head parts.index parts.within.1
    (omega arith)

pub returns-clause-lies : goal.returns-clause-lies
returns-clause-lies g c n words fits some small =
    let b = g.R.BitRegister.BITS in
    let place : memory_place b c.bit_from.result ≡ span_place b c.args.span + c.args.i = cc in
    lies_in_memory b c.args.span c.bit_from.result c.args.i n words c.bit_from.ensures.word place
    c.raw_parts-word.ensures.index fits some small
