use Rattle.std.proofs.Common.{arith}
use Rattle.std.proofs.lemmas.Bool.Decides.{nat_tests}
use Rattle.bit_addressing_memory.specs.Memory.{read_by}
use Rattle.bit_addressing.proofs.CommandLemmas.{refused}
use Rattle.bit_addressing.proofs.WordCommandLemmas.{carried_load}
use Rattle.bit_addressing.proofs.one_command.load.Goals as goal

pub returns-then-k-elements : goal.returns-then-k-elements
returns-then-k-elements g c = record {
  carried =
      refused (read_by g.R.BitRegister g.O.Positions.position) c.args.memory.now c.args.span _
      c.raw_parts.ensures.index c.requires.fits (grind (arith, nat_tests, c.elements.ensures));
}

pub returns : goal.returns
returns g c = record {
  carried =
      carried_load (read_by g.R.BitRegister g.O.Positions.position) c.args.memory.now c.args.span c.args.k _
      c.raw_parts.ensures.index c.requires.fits (omega (arith, c.elements.ensures)) c.load_value.ensures;
}
