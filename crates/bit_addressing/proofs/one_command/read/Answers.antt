use Rattle.std.proofs.Common.{arith}
use Rattle.std.proofs.lemmas.Bool.Decides.{nat_tests}
use Rattle.bit_addressing_memory.specs.Memory.{read_by}
use Rattle.bit_addressing.proofs.BitCommandLemmas.{carried_read}
use Rattle.bit_addressing.proofs.CommandLemmas.{refused}
use Rattle.bit_addressing.proofs.one_command.read.Goals as goal

pub returns-then-i-len : goal.returns-then-i-len
returns-then-i-len g c =
    record {
      carried =
          refused (read_by g.R.BitRegister g.O.Positions.position) c.args.memory.now c.args.span _
          c.raw_parts-len.ensures.index c.requires.fits (grind (arith, nat_tests));
    }

pub read-requires : goal.read-requires
read-requires g c = record { within = c.bit_at.ensures.lies 1 _ c.requires.fits (omega arith) (omega arith) }

pub returns : goal.returns
returns g c = record {
  carried =
      carried_read (read_by g.R.BitRegister g.O.Positions.position) c.args.memory.now c.args.span c.args.i _ _
      c.raw_parts-len.ensures.index c.requires.fits (omega arith) c.bit_at.ensures.place c.read.ensures.value;
}
