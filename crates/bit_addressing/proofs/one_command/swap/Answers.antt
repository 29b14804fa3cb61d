use Rattle.std.proofs.Common.{arith}
use Rattle.std.proofs.lemmas.Bool.Decides.{nat_tests}
use Rattle.bit_addressing_memory.specs.Memory.{read_by}
use Rattle.bit_addressing.proofs.BitCommandLemmas.{carried_swap}
use Rattle.bit_addressing.proofs.CommandLemmas.{refused}
use Rattle.bit_addressing.proofs.one_command.swap.Goals as goal

pub returns-then-i-len : goal.returns-then-i-len
returns-then-i-len g c =
    record {
      carried =
          refused (read_by g.R.BitRegister g.O.Positions.position) c.args.memory.now c.args.span _
          c.raw_parts-len.ensures.index c.requires.fits (grind (arith, nat_tests, c.then-i-len.either));
    }

pub swap_within-requires-clause-within : goal.swap_within-requires-clause-within
swap_within-requires-clause-within g c = c.bit_at.ensures.lies 1 _ c.requires.fits (omega arith) (omega arith)

pub swap_within-requires-clause-with_within : goal.swap_within-requires-clause-with_within
swap_within-requires-clause-with_within g c =
    c.bit_at-other.ensures.lies 1 _ c.requires.fits (omega arith) (omega arith)

pub returns : goal.returns
returns g c = record {
  carried =
      carried_swap (read_by g.R.BitRegister g.O.Positions.position) c.args.memory.now _ c.args.span c.args.i c.args.j
      _ _ c.raw_parts-len.ensures.index c.requires.fits (omega arith) (omega arith) c.bit_at.ensures.place
      c.bit_at-other.ensures.place c.swap_within.ensures.swapped;
}
