use Rattle.std.proofs.Common.{arith, inl, inr}
use Rattle.bit_addressing_memory.specs.Memory.{read_by}
use Rattle.bit_addressing.proofs.BitCommandLemmas.{carried_copy, carried_nothing, copy_out}
use Rattle.bit_addressing.proofs.CommandLemmas.{refused}
use Rattle.bit_addressing.proofs.one_command.copy.Goals as goal
use Rattle.bit_addressing.proofs.one_command.copy.Goals.{then-count-len-via-then-count-len}
use Rattle.bit_addressing.proofs.one_command.copy.Goals.{then-count-len-via-else-count-len+then-from-len}
use Rattle.bit_addressing.proofs.one_command.copy.Goals.{then-count-len-via-else-count-len+else-from-len+then-to-len}

pub returns-then-count-len : goal.returns-then-count-len
returns-then-count-len g c =
    let parts = c.raw_parts-len.ensures in
    record {
      carried =
          refused (read_by g.R.BitRegister g.O.Positions.position) c.args.memory.now
          c.args.span
          _ parts.index c.requires.fits
          (copy_out c.args.span.len c.args.from c.args.to c.args.count (elim c.then-count-len.branch [
            | then-count-len-via-then-count-len w ↦ inl (omega (arith, w.if-count-len.true))
            | then-count-len-via-else-count-len+then-from-len w ↦
                inl (omega (arith, w.if-count-len.false, w.if-from-len.true))
            | then-count-len-via-else-count-len+else-from-len+then-to-len w ↦
                inr (omega (arith, w.if-count-len.false, w.if-to-len.true))
          ]));
    }

pub returns-then-count-eq0 : goal.returns-then-count-eq0
returns-then-count-eq0 g c = record {
  carried =
      carried_nothing (read_by g.R.BitRegister g.O.Positions.position) c.args.memory.now c.args.span c.args.from
      c.args.to c.args.count c.raw_parts-len.ensures.index c.requires.fits (omega arith) (omega arith) (omega arith);
}

pub copy_within-requires-clause-within : goal.copy_within-requires-clause-within
copy_within-requires-clause-within g c =
    c.bit_at.ensures.lies c.args.count _ c.requires.fits (omega arith) (omega arith)

pub copy_within-requires-clause-target_within : goal.copy_within-requires-clause-target_within
copy_within-requires-clause-target_within g c =
    c.bit_at-target.ensures.lies c.args.count _ c.requires.fits (omega arith) (omega arith)

pub returns : goal.returns
returns g c = record {
  carried =
      carried_copy (read_by g.R.BitRegister g.O.Positions.position) c.args.memory.now _ c.args.span c.args.from
      c.args.to c.args.count _ _ c.raw_parts-len.ensures.index c.requires.fits (omega arith) (omega arith)
      (omega arith) c.bit_at.ensures.place c.bit_at-target.ensures.place c.copy_within.ensures.copied;
}
