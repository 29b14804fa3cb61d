use Rattle.std.proofs.Common.{rules}
use Rattle.bit_slice_splits.proofs.splits.Splits.take_part.Goals as goal

-- the part that comes off, and where it and what is left lie
pub returns-clause-steps : goal.returns-clause-steps
returns-clause-steps g c = record {
  parts = record {
    going = search rules;
    asked = c.asked_in-asked.result;
    within = search rules;
    asks = search rules;
    part_is = search rules;
    rest_is = search rules;
    done_is = search rules;
  };
  head_is = search rules;
  rest_head_is = search rules;
}
