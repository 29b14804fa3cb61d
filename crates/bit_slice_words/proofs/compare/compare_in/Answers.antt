use Rattle.std.proofs.Common.{min, arith}
use Rattle.bit_addressing_memory.specs.Memory.{read_by}
use Rattle.bit_slice_paths.proofs.AcrossLemmas.{agrees_near}
use Rattle.bit_slice_words.proofs.compare.compare_in.Goals as goal

pub compare_at-requires-clause-agrees : goal.compare_at-requires-clause-agrees
compare_at-requires-clause-agrees g c =
    agrees_near (read_by g.R.BitRegister g.O.Positions.position) (read_by g.Q.BitRegister g.P.Positions.position)
    c.args.words.now c.args.others.now c.args.place c.args.other_place c.few_before_block-few.result
    (min c.args.len c.args.other_len) c.agree_singly-same.result (omega (arith, c.few_before_block-few.ensures))
    (λ low. omega arith) c.agree_singly-same.ensures
