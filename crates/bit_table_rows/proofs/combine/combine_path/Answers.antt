use Rattle.bit_addressing_memory.specs.Memory.{entry, read_by}
use Rattle.bit_table_rows.proofs.CombineLemmas.{overwrites_xor}
use Rattle.bit_table_rows.proofs.combine.combine_path.Goals as goal
use Rattle.std.proofs.Common.{◌+◌, ℕ}

pub returns-in-Xor-clause-combined : goal.returns-in-Xor-clause-combined
returns-in-Xor-clause-combined g c =
    let reading = read_by g.R.BitRegister g.O.Positions.position in
    overwrites_xor reading c.args.words.now c.xor.new.words c.args.place c.args.len c.args.op
    (λ (k : ℕ). entry reading c.args.words.now (c.args.place + k))
    (λ (k : ℕ). entry reading c.args.others.now (c.args.other_place + k)) c.in-Xor.is c.xor.ensures.combined
