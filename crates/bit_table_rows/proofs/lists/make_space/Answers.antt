use Rattle.std.proofs.Common.{◌<◌, length, ap, arith}
use Rattle.bit_addressing_memory.specs.Memory.{read_by}
use Rattle.bit_table_rows.proofs.SpaceLemmas.{all_as_before}
use Rattle.bit_table_rows.proofs.lists.make_space.Goals as goal

pub returns-then-enough-space-clause-same : goal.returns-then-enough-space-clause-same
returns-then-enough-space-clause-same g c =
    all_as_before (read_by g.T.BitRegister g.O.Positions.position) c.args.lists.now

pub reserve_lists-requires : goal.reserve_lists-requires
reserve_lists-requires g c = record {
  most = λ k d low. omega (arith, (c.requires.columns k d low).len, c.requires.most);
}

pub returns-clause-each : goal.returns-clause-each
returns-clause-each g c k d low =
    let reading = read_by g.T.BitRegister g.O.Positions.position in
    let same = c.reserve_lists.ensures.same in
    let here : k < length c.args.lists.now = omega (arith, same.len, low) in
    omega (
      arith,
      c.in_ok-reserve_lists.ensures.ok k d low,
      ap length (same.each k d here).bits,
      (c.requires.columns k d here).len,
    )
