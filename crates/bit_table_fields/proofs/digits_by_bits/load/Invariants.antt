use Rattle.std.proofs.Common.{◌≡◌}
use Rattle.bit_table_fields.proofs.WindowLemmas.{so_far}
use Rattle.bit_table_fields.proofs.digits_by_bits.load.Given as goal

abbrev pub invariant-loop-k : goal.invariant-loop-k
invariant-loop-k g l = record {
  digits : l.digits ≡ so_far l.rule l.width (g.V.Bits.bits l.view) l.k;
  steps : l.taken ≡ l.k;
}
