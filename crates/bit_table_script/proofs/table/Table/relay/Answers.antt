use Rattle.std.proofs.Common.{length, ap, rules, arith}
use Rattle.bit_addressing_memory.specs.Memory.{read_by}
use Rattle.bit_containers_vector.proofs.CallerLemmas.{room_holds}
use Rattle.bit_containers_vector.specs.Vector.{vec_bits}
use Rattle.bit_table_script.specs.View.{AreStored}
use Rattle.bit_table_script.proofs.table.Table.relay.Goals as goal

pub invariant_of-result : goal.invariant_of-result
invariant_of-result g c =
    let h = c.self.invariant in
    let bits = c.in_ok-bits.bits in
    let stored : AreStored c.in_ok-layout.layout (record {
      rows = c.self.inside.rows;
      bits = vec_bits (read_by g.A2.Store.BitRegister g.O2.Positions.position) bits;
      letters = c.in_ok-letters.letters.sets;
    }) = search rules in (
      search rules,
      stored,
      search rules,
      search rules,
      search rules,
      record {
        within = omega arith;
        bits = omega (arith, room_holds g.O2.Positions.position bits, stored.fits);
        letters = omega (arith, h.1.marked, c.in_ok-letters.ensures.space);
      },
    )
