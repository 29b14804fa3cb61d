use Rattle.std.proofs.Common.{length, ap, rules, arith}
use Rattle.bit_addressing_memory.specs.Memory.{read_by}
use Rattle.bit_containers_vector.proofs.CallerLemmas.{room_holds}
use Rattle.bit_containers_vector.specs.Vector.{vec_bits}
use Rattle.bit_table_script.specs.View.{AreStored}
use Rattle.bit_table_script.proofs.table.Table.back.Goals as goal

pub invariant_of-self-2 : goal.invariant_of-self-2
invariant_of-self-2 g c =
    let h = c.self.invariant in
    let bits = c.into_parts-rows.result.1 in
    let stored : AreStored c.self.inside.layout (record {
      rows = c.into_parts-rows.result.0;
      bits = vec_bits (read_by g.A.Store.BitRegister g.O.Positions.position) bits;
      letters = c.into_parts-rows.result.2.sets;
    }) = search rules in (
      h.0,
      stored,
      search rules,
      h.3,
      c.into_parts-rows.ensures.head,
      record {
        within = omega arith;
        bits = omega (arith, room_holds g.O.Positions.position bits, stored.fits);
        letters =
            omega (
              arith,
              stored.marked,
              ap length c.into_parts-rows.ensures.letters,
              c.into_parts-rows.ensures.space,
            );
      },
    )
