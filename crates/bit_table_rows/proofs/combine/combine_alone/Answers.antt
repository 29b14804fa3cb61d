use Rattle.std.proofs.Common.{refl, ap, ◌∙◌, arith}
use Rattle.bit_addressing_memory.specs.Memory.{read_by}
use Rattle.bit_containers_vector.proofs.CallerLemmas.{room_framed}
use Rattle.bit_containers_vector.specs.Vector.{vec_bits}
use Rattle.bit_table_rows.proofs.CombineLemmas.{combined_none, combined_same}
use Rattle.bit_table_rows.proofs.combine.combine_alone.Goals as goal

pub returns-in-And : goal.returns-in-And
returns-in-And g c =
    let bits = vec_bits (read_by g.T.BitRegister g.O.Positions.position) c.args.list.now in
    record { bits = combined_same c.args.op bits c.in-And.is; head = refl; room = omega arith }

pub returns-in-Xor : goal.returns-in-Xor
returns-in-Xor g c =
    let reading = read_by g.T.BitRegister g.O.Positions.position in
    let bits = vec_bits reading c.args.list.now in
    record {
      bits = c.fill.ensures.bits ∙ combined_none c.args.op bits c.in-Xor.is;
      head = ap (λ f. f.place) c.fill.ensures.frame;
      room = omega (arith, room_framed reading c.args.list.now c.fill.new.self c.fill.ensures.frame);
    }
