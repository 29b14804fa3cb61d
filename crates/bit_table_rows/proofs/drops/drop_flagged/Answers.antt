use Rattle.std.proofs.Common.{◌≡◌, ◌*◌, length, ap, ◌∙◌, arith}
use Rattle.bit_addressing_memory.specs.Memory.{read_by}
use Rattle.bit_containers_vector.specs.Vector.{vec_bits}
use Rattle.bit_table_rows.specs.RowsKept.{kept}
use Rattle.bit_table_rows.proofs.KeptRowLemmas.{rows_that_stay}
use Rattle.bit_table_rows.proofs.RowListLemmas.{bits_as_rows}
use Rattle.bit_table_rows.proofs.drops.drop_flagged.Goals as goal

-- the bits are rows of one bit
pub returns-clause-bits : goal.returns-clause-bits
returns-clause-bits g c =
    let reading = read_by g.T.BitRegister g.O.Positions.position in
    let off = vec_bits reading c.args.flags.now in
    let xs = vec_bits reading c.args.list.now in
    let all : length xs ≡ c.args.n * 1 = omega (arith, c.requires.column.len) in
    record {
      bits =
          c.keep_counted_of.ensures.bits
          ∙ ap (λ flags. kept 1 flags xs) c.as_bitslice.ensures.bits
          ∙ rows_that_stay 1 (λ n bits. bits) bits_as_rows c.args.n off xs c.requires.flags all;
      head = c.keep_counted_of.ensures.head;
      room = omega (arith, c.keep_counted_of.ensures.room);
    }
