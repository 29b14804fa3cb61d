use Rattle.std.proofs.Common.{◌≡◌, length, map, take, Some}
use Rattle.bit_addressing_memory.specs.Memory.{read_by}
use Rattle.bit_containers_vector.specs.Vector.{vec_bits}
use Rattle.bit_table_layout.specs.Readings.{rows_from}
use Rattle.bit_table_commands.specs.Marks.{number_in_field, passes}
use Rattle.bit_table_script.specs.Told.{told}
use Rattle.bit_table_script.proofs.marks.mark_singly.Given as goal

abbrev pub invariant-loop-row : goal.invariant-loop-row
invariant-loop-row g l =
    let bits = vec_bits (read_by g.T.BitRegister g.O.Positions.position) l.bits in
    let rows = rows_from l.layout (length l.initial.letters.sets) bits in
    let flags = map (λ row. passes l.test (number_in_field (Some l.field) row) l.value) rows in
    record {
      sets : l.letters.sets ≡ told l.letter (take l.row flags) l.initial.letters.sets;
      space : l.letters.space ≡ l.initial.letters.space;
    }
