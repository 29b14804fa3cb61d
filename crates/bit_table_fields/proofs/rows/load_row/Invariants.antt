use Rattle.std.proofs.Common.{◌≡◌, ◌+◌, take}
use Rattle.bit_addressing_memory.specs.Memory.{piece}
use Rattle.bit_slice_words.specs.Steps.{Takes}
use Rattle.bit_table_layout.specs.Layouts.{row_width}
use Rattle.bit_table_layout.specs.Readings.{numbers_from}
use Rattle.bit_table_fields.proofs.rows.load_row.Given as goal

abbrev pub invariant-loop-index : goal.invariant-loop-index
invariant-loop-index g l =
    let first = take l.index l.fields in
    record {
      place : l.place ≡ l.at + row_width first;
      steps : Takes l.fn.steps l.steps l.index (row_width first);
      loaded : l.numbers.items ≡ numbers_from l.rule first (piece (g.V.Bits.bits l.view) l.at (row_width first));
    }
