-- What a clause reads of an input and an output.
use Rattle.std.specs.Prelude.{Bool}
use Rattle.bit_table_lines.specs.declared.streams.Input.{Input}
use Rattle.bit_table_lines.specs.declared.streams.Output.{Output}

-- the reader of an input
abbrev pub input_reader : {R : Type 0} → Input R → R
input_reader i = i.reader

-- whether a read of an input failed
abbrev pub input_failed : {R : Type 0} → Input R → Bool
input_failed i = i.failed

-- the writer of an output
abbrev pub output_writer : {W : Type 0} → Output W → W
output_writer o = o.writer

-- whether a write of an output failed
abbrev pub output_failed : {W : Type 0} → Output W → Bool
output_failed o = o.failed
