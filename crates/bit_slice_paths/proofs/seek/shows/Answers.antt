use Rattle.bit_addressing_memory.proofs.Common.{◌+◌, min, arith, read_by}
use Rattle.bit_slice_paths.proofs.SeekLemmas.{shown_chunk, shown_other}
use Rattle.bit_slice_paths.proofs.seek.shows.Goals as goal

pub returns-then-first_bits-sought-clause-no : goal.returns-then-first_bits-sought-clause-no
returns-then-first_bits-sought-clause-no g c _ =
    let reading = read_by g.R.BitRegister g.O.Positions.position in
    let its = read_by g.Q.BitRegister g.P.Positions.position in
    let n = min c.args.len 32 in
    shown_other reading its c.args.words.now c.args.others.now (c.args.place + c.args.from) c.args.other_place n
    c.args.len c.args.direction c.first_bits.result c.args.sought (omega arith) (omega arith) (omega arith)
    (shown_chunk reading c.args.words.now c.args.place c.args.from n c.args.direction c.args.chunk
    c.lowered-shown.result c.first_bits.result (omega arith) c.requires.chunk c.lowered-shown.ensures
    (rw c.min.ensures at c.first_bits.ensures))
    c.requires.sought c.if-first_bits-sought.true
