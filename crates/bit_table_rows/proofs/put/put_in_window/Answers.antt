use Rattle.std.proofs.Common.{◌+◌, ◌<◌, false, map, refl, sym, arith}
use Rattle.std.specs.List.{range_with_len}
use Rattle.std.proofs.lemmas.List.FromFn.{get_or-map-range_with_len, length-map-range_with_len}
use Rattle.bit_addressing_memory.specs.Bits.{digit_at}
use Rattle.bit_addressing_memory.specs.Memory.{read_by}
use Rattle.bit_addressing_memory.proofs.WindowLemmas.{window_overwritten}
use Rattle.bit_slice_views_mut.proofs.FrameLemmas.{overwritten_beside}
use Rattle.bit_table_rows.proofs.put.put_in_window.Goals as goal

pub returns-clause-list : goal.returns-clause-list
returns-clause-list g c =
    let reading = read_by g.R.BitRegister g.O.Positions.position in
    let some : 0 < g.R.BitRegister.BITS = omega (arith, g.met.R.BitRegister.least_bits) in
    let digit = digit_at c.args.digits in
    let n = c.args.count in
    window_overwritten reading c.args.words.now c.write_bits.new.words c.args.place c.args.all (c.args.place + c.args.at)
    c.args.at n digit (map digit (range_with_len 0 n)) some c.requires.within refl c.requires.target
    (length-map-range_with_len digit 0 n)
    (λ k low. sym (get_or-map-range_with_len digit 0 n k k false low (omega arith)))
    c.write_bits.ensures

pub returns-clause-beside : goal.returns-clause-beside
returns-clause-beside g c =
    overwritten_beside (read_by g.R.BitRegister g.O.Positions.position) c.args.words.now c.write_bits.new.words
    c.args.place c.args.all (c.args.place + c.args.at) c.args.count (digit_at c.args.digits) (omega arith)
    (omega (arith, c.requires.target)) c.write_bits.ensures
