use Rattle.bit_addressing_memory.proofs.Common.{◌+◌, ◌-◌, arith, read_by}
use Rattle.bit_slice_words.proofs.SameLemmas.{holds_behind}
use Rattle.bit_slice_words.proofs.contains.contains_rest.Goals as goal

pub returns : goal.returns
returns g c =
    holds_behind (read_by g.R.BitRegister g.O.Positions.position) c.args.words.now
    (read_by g.Q.BitRegister g.P.Positions.position) c.args.others.now c.args.place c.args.len c.args.other_place
    c.args.other_len c.args.from (c.args.len - c.args.other_len + 1 - c.args.from) c.start.result
    (omega (arith, g.met.R.BitRegister.least_bits)) (omega (arith, g.met.Q.BitRegister.least_bits)) c.requires.lies.within
    c.requires.other_lies.within (omega (arith, c.requires.order)) c.requires.none c.start.ensures
