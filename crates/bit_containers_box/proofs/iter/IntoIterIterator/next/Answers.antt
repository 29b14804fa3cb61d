use Rattle.std.proofs.Common.{length, get_or, false, arith, rules, ap, ◌∙◌, refl}
use Rattle.bit_addressing_memory.specs.Memory.{read_by}
use Rattle.bit_addressing_memory.proofs.WindowLemmas.{length-window}
use Rattle.bit_containers_box.proofs.LeftLemmas.{left_first}
use Rattle.bit_containers_box.proofs.iter.IntoIterIterator.next.Goals as goal

pub bit-first-requires : goal.bit-first-requires
bit-first-requires g c =
    let iter = c.args.self.now in
    let reading = read_by g.T.BitRegister g.O.Positions.position in
    let size = length-window reading iter.words.items iter.place iter.len iter.fits in
    rw (c.as_bitslice.ensures.bits) (omega (arith, size, c.if-self-eq0.false))

-- the bit that was read, and the piece behind it
pub returns-clause-steps : goal.returns-clause-steps
returns-clause-steps g c =
    let iter = c.args.self.now in
    let reading = read_by g.T.BitRegister g.O.Positions.position in
    let bits = left_first reading iter.words.items iter.place iter.len c.bit-first.result iter.fits
    (omega (arith, c.if-self-eq0.false))
    (c.bit-first.ensures ∙ ap (λ xs. get_or xs 0 false) c.as_bitslice.ensures.bits) in
    (bits, refl, refl)

pub returns-clause-goes : goal.returns-clause-goes
returns-clause-goes g c =
    let size = ap length (returns-clause-steps g c).0 in
    search (rules, arith, size)
