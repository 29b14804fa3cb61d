use Rattle.std.proofs.Common.{◌-◌, ◌∷◌, [], length, get_or, false, arith, rules, ap, ◌∙◌, refl}
use Rattle.std.proofs.lemmas.List.{length-append}
use Rattle.bit_addressing_memory.specs.Memory.{memory, piece, read_by}
use Rattle.bit_addressing_memory.proofs.WindowLemmas.{length-window}
use Rattle.bit_containers_box.proofs.LeftLemmas.{left_last}
use Rattle.bit_containers_box.proofs.iter.IntoIterDoubleEndedIterator.next_back.Goals as goal

pub bit-last-requires : goal.bit-last-requires
bit-last-requires g c =
    let iter = c.args.self.now in
    let reading = read_by g.T.BitRegister g.O.Positions.position in
    let size = length-window reading iter.words.items iter.place iter.len iter.fits in
    rw (c.as_bitslice.ensures.bits) (omega (arith, size, c.if-self-eq0.false))

-- the piece before the bit that was read, and the bit
pub returns-clause-steps : goal.returns-clause-steps
returns-clause-steps g c =
    let iter = c.args.self.now in
    let reading = read_by g.T.BitRegister g.O.Positions.position in
    let bits = left_last reading iter.words.items iter.place iter.len c.bit-last.result iter.fits
    (omega (arith, c.if-self-eq0.false))
    (c.bit-last.ensures ∙ ap (λ xs. get_or xs (iter.len - 1) false) c.as_bitslice.ensures.bits) in
    (bits, refl, refl)

pub returns-clause-goes : goal.returns-clause-goes
returns-clause-goes g c =
    let iter = c.args.self.now in
    let reading = read_by g.T.BitRegister g.O.Positions.position in
    let size = ap length (returns-clause-steps g c).0
    ∙ length-append (piece (memory reading iter.words.items) iter.place (iter.len - 1)) (c.bit-last.result ∷ []) in
    search (rules, arith, size)
