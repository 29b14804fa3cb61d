use Rattle.std.proofs.Common.{◌≡◌, refl, arith}
use Rattle.bit_addressing.specs.Memory.{read_by}
use Rattle.bit_addressing.specs.PartialElementMut.{part_words, part_head, part_tail, part_len}
use Rattle.bit_addressing.proofs.PartsLemmas.{stored_back}
use Rattle.bit_addressing_tests.proofs.part_callers.store_and_restore.Goals as goal

pub returns : goal.returns
returns g c =
    let part = c.args.part.now in
    let between = c.store_value-was.new.self in
    let first = c.store_value-was.ensures in
    let len : part_len between ≡ part_len part = omega (arith, first.same.head, first.same.tail) in
    stored_back (read_by g.R.BitRegister g.O.Positions.position) (part_words part) (part_words between)
    (part_words c.store_value.new.self) c.store_value-was.result (part_head part) (part_tail part) (part_head between)
    (part_len part) (part_len between) _ first.same.head refl len part.within first.was first.now
    c.store_value.ensures.now
