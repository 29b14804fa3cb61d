use Rattle.std.proofs.Common.{◌+◌, ◌*◌, ◌≤◌, length}
use Rattle.std.proofs.Common.{arith}
use Rattle.bit_addressing_memory.specs.Memory.{read_by}
use Rattle.bit_containers_vector.proofs.VectorLemmas.{has_room, room_words}
use Rattle.std.proofs.lemmas.Result.{on_ok_weaker}
use Rattle.bit_containers_vector.proofs.vector.BitVec.reserve_exact.Goals as goal

pub returns-clause-ok : goal.returns-clause-ok
returns-clause-ok g c =
    let v = c.args.self.now in
    let got = c.reserve_exact.new.self in
    let fits : v.head + v.len ≤ length got.items * g.T.BitRegister.BITS = rw c.reserve_exact.ensures.items v.fits in
    on_ok_weaker c.reserve_exact.result (λ enough. has_room (read_by g.T.BitRegister g.O.Positions.position) got.items v.head v.len got.cap
    c.args.more (omega (arith, g.met.T.BitRegister.least_bits)) fits
    (omega (arith, enough, c.saturating_sub.ensures, c.words_taken-need.ensures, c.len.ensures))) c.reserve_exact.ensures.ok

pub returns-clause-succeeds : goal.returns-clause-succeeds
returns-clause-succeeds g c = λ room.
    let v = c.args.self.now in
    let enough = room_words (read_by g.T.BitRegister g.O.Positions.position) v.words.items v.head v.len v.words.cap
    c.args.more (omega (arith, g.met.T.BitRegister.least_bits)) v.fits (omega (arith, v.words.ok.0, v.words.ok.1)) room in
    c.reserve_exact.ensures.succeeds
    (omega (arith, enough, c.saturating_sub.ensures, c.words_taken-need.ensures, c.len.ensures, v.words.ok.1))
