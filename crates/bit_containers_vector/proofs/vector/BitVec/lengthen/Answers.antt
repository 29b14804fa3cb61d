use Rattle.std.proofs.Common.{◌≡◌, ℕ, ◌+◌, ◌*◌, ◌<◌, ◌≤◌, length, ap, ◌∙◌, arith, refl}
use Rattle.std.proofs.Math.Nat.{mul-le-mul_right}
use Rattle.std.proofs.lemmas.Bool.{false≢true}
use Rattle.std.proofs.lemmas.Result.{err_from_is_err_and}
use Rattle.bit_addressing_memory.specs.Memory.{read_by}
use Rattle.bit_containers_vector.specs.Count.{words_for}
use Rattle.bit_containers_vector.proofs.CountLemmas.{words_hold, words_within, words_more}
use Rattle.bit_containers_vector.proofs.WordLemmas.{trimmed, length-bits, length-extended}
use Rattle.bit_containers_vector.proofs.vector.BitVec.lengthen.Goals as goal

pub returns-in_err-extend_words-clause-err : goal.returns-in_err-extend_words-clause-err
returns-in_err-extend_words-clause-err g c =
    let p = err_from_is_err_and c.from_residual.result c.from_residual.ensures.1 in
    rw p.1 (trimmed (read_by g.T.BitRegister g.O.Positions.position) c.args.self.now _
    (omega (arith, g.met.T.BitRegister.least_bits)) c.args.self.now.fits refl refl
    (c.in_err-extend_words.ensures).err c.extend_words.ensures.capacity)

pub returns-in_err-extend_words-clause-succeeds : goal.returns-in_err-extend_words-clause-succeeds
returns-in_err-extend_words-clause-succeeds g c = λ room.
    let b = g.T.BitRegister.BITS in
    let v = c.args.self.now in
    let size = length-bits (read_by g.T.BitRegister g.O.Positions.position) v v.fits in
    let held : length v.words.items * b ≤ v.words.cap * b =
    mul-le-mul_right b (omega (arith, v.words.ok.0, v.words.ok.1)) in
    absurd (false≢true ((c.in_err-extend_words.ensures).succeeds
    (words_within b (v.head + v.len + c.args.more) v.words.cap (omega (arith, g.met.T.BitRegister.least_bits))
    (omega (arith, room, size, held, v.fits)))))

pub invariant_of-self-2 : goal.invariant_of-self-2
invariant_of-self-2 g c =
    let b = g.T.BitRegister.BITS in
    let v = c.args.self.now in
    let some : 0 < b = omega (arith, g.met.T.BitRegister.least_bits) in
    let size = length-bits (read_by g.T.BitRegister g.O.Positions.position) v v.fits in
    let n : ℕ = words_for b (v.head + v.len + c.args.more) in
    let count : length c.extend_words.new.words.items ≡ n =
    ap length (c.in_ok-extend_words.ensures).items
    ∙ length-extended v.words.items (words_for b (v.head + v.len)) n g.T.BitRegister.ZERO
    (words_within b (v.head + v.len) (length v.words.items) some v.fits) (words_more b (v.head + v.len) c.args.more some) in
    let product : length c.extend_words.new.words.items * b ≡ n * b = ap (λ k. k * b) count in
    record {
      inside = v.inside;
      short = omega (arith, c.requires, size);
      fits = omega (arith, words_hold b (v.head + v.len + c.args.more) some, product);
    }

pub returns-clause-ok : goal.returns-clause-ok
returns-clause-ok g c =
    let b = g.T.BitRegister.BITS in
    let v = c.args.self.now in
    let ends : v.head + v.len + c.args.more ≡ v.head + (v.len + c.args.more) = omega arith in
    record {
      words = rw (← ends) (c.in_ok-extend_words.ensures).items;
      head = refl;
      len = refl;
    }
