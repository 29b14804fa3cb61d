use Rattle.std.proofs.Common.{◌≡◌, ◌≢◌, ℕ, ◌+◌, ◌*◌, ◌/◌, ◌%◌, ◌<◌, ◌∷◌, [], length, ap, sym, ◌∙◌, refl, arith}
use Rattle.bit_addressing_memory.specs.Memory.{read_by}
use Rattle.bit_containers_vector.proofs.WordLemmas.{extends_by, length-bits, room_for_one, room_inside}
use Rattle.bit_containers_vector.proofs.ZeroLemmas.{zero_digit}
use Rattle.bit_containers_vector.proofs.vector.BitVec.push.Goals as goal

pub invariant_of-self : goal.invariant_of-self
invariant_of-self g c =
    let b = g.T.BitRegister.BITS in
    let v = c.args.self.now in
    let end : ℕ = v.head + v.len in
    let some : 0 < b = omega (arith, g.met.T.BitRegister.least_bits) in
    let last : end / b + 1 ≡ length v.words.items =
    ap (λ k. end / k + 1) (sym c.bits_of-2.ensures) ∙ c.if-word-len.false ∙ c.len.ensures ∙ v.words.ok.0 in
    let product : length c.put.new.words.items * b ≡ length v.words.items * b =
    ap (λ k. k * b) c.put.ensures.written.words in
    record {
      inside = v.inside;
      short = omega (arith, c.requires, length-bits (read_by g.T.BitRegister g.O.Positions.position) v v.fits);
      fits = omega (arith, product, room_for_one b end (length v.words.items) some last);
    }

pub returns-clause-ok : goal.returns-clause-ok
returns-clause-ok g c =
    let b = g.T.BitRegister.BITS in
    let v = c.args.self.now in
    let end : ℕ = v.head + v.len in
    let some : 0 < b = omega (arith, g.met.T.BitRegister.least_bits) in
    let last : end / b + 1 ≡ length v.words.items =
    ap (λ k. end / k + 1) (sym c.bits_of-2.ensures) ∙ c.if-word-len.false ∙ c.len.ensures ∙ v.words.ok.0 in
    let part : end % b ≢ 0 = λ none. c.if-index-eq0.false (ap (λ k. end % k) c.bits_of.ensures ∙ none) in
    let ends : end + 1 ≡ v.head + (v.len + 1) = omega arith in
    extends_by (read_by g.T.BitRegister g.O.Positions.position) g.T.BitRegister.ZERO v _ v.words.items
    c.put.new.words.items 1 (λ _. c.args.bit) (c.args.bit ∷ []) some
    (zero_digit g.T.BitRegister.number g.O.Positions.position g.T.BitRegister.ZERO g.met.T.BitRegister.zero_is) v.fits
    (rw (← ends) (room_inside b end v.words.items g.T.BitRegister.ZERO some part last)) refl
    (λ k low. let first : k ≡ 0 = omega arith in rw first refl) c.put.ensures.written refl refl refl
