use Rattle.std.proofs.Common.{◌≡◌, ℕ, zero, suc, ◌+◌, ◌-◌, ◌*◌, ◌/◌}
use Rattle.std.proofs.Common.{◌%◌, ◌<◌, ◌≤◌, false, length, refl, sym, ap, ◌∙◌}
use Rattle.std.proofs.Common.{inl, inr, arith, mul-le-mul_right}
use Rattle.std.proofs.lemmas.Bool.{cases_eq}
use Rattle.std.proofs.lemmas.List.{length-set}
use Rattle.std.proofs.lemmas.Nat.{div-add-mod', mod_below}
use Rattle.bit_addressing_memory.proofs.Changes.{changed-set}
use Rattle.bit_addressing_memory.proofs.EntryLemmas.{entry-set_other, entry-set_same}
use Rattle.bit_addressing_memory.proofs.Sweeps.{first_le_last}
use Rattle.bit_addressing_memory.specs.Memory.{entry, read_by, touched}
use Rattle.bit_addressing_memory.specs.Sweep.{sweep_words, way_of}
use Rattle.bit_addressing_memory.specs.declared.sweep.Way.TheVariants.{Up}
use Rattle.bit_addressing_memory.proofs.TransferLemmas.{word_in}
use Rattle.bit_table_rows.proofs.keep.put_zeros.Goals as goal

-- the word k begins before the end
begins_before : (b bits end k : ℕ) → bits ≡ b → k ≤ (end - 1) / bits → k * b ≤ end - 1
begins_before b bits end k is low =
    let row = mul-le-mul_right b low in
    let whole : (end - 1) / bits * b + (end - 1) % bits ≡ end - 1 = rw is (div-add-mod' (end - 1) b) in
    omega (arith, row, whole)

pub put-requires-clause-within : goal.put-requires-clause-within
put-requires-clause-within g c =
    let b = g.T.BitRegister.BITS in
    let some : 0 < b = omega (arith, g.met.T.BitRegister.least_bits) in
    let h = c.zeros.invariant in
    let words = length (sweep_words c.args.sweep.now) in
    let inside : c.zeros.k < words =
    word_in b c.bits_of-bits.result (c.args.first + c.args.len) c.zeros.k words c.bits_of-bits.ensures some
    (omega arith) (omega arith) c.requires.within in
    omega (arith, h.words, inside)

pub zeros-preserved : goal.zeros-preserved
zeros-preserved g c =
    let reading = read_by g.T.BitRegister g.O.Positions.position in
    let b = reading.bits in
    let some : 0 < b = omega (arith, g.met.T.BitRegister.least_bits) in
    let h = c.zeros.invariant in
    let k = c.zeros.k in
    let first = c.args.first in
    let len = c.args.len in
    let old = sweep_words c.args.sweep.now in
    let words = sweep_words c.zeros.sweep in
    let word = c.no_digits.result in
    let inside : k < length old =
    word_in b c.bits_of-bits.result (first + len) k (length old) c.bits_of-bits.ensures some
    (omega arith) (omega arith) c.requires.within in
    let within : k < length words = omega (arith, h.words, inside) in
    let start = begins_before b c.bits_of-bits.result (first + len) k c.bits_of-bits.ensures (omega arith) in
    let none : (p : ℕ) → p < k * b + b → entry reading old p ≡ false = λ p low.
    c.requires.zeros (k + 1) (omega (arith, start)) p (omega arith) (omega arith) in
    let is = c.put.ensures.words in
    let up : way_of c.zeros.sweep ≡ Up = h.way ∙ c.requires.way in
    let edge = rw up at c.put.ensures.edge in
    record {
      same = λ p. rw is (elim (cases_eq (p / b) k) [
        | inl here ↦
            let rest = mod_below p b some in
            let low : p < k * b + b = omega (arith, div-add-mod' p b, ap (λ j. j * b) here, rest) in
            entry-set_same reading words k word p here within
            ∙ c.no_digits.ensures (p % b) rest
            ∙ sym (none p low)
        | inr other ↦ entry-set_other reading words k word p other ∙ h.same p
      ]);
      words = ap length is ∙ length-set words k word ∙ h.words;
      edge = omega (arith, edge);
      writes = omega (arith, c.put.ensures.writes, h.writes);
      changed = λ others. rw is (omega (
        arith,
        changed-set g.T.BitRegister.number others words k word,
        h.changed others,
        c.put.ensures.writes,
      ));
      way = c.put.ensures.way ∙ h.way;
      lender = c.put.ensures.lender ∙ h.lender;
    }

touched_is : (b bits place n : ℕ) → bits ≡ b → 0 < n → touched b place n ≡ (place + n - 1) / bits + 1 - place / bits
touched_is b bits place zero is some = absurd (omega arith)
touched_is b bits place (suc m) is some =
    let last : place + suc m - 1 ≡ place + m = omega arith in
    rw (is, last) refl

pub returns-clause-writes : goal.returns-clause-writes
returns-clause-writes g c =
    let b = g.T.BitRegister.BITS in
    let bits = c.bits_of-bits.result in
    let some : 0 < bits = omega (arith, g.met.T.BitRegister.least_bits, c.bits_of-bits.ensures) in
    let any : 0 < c.args.len = omega (arith, c.if-len-eq0.false) in
    let order = first_le_last bits c.args.first c.args.len some any in
    let all = touched_is b bits c.args.first c.args.len c.bits_of-bits.ensures any in
    omega (arith, c.zeros.invariant.writes, all, order)
