use Rattle.bit_addressing_memory.proofs.Common.{◌≡◌, ◌+◌, ◌-◌, ◌*◌, ◌/◌, ◌%◌, ◌<◌, ◌≤◌, length, ap, ap₂, ◌∙◌, arith}
use Rattle.bit_addressing_memory.proofs.Common.{entry, indexed, read_by}
use Rattle.bit_addressing_memory.proofs.EntryLemmas.{entry_read}
use Rattle.bit_addressing_memory.proofs.PartsLemmas.{stores_as}
use Rattle.std.proofs.lemmas.Nat.{div-add-mod'}
use Rattle.bit_addressing_memory.proofs.TransferLemmas.{first_in}
use Rattle.bit_slice_chunks.specs.Combined.{combined_bit}
use Rattle.bit_slice_paths.proofs.WholeWordLemmas.{alike_digit}
use Rattle.bit_slice_paths.proofs.merge.merge_part.Goals as goal

pub returns : goal.returns
returns g c =
    let b = g.R.BitRegister.BITS in
    let mine = read_by g.R.BitRegister g.O.Positions.position in
    let its = read_by g.Q.BitRegister g.P.Positions.position in
    let how = combined_bit g.H.Combining.HOW in
    let words = c.args.words.now in
    let others = c.args.others.now in
    let bits = c.bits_of-bits.result in
    let at = c.args.place / bits in
    let other_at = c.args.other_place / bits in
    let head = c.new_unchecked-head.result in
    let is : bits ≡ b = c.bits_of-bits.ensures in
    let its_is : bits ≡ its.bits = omega (arith, is, c.requires.alike.bits) in
    let some : 0 < b = omega (arith, g.met.R.BitRegister.least_bits) in
    let row : at * bits ≡ at * b = ap (λ n. at * n) is in
    let its_row : other_at * bits ≡ other_at * its.bits = ap (λ n. other_at * n) its_is in
    let index : c.args.place % bits ≡ c.args.other_place % bits = rw is c.requires.level in
    let one : c.args.place % bits + c.args.count ≤ b = rw is c.requires.one in
    let here : at * b + head ≡ c.args.place = omega (arith, c.new_unchecked-head.ensures, row, div-add-mod' c.args.place bits) in
    let count : c.new_unchecked-tail.result - head ≡ c.args.count =
    omega (arith, c.new_unchecked-head.ensures, c.new_unchecked-tail.ensures) in
    let within = first_in b bits c.args.place c.args.count (length words) is some c.requires.some c.requires.lies.within in
    let its_within =
    first_in its.bits bits c.args.other_place c.args.count (length others) its_is (omega (arith, some, is, its_is))
    c.requires.some c.requires.other_lies.within in
    stores_as mine words c.store_in.new.words c.args.place c.args.count
    (λ i. indexed g.R.BitRegister.number g.O.Positions.position c.merged-value.result (head + i))
    (λ k. how (entry mine words (c.args.place + k)) (entry its others (c.args.other_place + k)))
    (rw (here, count) at c.store_in.ensures.now)
    (λ k low.
    let i = head + k in
    let small : i < b = omega (arith, c.new_unchecked-head.ensures, one) in
    let place : at * b + i ≡ c.args.place + k = omega (arith, here) in
    let other_place : other_at * its.bits + i ≡ c.args.other_place + k =
    omega (arith, c.new_unchecked-head.ensures, index, its_row, div-add-mod' c.args.other_place bits) in
    c.merged-value.ensures (g.O.Positions.position i)
    ∙ ap₂ how (entry_read mine words at i c.index-words-at.result small within c.index-words-at.is
    ∙ ap (entry mine words) place)
    (alike_digit b g.O.Positions.position its.bits g.P.Positions.position _ _ i c.requires.alike small
    c.converted-its.ensures
    ∙ entry_read its others other_at i c.index-others-other_at.result (omega (arith, small, is, its_is)) its_within
    c.index-others-other_at.is
    ∙ ap (entry its others) other_place))
