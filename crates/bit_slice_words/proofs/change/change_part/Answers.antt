use Rattle.bit_addressing_memory.proofs.Common.{◌≡◌, ◌+◌, ◌-◌, ◌*◌, ◌≤◌, Bool, ap, ap₂, refl, arith, read_by}
use Rattle.bit_slice_paths.specs.Combined.{combined_bit}
use Rattle.bit_slice_words.proofs.ChangeLemmas.{changes_as, changes_part}
use Rattle.bit_slice_words.proofs.change.change_part.Goals as goal

pub returns : goal.returns
returns g c =
    let reading = read_by g.R.BitRegister g.O.Positions.position in
    let before = c.args.words.now in
    let after = c.store_in.new.words in
    let head = c.new_unchecked-head.result in
    let tail = c.new_unchecked-tail.result in
    let is_head : head ≡ c.args.from = c.new_unchecked-head.ensures in
    let is_tail : tail ≡ c.args.upto = c.new_unchecked-tail.ensures in
    let on : Bool → Bool = (λ b. combined_bit g.H.Combining.HOW b c.args.bit) in
    let inside : head + (tail - head) ≤ reading.bits = omega (arith, c.requires.order, c.requires.within) in
    changes_as reading before after (c.args.at * reading.bits + head) (tail - head) _ _ on
    (ap (λ h. c.args.at * reading.bits + h) is_head) (ap₂ (λ t h. t - h) is_tail is_head)
    (changes_part reading before after (c.args.at * reading.bits + head) (tail - head) head c.args.at
    c.index-words-at.result c.combined_word-value.result on c.store_in.ensures.now c.combined_word-value.ensures
    c.index-words-at.is c.requires.inside inside refl)
