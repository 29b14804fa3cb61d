use Rattle.std.proofs.Common.{◌≡◌, ℕ, ◌+◌, ◌-◌, ◌≤◌, take, arith, ap, ◌∙◌}
use Rattle.bit_containers_vector.specs.Count.{words_for}
use Rattle.bit_containers_vector.proofs.CountLemmas.{words_more}
use Rattle.bit_containers_vector.proofs.WordLemmas.{extended}
use Rattle.bit_containers_vector.proofs.words.extend_words.Goals as goal

pub returns-clause-items : goal.returns-clause-items
returns-clause-items g c =
    let b = g.T.BitRegister.BITS in
    let more : ℕ = c.args.upto - c.args.end in
    let ends : c.args.end + more ≡ c.args.upto = omega (arith, c.requires.order) in
    let order : words_for b c.args.end ≤ words_for b c.args.upto =
    rw (← ends) (words_more b c.args.end more (omega (arith, g.met.T.BitRegister.least_bits))) in
    let cut = c.truncate.new.self in
    extended c.resize.result c.args.words.now.items cut.items c.resize.new.self.items (words_for b c.args.end)
    (words_for b c.args.upto) cut.len c.words_taken-wanted.result g.T.BitRegister.ZERO c.ZERO.result c.requires.held order
    (c.truncate.ensures.items ∙ ap (λ k. take k c.args.words.now.items) c.words_taken-kept.ensures) cut.ok.0
    c.words_taken-wanted.ensures c.ZERO.ensures c.resize.ensures.items
