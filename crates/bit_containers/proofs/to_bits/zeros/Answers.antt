use Rattle.std.proofs.Common.{◌≡◌, ◌-◌, ◌++◌, [], take, replicate, arith, ap, ap₂, ◌∙◌}
use Rattle.std.proofs.lemmas.List.{take_all}
use Rattle.bit_containers_vector.specs.Count.{words_for}
use Rattle.bit_containers.proofs.to_bits.zeros.Goals as goal

pub returns : goal.returns
returns g c =
    let n = c.div_ceil.result in
    let made = c.new-made in
    let none : take n made.result.items ≡ [] = ap (take n) made.ensures.items ∙ take_all n [] (omega arith) in
    let count : n - made.result.len ≡ words_for g.T.BitRegister.BITS c.args.bits =
    omega (arith, made.ensures.len)
    ∙ c.div_ceil.ensures
    ∙ ap (λ b. words_for b c.args.bits) c.bits_of.ensures in
    c.in_ok-resize.ensures.items ∙ ap₂ (λ xs ys. xs ++ ys) none (ap₂ (λ k z. replicate k z) count c.ZERO.ensures)
