use Rattle.std.proofs.Common.{◌≡◌, ℕ, ◌-◌, ◌/◌, ◌<◌, ap, arith}
use Rattle.std.proofs.lemmas.Nat.{div-add-mod', div_below, mod_below}
use Rattle.bit_table_rows.proofs.keep.words_before.Goals as goal

pub returns-else-end-eq0-clause-holds : goal.returns-else-end-eq0-clause-holds
returns-else-end-eq0-clause-holds g c =
    let b = g.T.BitRegister.BITS in
    let last : ℕ = c.args.end - 1 in
    let some : 0 < b = omega (arith, g.met.T.BitRegister.least_bits) in
    let is : last / c.bits_of.result ≡ last / b = ap (λ m. last / m) c.bits_of.ensures in
    rw is (omega (arith, div-add-mod' last b, mod_below last b some))

pub returns-else-end-eq0-clause-fits : goal.returns-else-end-eq0-clause-fits
returns-else-end-eq0-clause-fits g c n within =
    let b = g.T.BitRegister.BITS in
    let last : ℕ = c.args.end - 1 in
    let some : 0 < b = omega (arith, g.met.T.BitRegister.least_bits) in
    let is : last / c.bits_of.result ≡ last / b = ap (λ m. last / m) c.bits_of.ensures in
    let low : last / b < n = div_below last b n some (omega arith) in
    rw is (omega (arith, low))
