use Rattle.std.proofs.Common.{◌≡◌, ℕ, ◌%◌, ◌<◌, arith, ap, length, sym, ◌∙◌}
use Rattle.std.proofs.Math.Nat.{mod-eq_of_lt, mod-lt}
use Rattle.bit_addressing_memory.specs.Memory.{memory, piece, read_by}
use Rattle.bit_slice_access.proofs.MaskedLemmas.{reads_through}
use Rattle.bit_slice_access.proofs.domain_mut.WindowDomainMut.load_value.Goals as goal

pub load_in-requires-clause-some : goal.load_in-requires-clause-some
load_in-requires-clause-some g c =
    let b : ℕ = g.V.Store.BitRegister.BITS in
    let v = c.args.self.now.of.now in
    let seen = c.parts-head in
    let some : 0 < b = omega (arith, g.met.V.Store.BitRegister.least_bits) in
    let head : seen.result.1 ≡ g.V.BitsMut.place v % b =
    seen.ensures.head ∙ c.as_bitslice.ensures.head ∙ g.met.V.BitsMut.starts v in
    let index : seen.result.1 % b ≡ g.V.BitsMut.place v % b =
    rw head (mod-eq_of_lt (mod-lt (g.V.BitsMut.place v) some)) in
    rw (index, seen.ensures.len, c.as_bitslice.ensures.bits) c.requires

pub returns : goal.returns
returns g c =
    let reading = read_by g.V.Store.BitRegister g.V.Order.Positions.position in
    let v = c.args.self.now.of.now in
    let seen = c.parts-head in
    let n : ℕ = length (g.V.Bits.bits v) in
    let some : 0 < reading.bits = omega (arith, g.met.V.Store.BitRegister.least_bits) in
    let head : seen.result.1 ≡ g.V.BitsMut.place v % reading.bits =
    seen.ensures.head ∙ c.as_bitslice.ensures.head ∙ g.met.V.BitsMut.starts v in
    let len : seen.result.2 ≡ n = seen.ensures.len ∙ ap length c.as_bitslice.ensures.bits in
    let same : piece (memory reading seen.result.0.now) seen.result.1 n
    ≡ piece (memory reading (g.V.BitsMut.words v)) (g.V.BitsMut.place v) n =
    sym (rw len at seen.ensures.bits) ∙ c.as_bitslice.ensures.bits ∙ g.met.V.BitsMut.window v in
    record {
      value = reads_through reading seen.result.0.now (g.V.BitsMut.words v) seen.result.1 (g.V.BitsMut.place v) n c.args.k
          c.load_in.result some head same (rw len at c.load_in.ensures);
    }
