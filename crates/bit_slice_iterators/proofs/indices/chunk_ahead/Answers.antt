use Rattle.std.proofs.Common.{◌≡◌, ℕ, ◌+◌, ◌<◌, Option, Some, None, IfSome, arith}
use Rattle.bit_addressing_memory.specs.Memory.{read_by}
use Rattle.bit_slice_views.specs.Found.{is_bit}
use Rattle.bit_slice_views.specs.View.{view_bits}
use Rattle.bit_slice_iterators.proofs.HeldLemmas.{whole_digits, last_digits}
use Rattle.bit_slice_iterators.proofs.indices.chunk_ahead.Goals as goal

if_some : {P Q : ℕ → Type 0} (r : Option ℕ) → ((n : ℕ) → P n → Q n) → IfSome r P → IfSome r Q
if_some (Some n) by had = by n had
if_some None by had = had

pub returns-then-len-ge-CHUNK : goal.returns-then-len-ge-CHUNK
returns-then-len-ge-CHUNK g c =
    let reading = read_by g.T.BitRegister g.O.Positions.position in
    let some : 0 < reading.bits = omega (arith, g.met.T.BitRegister.least_bits) in
    let at : c.parts-head.result.1 + 0 ≡ c.parts-head.result.1 = omega arith in
    if_some c.among.result (λ n told.
    whole_digits reading c.parts-head.result.0.now c.parts-head.result.1 c.parts-head.result.2 0 c.read_chunk.result n
    c.args.direction (is_bit g.B.Sought.bit) (view_bits reading c.args.view) some c.parts-head.ensures.bits
    c.parts-head.ensures.len (omega (arith, c.if-len-ge-CHUNK.true)) (rw at c.read_chunk.ensures) told) c.among.ensures

pub returns-in-Some : goal.returns-in-Some
returns-in-Some g c =
    let reading = read_by g.T.BitRegister g.O.Positions.position in
    let some : 0 < reading.bits = omega (arith, g.met.T.BitRegister.least_bits) in
    let at : c.parts-head.result.1 + 0 ≡ c.parts-head.result.1 = omega arith in
    last_digits reading c.parts-head.result.0.now c.parts-head.result.1 c.parts-head.result.2 0 c.parts-head.result.2
    c.read_bits.result c.in-Some.chunk c.first_bits.result c.args.direction (is_bit g.B.Sought.bit)
    (view_bits reading c.args.view) some c.parts-head.ensures.bits c.parts-head.ensures.len (omega arith)
    (omega (arith, c.if-len-ge-CHUNK.false)) (rw at c.read_bits.ensures) c.in-Some.ensures c.first_bits.ensures
