use Rattle.std.proofs.Common.{◌≡◌, ℕ, ◌%◌, length, rules, sym, ap, ◌∙◌, arith}
use Rattle.bit_slice.specs.Memory.{memory, piece, with_piece}
use Rattle.bit_slice.specs.Network.{network, network_bits}
use Rattle.bit_slice.specs.ViewMut.{lent_bits}
use Rattle.bit_slice.proofs.MemoryLemmas.{length-memory, length-piece}
use Rattle.bit_slice.proofs.NetworkLemmas.{field_network, length-network_bits}
use Rattle.bit_slice.proofs.WrittenLemmas.{memory_with}
use Rattle.ipv4_header.proofs.field.store.Goals as goal

pub returns-clause-bits : goal.returns-clause-bits
returns-clause-bits g c =
    let before = c.args.bytes.now in
    let at : ℕ = c.args.at in
    let n : ℕ = c.args.width in
    let z = g.M.Integral.whole c.args.value in
    let v = c.from_place_mut-view.result in
    let w = c.store_be.new.self in
    let made = c.from_place_mut-view.ensures in
    let after = w.words.now in
    let m : ℕ = length (lent_bits network w) in
    let size : w.len ≡ m =
    sym (length-piece (memory network after) w.head w.len (omega (arith, length-memory network after, w.fits))) in
    let now : piece (memory network after) w.head m ≡ network_bits n z =
    ap (λ k. piece (memory network after) w.head k) (sym size)
    ∙ c.store_be.ensures.bits ∙ field_network (v.head % 8) (length (lent_bits network v)) z
    ∙ ap (λ k. network_bits k z) made.len in
    let there : memory network after ≡ with_piece (memory network before) at (network_bits n z) =
    memory_with network v.words.ghost_name w.words.ghost_name before v.words.now after at v.head w.head n
    (length (lent_bits network v)) m (network_bits n z) made.words made.place made.len c.store_be.ensures.len
    c.store_be.ensures.frame now (length-network_bits n z) in
    search (rules, there)
