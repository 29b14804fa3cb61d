use Rattle.std.proofs.Common.{◌/◌, refl, lit≤, ap}
use Rattle.ipv4_header.proofs.ByteLemmas.{begins_none, begins_more, begins_all}
use Rattle.ipv4_header.proofs.header.Header.write_fields.Goals as goal

-- field by field, in the order of the stores
pub returns-clause-bits : goal.returns-clause-bits
returns-clause-bits c =
    let h = c.args.self.now in
    let s0 = begins_none 20 c.args.bytes.now c.requires in
    let s1 = begins_more 20 _ c.store.new.bytes _ 4 4 _ _ (lit≤ tt) refl c.store.ensures.bits c.store.ensures.len s0 in
    let s2 = begins_more 20 _ c.store-2.new.bytes _ 4 (c.len.result / 4) _ _ (lit≤ tt) (ap (λ n. n / 4) c.len.ensures)
    c.store-2.ensures.bits c.store-2.ensures.len s1 in
    let s3 = begins_more 20 _ c.store-3.new.bytes _ 8 h.type_of_service _ _ (lit≤ tt) refl
    c.store-3.ensures.bits c.store-3.ensures.len s2 in
    let s4 = begins_more 20 _ c.store-4.new.bytes _ 16 h.total_length _ _ (lit≤ tt) refl
    c.store-4.ensures.bits c.store-4.ensures.len s3 in
    let s5 = begins_more 20 _ c.store-5.new.bytes _ 16 h.identification _ _ (lit≤ tt) refl
    c.store-5.ensures.bits c.store-5.ensures.len s4 in
    let s6 = begins_more 20 _ c.store-6.new.bytes _ 3 h.flags _ _ (lit≤ tt) refl
    c.store-6.ensures.bits c.store-6.ensures.len s5 in
    let s7 = begins_more 20 _ c.store-7.new.bytes _ 13 h.fragment_offset _ _ (lit≤ tt) refl
    c.store-7.ensures.bits c.store-7.ensures.len s6 in
    let s8 = begins_more 20 _ c.store-8.new.bytes _ 8 h.time_to_live _ _ (lit≤ tt) refl
    c.store-8.ensures.bits c.store-8.ensures.len s7 in
    let s9 = begins_more 20 _ c.store-9.new.bytes _ 8 h.protocol _ _ (lit≤ tt) refl
    c.store-9.ensures.bits c.store-9.ensures.len s8 in
    let s10 = begins_more 20 _ c.store-10.new.bytes _ 16 h.checksum _ _ (lit≤ tt) refl
    c.store-10.ensures.bits c.store-10.ensures.len s9 in
    let s11 = begins_more 20 _ c.store-11.new.bytes _ 32 c.to_bits.result _ _ (lit≤ tt) c.to_bits.ensures
    c.store-11.ensures.bits c.store-11.ensures.len s10 in
    let s12 = begins_more 20 _ c.store-12.new.bytes _ 32 c.to_bits-2.result _ _ (lit≤ tt) c.to_bits-2.ensures
    c.store-12.ensures.bits c.store-12.ensures.len s11 in
    begins_all 20 c.store-12.new.bytes _ s12
