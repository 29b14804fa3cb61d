use Rattle.std.proofs.Common.{◌≡◌, ◌+◌, ◌<◌, ◌≤◌, ◌*◌, ℕ, true, length, set, arith, sym, ap, ◌∙◌, rules, refl}
use Rattle.bit_addressing_memory.specs.Memory.{memory, piece, read_by}
use Rattle.bit_slice_views_mut.specs.Frame.{frame_of}
use Rattle.bit_slice_views_mut.specs.Parts.{Windows}
use Rattle.bit_slice_access.proofs.CutLemmas.{part_set}
use Rattle.bit_slice_access.specs.Cut.{body_bits, head_bits}
use Rattle.bit_slice_tests.proofs.word_callers.mark_parts.Goals as goal

pub returns : goal.returns
returns g c =
    let of : Windows _ _ _ = record {
      reading = read_by g.V.Store.BitRegister g.V.Order.Positions.position;
      some = omega (arith, g.met.V.Store.BitRegister.least_bits);
      bits = g.V.Bits.bits;
      lender = g.V.BitsMut.lender;
      words = g.V.BitsMut.words;
      place = g.V.BitsMut.place;
      frame = g.V.BitsMut.frame;
      window = g.met.V.BitsMut.window;
      fits = g.met.V.BitsMut.fits;
      framed = g.met.V.BitsMut.framed;
    } in
    let v = c.args.view.now in
    let at = of.place v in
    let n : ℕ = length (of.bits v) in
    let cut = c.bit_domain_mut-domain.ensures.cut in
    let fits = of.fits v in
    let head = c.head_mut.result.now in
    let body = c.body_mut.result.now in
    let tail = c.tail_mut.result.now in
    let last = c.drop-domain.new.self.0 in
    let first : ℕ = c.bit_domain_mut-domain.result.first in
    let upto : ℕ = c.bit_domain_mut-domain.result.first + c.bit_domain_mut-domain.result.body in
    let head_words : of.words head ≡ of.words v = cc in
    let head_lender : of.lender head ≡ of.lender v = cc in
    let body_words : of.words body ≡ of.words c.set.new.self = cc in
    let body_lender : of.lender body ≡ of.lender c.set.new.self = cc in
    let tail_words : of.words tail ≡ of.words c.set-2.new.self = cc in
    let tail_lender : of.lender tail ≡ of.lender c.set-2.new.self = cc in
    let last_words : of.words last ≡ of.words c.set-3.new.self = cc in
    let last_lender : of.lender last ≡ of.lender c.set-3.new.self = cc in
    let last_place : of.place last ≡ at = cc in
    let last_len : length (of.bits last) ≡ n = cc in
    let low : 0 < length (of.bits head) = omega (arith, c.requires.head, cut.first, c.head_mut.ensures.len) in
    let low2 : 0 < length (of.bits body) = omega (arith, c.requires.body, cut.body, c.body_mut.ensures.len) in
    let low3 : 0 < length (of.bits tail) =
    omega (arith, c.requires.tail, cut.first, cut.body, cut.len, c.tail_mut.ensures.len) in
    let in1 : 0 + length (of.bits head) ≤ n = omega (arith, cut.inside, c.head_mut.ensures.len) in
    let in2 : first + length (of.bits body) ≤ n = omega (arith, cut.inside, c.body_mut.ensures.len) in
    let in3 : upto + length (of.bits tail) ≤ n = omega (arith, cut.inside, cut.len, c.tail_mut.ensures.len) in
    let fits1 : at + n ≤ length (of.words head) * of.reading.bits = rw head_words fits in
    let one = part_set of head c.set.new.self at n 0 0 true c.set.ensures.frame c.set.ensures.bits c.set.ensures.len
    low (omega (arith, c.head_mut.ensures.place, cut.starts)) in1 fits1 in
    let fits2 : at + n ≤ length (of.words body) * of.reading.bits = rw (body_words, one.2) fits1 in
    let two = part_set of body c.set-2.new.self at n first 0 true c.set-2.ensures.frame c.set-2.ensures.bits
    c.set-2.ensures.len low2 (omega (arith, c.body_mut.ensures.place, cut.starts)) in2 fits2 in
    let fits3 : at + n ≤ length (of.words tail) * of.reading.bits = rw (tail_words, two.2) fits2 in
    let three = part_set of tail c.set-3.new.self at n upto 0 true c.set-3.ensures.frame c.set-3.ensures.bits
    c.set-3.ensures.len low3 (omega (arith, c.tail_mut.ensures.place, cut.starts)) in3 fits3 in
    let shown : of.bits last ≡ piece (memory of.reading (of.words c.set-3.new.self)) at n =
    of.window last ∙ rw (last_words, last_place, last_len) refl in
    let bits : of.bits last ≡ set (set (set (of.bits v) 0 true) first true) upto true =
    shown ∙ three.0
    ∙ ap (λ k. set (piece (memory of.reading (of.words tail)) at n) k true) (omega arith)
    ∙ ap (λ ws. set (piece (memory of.reading ws) at n) upto true) tail_words
    ∙ ap (λ xs. set xs upto true) (two.0
    ∙ ap (λ k. set (piece (memory of.reading (of.words body)) at n) k true) (omega arith)
    ∙ ap (λ ws. set (piece (memory of.reading ws) at n) first true) body_words
    ∙ ap (λ xs. set xs first true) (one.0
    ∙ ap (λ ws. set (piece (memory of.reading ws) at n) 0 true) head_words
    ∙ ap (λ xs. set xs 0 true) (sym (of.window v)))) in
    let whole = of.frame v in
    let head_frame : frame_of of.reading (of.lender head) (of.words head) at n ≡ whole =
    rw (head_words, head_lender) (sym (of.framed v)) in
    let body_frame : frame_of of.reading (of.lender body) (of.words body) at n ≡ whole =
    rw (body_words, body_lender) (one.1 ∙ head_frame) in
    let tail_frame : frame_of of.reading (of.lender tail) (of.words tail) at n ≡ whole =
    rw (tail_words, tail_lender) (two.1 ∙ body_frame) in
    let last_frame : frame_of of.reading (of.lender last) (of.words last) (of.place last) (length (of.bits last))
    ≡ whole = rw (last_words, last_lender, last_place, last_len) (three.1 ∙ tail_frame) in
    let around : of.frame last ≡ whole = of.framed last ∙ last_frame in
    let all : of.bits last
    ≡ set (set (set (of.bits v) 0 true) (head_bits g.V.Store.BitRegister.BITS at n) true)
    (head_bits g.V.Store.BitRegister.BITS at n + body_bits g.V.Store.BitRegister.BITS at n) true =
    bits ∙ ap (λ k. set (set (set (of.bits v) 0 true) k true) upto true) cut.first
    ∙ ap (λ k. set (set (set (of.bits v) 0 true) (head_bits g.V.Store.BitRegister.BITS at n) true) k true)
    (omega (arith, cut.first, cut.body)) in
    record { bits = search (rules, all); frame = search (rules, around) }
