use Rattle.bit_addressing_memory.proofs.Common.{◌≡◌, ◌+◌, ◌-◌, ◌*◌, ◌/◌, ◌%◌, ◌<◌, refl, ap, arith}
use Rattle.bit_addressing_memory.proofs.Common.{cases_lt, inl, inr, read_by}
use Rattle.std.proofs.lemmas.Nat.{div-add-mod', div-mul-add}
use Rattle.bit_slice_paths.proofs.WalkLemmas.{equal_more}
use Rattle.bit_slice_paths.proofs.two_memories.match_behind.Goals as goal

pub match_middle-same-requires-clause-whole : goal.match_middle-same-requires-clause-whole
match_middle-same-requires-clause-whole g c =
    let bits = c.bits_of-bits.result in
    let x = c.args.place + c.args.few in
    let some : 0 < bits = omega (arith, c.bits_of-bits.ensures, g.met.R.BitRegister.least_bits) in
    let here : c.args.place + (c.args.few - x % bits) ≡ x / bits * bits + 0 = omega (arith, div-add-mod' x bits) in
    rw (← c.bits_of-bits.ensures, here) (omega (arith, ap (λ q. q * bits) (div-mul-add (x / bits) bits 0 some)))

pub returns-clause-same : goal.returns-clause-same
returns-clause-same g c k low =
    let bits = c.bits_of-bits.result in
    let start = c.args.few - (c.args.place + c.args.few) % bits in
    let same = c.match_middle-same.result in
    let row : same * bits ≡ same * g.R.BitRegister.BITS = ap (λ b. same * b) c.bits_of-bits.ensures in
    equal_more (read_by g.R.BitRegister g.O.Positions.position) (read_by g.Q.BitRegister g.P.Positions.position)
    c.args.words.now c.args.others.now c.args.place c.args.other_place start (same * g.R.BitRegister.BITS)
    (start + same * g.R.BitRegister.BITS) refl (λ i small. c.requires.same i (omega arith)) c.match_middle-same.ensures.same k
    (omega (arith, row))

pub returns-clause-differ : goal.returns-clause-differ
returns-clause-differ g c less all = elim (cases_lt c.match_middle-same.result ((c.args.len
    - (c.args.few - (c.args.place + c.args.few) % c.bits_of-bits.result) - c.if-is_some.over) / c.bits_of-bits.result)) [
      | inl low ↦
          let bits = c.bits_of-bits.result in
          let start = c.args.few - (c.args.place + c.args.few) % bits in
          let rest = c.args.len - start - c.if-is_some.over in
          let row : rest / bits * bits ≡ rest / bits * g.R.BitRegister.BITS = ap (λ b. rest / bits * b) c.bits_of-bits.ensures in
          c.match_middle-same.ensures.differ low (λ k small.
          let here : c.args.place + start + k ≡ c.args.place + (start + k) = omega arith in
          let there : c.args.other_place + start + k ≡ c.args.other_place + (start + k) = omega arith in
          rw (here, there) (all (start + k) (omega (arith, row, div-add-mod' rest bits))))
      | inr high ↦
          let none : c.min.result ≡ 0 = omega arith in
          absurd (omega (arith, rw none at less))
    ]
