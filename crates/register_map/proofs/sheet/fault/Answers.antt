use Rattle.std.proofs.Common.{rules, subst, ◌≡◌, ℕ, [], ◌∷◌, length, refl, sym, ◌∙◌, inl, inr, arith}
use Rattle.std.proofs.lemmas.Bool.{cases_lt, false≢true}
use Rattle.std.proofs.lemmas.List.{length-map}
use Rattle.bit_addressing.specs.Span.{Extent, FitsIn}
use Rattle.bit_addressing.specs.Runs.{span_at, AreDisjoint}
use Rattle.register_map.specs.Devices.{extent_of, extents_of}
use Rattle.register_map.proofs.DeviceLemmas.{all_apart, common_bit, ends_beyond, pair_apart, pair_disjoint, read_at, some_apart}
use Rattle.register_map.proofs.DeviceLemmas.{Apart}
use Rattle.register_map.proofs.sheet.fault.Goals as goal

pub returns-then-not-fits-clause-none : goal.returns-then-not-fits-clause-none
returns-then-not-fits-clause-none c =
    let device = read_at c.args.devices.now c.loop-k.k c.index-devices-k.result (omega arith) c.index-devices-k.is in (
      λ no. cc,
      λ all.
          let fits : FitsIn 32 c.span.result c.args.size =
          subst (λ (s : Extent). FitsIn 32 s c.args.size) (device.span ∙ sym c.span.ensures)
          (all.1 c.loop-k.k device.number) in
          absurd (false≢true (sym c.if-not-fits.true ∙ c.fits.ensures.fit.1 fits)),
    )

pub returns-then-not-fits-clause-some : goal.returns-then-not-fits-clause-some
returns-then-not-fits-clause-some c =
    let device = read_at c.args.devices.now c.loop-k.k c.index-devices-k.result (omega arith) c.index-devices-k.is in
    let not = λ (fits : FitsIn 32 (extent_of c.index-devices-k.result) c.args.size).
    false≢true (sym c.if-not-fits.true ∙ c.fits.ensures.fit.1 (rw c.span.ensures fits)) in
    (refl, (c.loop-k.k, c.index-devices-k.result, device.is, refl, ends_beyond c.index-devices-k.result c.args.size not))

-- two spans that the test of a pair finds not disjoint
pub returns-then-not-disjoint-clause-none : goal.returns-then-not-disjoint-clause-none
returns-then-not-disjoint-clause-none c =
    let devices = c.args.devices.now in
    let later = read_at devices c.loop-k.k c.index-devices-k.result (omega arith) c.index-devices-k.is in
    let earlier = read_at devices c.loop-j.j c.index-devices-j.result (omega arith) c.index-devices-j.is in (
      λ no. cc,
      λ all.
          let apart = some_apart (extents_of devices) c.loop-j.j c.loop-k.k all.0 c.loop-j-test.true later.number in
          let pair : AreDisjoint 32 (c.span-in-loop-j.result ∷ c.span-in-loop-j-2.result ∷ []) =
          rw (c.span-in-loop-j.ensures, c.span-in-loop-j-2.ensures, ← earlier.span, ← later.span)
          (pair_disjoint _ _ apart) in
          absurd (false≢true (sym c.if-not-disjoint.true ∙ c.disjoint.ensures.disjoint.1 pair)),
    )

pub returns-then-not-disjoint-clause-some : goal.returns-then-not-disjoint-clause-some
returns-then-not-disjoint-clause-some c =
    let devices = c.args.devices.now in
    let one = c.index-devices-j.result in
    let other = c.index-devices-k.result in
    let later = read_at devices c.loop-k.k other (omega arith) c.index-devices-k.is in
    let earlier = read_at devices c.loop-j.j one (omega arith) c.index-devices-j.is in
    let not = λ (apart : AreDisjoint 32 (extent_of one ∷ extent_of other ∷ [])).
    false≢true (sym c.if-not-disjoint.true ∙ c.disjoint.ensures.disjoint.1
    (rw (c.span-in-loop-j.ensures, c.span-in-loop-j-2.ensures) apart)) in
    let common = common_bit (extent_of one) (extent_of other) one.some other.some not in
    (c.loop-j.j, c.loop-k.k, one, other, c.loop-j-test.true, earlier.is, refl, later.is, refl, common)

pub loop-j-preserved : goal.loop-j-preserved
loop-j-preserved c =
    let devices = c.args.devices.now in
    let one = c.index-devices-j.result in
    let other = c.index-devices-k.result in
    let earlier = read_at devices c.loop-j.j one (omega arith) c.index-devices-j.is in
    let pair = c.disjoint.ensures.disjoint.0 (search rules) in
    let here : Apart (extent_of one) (extent_of other) =
    pair_apart (extent_of one) (extent_of other) (rw (← c.span-in-loop-j.ensures, ← c.span-in-loop-j-2.ensures) pair) in
    record {
      low = omega arith;
      apart = λ s below. elim (cases_lt s c.loop-j.j) [
        | inl before ↦ c.loop-j.invariant.apart s before
        | inr last ↦
            let same : s ≡ c.loop-j.j = omega arith in
            rw (same, earlier.span) here
      ];
    }

pub loop-k-preserved : goal.loop-k-preserved
loop-k-preserved c =
    let devices = c.args.devices.now in
    let k : ℕ = c.loop-k.k in
    let later = read_at devices k c.index-devices-k.result (omega arith) c.index-devices-k.is in
    let fits : FitsIn 32 (span_at (extents_of devices) k) c.args.size =
    subst (λ (s : Extent). FitsIn 32 s c.args.size) (c.span.ensures ∙ sym later.span)
    (c.fits.ensures.fit.0 (search rules)) in
    record {
      low = omega arith;
      fit = λ s below. elim (cases_lt s k) [
        | inl before ↦ c.loop-k.invariant.fit s before
        | inr last ↦ let same : s ≡ k = omega arith in rw same fits
      ];
      apart = record {
        apart = λ s t less below. elim (cases_lt t k) [
          | inl before ↦ c.loop-k.invariant.apart.apart s t less before
          | inr last ↦
              let same : t ≡ k = omega arith in
              rw (same, later.span) (c.loop-j.invariant.apart s (omega arith))
        ];
      };
    }

pub returns-clause-none : goal.returns-clause-none
returns-clause-none c =
    let devices = c.args.devices.now in
    let all = length-map devices extent_of in
    let end : c.loop-k.k ≡ length (extents_of devices) = omega arith in (
      λ _. (
        all_apart (extents_of devices) (rw (← end) c.loop-k.invariant.apart),
        λ s within. c.loop-k.invariant.fit s (omega arith),
      ),
      λ _. refl,
    )
