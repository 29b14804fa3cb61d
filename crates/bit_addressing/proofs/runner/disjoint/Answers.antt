use Rattle.std.proofs.Common.{refl, sym, ◌∙◌, inl, inr, arith}
use Rattle.std.proofs.lemmas.Bool.{cases_eq, false≢true}
use Rattle.bit_addressing.specs.Runs.{AreDisjoint, IsInside, span_at}
use Rattle.bit_addressing.proofs.RunLemmas.{span_read}
use Rattle.bit_addressing.proofs.runner.disjoint.Goals as goal

pub loop-earlier-preserved : goal.loop-earlier-preserved
loop-earlier-preserved g c =
    let spans = c.args.spans.now in
    let b = g.R.BitRegister.BITS in
    let one = span_read spans c.loop-earlier.earlier c.index-spans-earlier.result (omega arith)
    c.index-spans-earlier.is in
    let other = span_read spans c.loop-later.later c.index-spans-later.result (omega arith) c.index-spans-later.is in
    let of_earlier = c.places.ensures in
    let of_later = c.places-place.ensures in
    let apart = rw (of_earlier.start, of_earlier.end, of_later.start, of_later.end, one, other) at
    (c.are_apart.ensures.0 c.if-not-are_apart.false) in
    λ s p before inside low. elim (cases_eq s c.loop-earlier.earlier) [
      | inl last ↦
          let here : IsInside b (span_at spans c.loop-earlier.earlier) p = rw (← last) inside in
          apart p here.0 here.1 low
      | inr ne ↦ c.loop-earlier.invariant s p (omega arith) inside low
    ]

pub loop-later-preserved : goal.loop-later-preserved
loop-later-preserved g c =
    let spans = c.args.spans.now in
    let span = span_read spans c.loop-later.later c.index-spans-later.result (omega arith) c.index-spans-later.is in
    record {
      apart = λ s t p less before. elim (cases_eq t c.loop-later.later) [
        | inl last ↦ rw last (c.loop-earlier.invariant s p (omega arith))
        | inr other ↦ c.loop-later.invariant.apart s t p less (omega arith)
      ];
      heads = λ s before. elim (cases_eq s c.loop-later.later) [
        | inl last ↦ rw (last, ← span) c.places-place.ensures.index
        | inr other ↦ c.loop-later.invariant.heads s (omega arith)
      ];
    }

pub returns-then-not-are_apart-clause-disjoint : goal.returns-then-not-are_apart-clause-disjoint
unfolding AreDisjoint
returns-then-not-are_apart-clause-disjoint g c =
    let spans = c.args.spans.now in
    let one = span_read spans c.loop-earlier.earlier c.index-spans-earlier.result (omega arith)
    c.index-spans-earlier.is in
    let other = span_read spans c.loop-later.later c.index-spans-later.result (omega arith) c.index-spans-later.is in
    let of_earlier = c.places.ensures in
    let of_later = c.places-place.ensures in
    let told = rw (of_earlier.start, of_earlier.end, of_later.start, of_later.end, one, other) at
    c.are_apart.ensures.1 in (
      λ yes. absurd (false≢true yes),
      λ disjoint.
          sym c.if-not-are_apart.true
          ∙ told (λ p low high.
          disjoint c.loop-earlier.earlier c.loop-later.later p (omega arith) (omega arith) (low, high)),
    )

pub returns-clause-disjoint : goal.returns-clause-disjoint
unfolding AreDisjoint
returns-clause-disjoint g c =
    (λ _ s t p less within. c.loop-later.invariant.apart s t p less (omega arith), λ _. refl)
