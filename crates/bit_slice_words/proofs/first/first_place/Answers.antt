use Rattle.bit_addressing_memory.proofs.Common.{◌≡◌, ℕ, ◌+◌, ◌*◌, ◌<◌, ◌≤◌, arith, read_by}
use Rattle.bit_slice_words.specs.Stretch.{bit_found, IsFirst, Nowhere}
use Rattle.bit_slice_words.proofs.StretchLemmas.{first_of_cut}
use Rattle.bit_slice_words.proofs.first.first_place.Goals as goal
use Rattle.bit_slice_words.proofs.first.first_place.Goals.{then-by_rounds, else-by_rounds, then-next-cut, else-next-cut}

-- none in the first word's part, none in the words up to `next`, and what is found in that one
pub returns : goal.returns
returns g c =
    let b = g.R.BitRegister.BITS in
    let passes = bit_found (read_by g.R.BitRegister g.O.Positions.position) c.args.words.now c.args.bit in
    let cut = c.edges_of-cut.ensures in
    let at = c.edges_of-cut.result in
    let head = rw c.BITS.ensures at c.in_default.ensures in
    let found : (next : ℕ) → c.if-by_rounds.next ≡ next → at.first + 1 ≤ next → next ≤ at.last
    → Nowhere passes ((at.first + 1) * b) (next * b)
    → (next < at.last → Nowhere passes (next * b) ((next + 1) * b) → ⊥)
    → IsFirst passes c.args.place (c.args.place + c.args.len) c.first_at-3.result =
    λ next is least most none some. first_of_cut passes b c.args.place (c.args.place + c.args.len) at.first at.from
    at.last at.upto next c.if-next-cut.upto c.first_at-3.result cut.start cut.end (omega arith) cut.within least most
    head none some
    (λ same. elim c.if-next-cut.branch [ then-next-cut w ↦ w.upto-is | else-next-cut w ↦ absurd (omega arith) ])
    (λ less. elim c.if-next-cut.branch [ then-next-cut w ↦ absurd (omega arith) | else-next-cut w ↦ omega arith ])
    (rw is at c.first_at-3.ensures) in
    elim c.if-by_rounds.branch [
      | then-by_rounds w ↦
          let next = w.next_far-next.ensures in
          found w.next_far-next.result w.next-is next.least next.most next.none next.some
      | else-by_rounds w ↦
          let next = w.next_near-next.ensures in
          found w.next_near-next.result w.next-is next.least next.most next.none next.some
    ]
