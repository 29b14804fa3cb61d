use Rattle.std.proofs.Common.{◌≡◌, ℕ, ◌+◌, ◌<◌, true, false, List, [], ◌∷◌, length, get_or, refl, sym, ap, ◌∙◌, arith}
use Rattle.std.proofs.lemmas.Bool.{lt-ltb}
use Rattle.std.proofs.lemmas.List.{get_or-set_same}
use Rattle.bit_addressing.specs.Memory.{entry, read_by}
use Rattle.bit_addressing.specs.Span.{span_bits, span_place}
use Rattle.bit_addressing.specs.Runs.{commands_of, replies_of, span_at}
use Rattle.bit_addressing.specs.declared.command.SpanCommand.TheVariants.{Read, Replace}
use Rattle.bit_addressing.specs.declared.command.SpanReply.{SpanReply}
use Rattle.bit_addressing.specs.declared.command.SpanReply.TheVariants.{Bit, Refused}
use Rattle.bit_addressing.proofs.CallerLemmas.{run_bit, run_replies, list_in_range, list_of_one, answer_in_range}
use Rattle.bit_addressing.proofs.CallerLemmas.{answer_of_one, seen_bit}
use Rattle.bit_addressing.proofs.CommandLemmas.{length-span_bits, span_bit}
use Rattle.bit_addressing_tests.proofs.callers.set_and_read.Goals as goal

-- the one reply of span 1 is the second
second : {R : Type 0} (replies : List (SpanReply R)) → length replies ≡ 2
    → replies_of 1 ((0, Replace 0 true) ∷ (1, Read 0) ∷ []) replies ≡ get_or replies 1 Refused ∷ []
unfolding replies_of
second [] two = absurd (omega arith)
second (one ∷ []) two = absurd (omega arith)
second (one ∷ other ∷ rest) two = refl

pub returns : goal.returns
unfolding commands_of
returns g c =
    let reading = read_by g.R.BitRegister g.O.Positions.position in
    let before = c.args.memory.now in
    let spans = c.args.spans.now in
    let replies = c.run.new.replies in
    let some : 0 < reading.bits = omega (arith, g.met.R.BitRegister.least_bits) in
    let runs = rw c.requires.commands at c.run.ensures.run in
    let place = λ (s : ℕ). span_place reading.bits (span_at spans s) in
    let bits = λ (s : ℕ). span_bits reading before (span_at spans s) in
    let size = λ (s : ℕ) (within : s < length spans).
    length-span_bits reading before (span_at spans s) (c.run.ensures.heads s within) (c.requires.fit s within) in
    let first : 0 < length (bits 0) = omega (arith, size 0 (omega arith)) in
    let other : 0 < length (bits 1) = omega (arith, size 1 (omega arith)) in
    let set =
    run_bit reading before c.run.new.memory spans _ replies 0 0 (Replace 0 true ∷ []) some (omega arith)
    c.requires.bits.0 refl runs
    ∙ ap (λ xs. get_or xs 0 false) (list_of_one reading _ (Replace 0 true) (bits 0)
    ∙ list_in_range reading _ (Replace 0 true) (bits 0) (lt-ltb 0 (length (bits 0)) first))
    ∙ get_or-set_same (bits 0) 0 true false first in
    let told =
    run_replies reading before c.run.new.memory spans _ replies 1 (Read 0 ∷ []) _ (omega arith) refl
    (second replies (omega arith)) runs
    ∙ answer_of_one reading _ (Read 0) (bits 1)
    ∙ ap (λ answer. answer ∷ []) (answer_in_range reading.bits _ (Read 0) (bits 1)
    (lt-ltb 0 (length (bits 1)) other)) in
    let read = seen_bit reading (get_or replies 1 Refused) (get_or (bits 1) 0 false) cc in
    let start : place 0 + 0 ≡ place 0 = omega arith in
    let next : place 1 + 0 ≡ place 1 = omega arith in
    record {
      set = ap (entry reading c.run.new.memory) (sym start) ∙ set;
      read = read ∙ ap Bit (span_bit reading before (span_at spans 1) 0 some c.requires.bits.1
          ∙ ap (entry reading before) next);
    }
