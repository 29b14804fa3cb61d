use Rattle.std.proofs.Common.{◌≡◌, refl, Result, Ok, Err, IsOk, IfErr}
use Rattle.std.proofs.lemmas.Result.{IfOk-weaker, IfErr-weaker}
use Rattle.ipv4_header.specs.Header.{fields_of, BeginsWith, IsFault}
use Rattle.ipv4_header.proofs.LawLemmas.{same_header, no_fault}
use Rattle.ipv4_header.proofs.laws.write_then_read.Goals as goal

ok_unless : {T E : Type 0} (r : Result T E) → IfErr r (λ _. ⊥) → IsOk r
ok_unless (Ok x) _ = refl
ok_unless (Err e) none = elim none [ ]

pub returns-clause-succeeds : goal.returns-clause-succeeds
returns-clause-succeeds c =
    let bytes = c.write.new.bytes in
    ok_unless c.read.result (IfErr-weaker c.read.result (IsFault bytes) (λ _. ⊥)
    (λ error fault. no_fault bytes c.args.header.now error c.write.ensures.written fault) c.read.ensures.err)

pub returns-clause-fields : goal.returns-clause-fields
returns-clause-fields c =
    let h = c.args.header.now in
    let bytes = c.write.new.bytes in
    IfOk-weaker c.read.result (BeginsWith bytes) (λ read. fields_of read ≡ fields_of h)
    (λ read is. (same_header bytes read h is c.write.ensures.written).0) c.read.ensures.ok

pub returns-clause-options : goal.returns-clause-options
returns-clause-options c =
    let h = c.args.header.now in
    let bytes = c.write.new.bytes in
    IfOk-weaker c.read.result (BeginsWith bytes) (λ read. read.options.now ≡ h.options.now)
    (λ read is. (same_header bytes read h is c.write.ensures.written).1) c.read.ensures.ok
