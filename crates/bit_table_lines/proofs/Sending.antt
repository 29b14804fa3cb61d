-- Bytes that go out in several writes.
use Rattle.std.proofs.Common.{◌≡◌, ℕ, ◌<◌, List, [], ◌++◌, length, take, drop, Option, refl, sym, ap, ◌∙◌, append_assoc}
use Rattle.std.proofs.Common.{append-nil, take-append-drop, subst}
use Rattle.std.specs.Io.KnownBytes.{Appends, Keeps}
use Rattle.std.proofs.KnownBytes.{Appends-nil, Appends-trans, Appends-kept}
use Rattle.bit_table_lines.specs.Streams.{AppendsPart}

-- a front of the bytes went out, and the rest is left
pub record HasSent (old new : Option (List ℕ)) (bytes rest : List ℕ) : Type 0 where
  pub sent : List ℕ
  pub joined : bytes ≡ sent ++ rest
  pub appended : Appends old new sent

pub has_sent_none : (old : Option (List ℕ)) (bytes : List ℕ) → HasSent old old bytes bytes
has_sent_none old bytes = record { sent = []; joined = refl; appended = Appends-nil old }

-- a write took the first n bytes of the rest
pub has_sent_more : (old mid new : Option (List ℕ)) (bytes rest next : List ℕ) (n : ℕ) → HasSent old mid bytes rest
    → Appends mid new (take n rest) → next ≡ drop n rest → HasSent old new bytes next
has_sent_more old mid new bytes rest next n h a e = record {
  sent = h.sent ++ take n rest;
  joined =
      let whole : take n rest ++ next ≡ rest = ap (λ l. take n rest ++ l) e ∙ take-append-drop n rest in
      h.joined ∙ ap (λ l. h.sent ++ l) (sym whole) ∙ sym (append_assoc h.sent (take n rest) next);
  appended = Appends-trans old mid new h.sent (take n rest) h.appended a;
}

pub has_sent_all : (old new : Option (List ℕ)) (bytes rest : List ℕ) → HasSent old new bytes rest → rest ≡ []
    → Appends old new bytes
has_sent_all old new bytes rest h e =
    subst (Appends old new) (sym (h.joined ∙ ap (λ l. h.sent ++ l) e ∙ append-nil h.sent)) h.appended

-- a write failed with bytes left
pub has_sent_part : (old mid new : Option (List ℕ)) (bytes rest : List ℕ) → HasSent old mid bytes rest
    → 0 < length rest → Keeps mid new → AppendsPart old new bytes
has_sent_part old mid new bytes rest h p k = record {
  bytes = h.sent;
  appended = Appends-kept old mid new h.sent h.appended k;
  beginning = record { rest = rest; joined = h.joined; proper = p };
}
