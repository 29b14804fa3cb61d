-- A run over spans, one command after another, and what its order may be.
--
-- One command more: `runs_none`, `runs_carried`, `runs_refused`. The law: `order_is_free`.
-- Spans: `span_bits_same`, `span_entries` (their bits and the memory's entries).
use Rattle.std.proofs.Common.{◌≡◌, ◌≢◌, ℕ, zero, suc, ◌+◌, ◌-◌, ◌*◌, ◌<◌, ◌≤◌, ◌==◌, ◌⊎◌, Bool, false}
use Rattle.std.proofs.Common.{List, [], ◌∷◌, ◌++◌, length, get_or, refl, sym, ap, ◌∙◌, inl, inr, arith}
use Rattle.std.proofs.lemmas.Bool.{cases_eq, cases_lt, cases_Bool, eq-eqb, ne_eqb}
use Rattle.std.proofs.lemmas.List.{ext_get_or, get_or_default, length-take, length-drop, map_push}
use Rattle.std.proofs.lemmas.List.Elements.{All-push, All-nil}
use Rattle.bit_addressing_memory.specs.Memory.{Reading, entry, memory, piece}
use Rattle.bit_addressing_span.specs.Span.{Extent, extent, span_bits, span_place}
use Rattle.bit_addressing_memory.proofs.MemoryLemmas.{entry_memory, get_or-piece, length-memory, same_memory}
use Rattle.bit_addressing.specs.declared.command.SpanCommand.{SpanCommand}
use Rattle.bit_addressing.specs.declared.command.SpanReply.{SpanReply}
use Rattle.bit_addressing.specs.declared.command.SpanReply.TheVariants.{Refused}
use Rattle.bit_addressing.specs.Own.{own_after, own_answer, own_answers, own_list, seen}
use Rattle.bit_addressing.specs.Runs.{AreDisjoint, CarriesOut, IsInside, IsOutside, OrderOfSpansIsFree}
use Rattle.bit_addressing.specs.Runs.{Runs, commands_of, replies_of, span_at}

-- ---- lists with one more at their end

-- one more command at the span s
commands_of_own : {R : Type 0} (s : ℕ) (commands : List (ℕ × SpanCommand R)) (next : ℕ × SpanCommand R)
    → next.0 ≡ s → commands_of s (commands ++ next ∷ []) ≡ commands_of s commands ++ next.1 ∷ []
unfolding commands_of
commands_of_own s [] next own = rw (eq-eqb next.0 s own) refl
commands_of_own s (x ∷ xs) next own = elim (cases_Bool (x.0 == s)) [
  | inl is ↦ rw is (ap (λ rest. x.1 ∷ rest) (commands_of_own s xs next own))
  | inr not ↦ rw not (commands_of_own s xs next own)
]

-- and one at another
commands_of_other : {R : Type 0} (s : ℕ) (commands : List (ℕ × SpanCommand R)) (next : ℕ × SpanCommand R)
    → next.0 ≢ s → commands_of s (commands ++ next ∷ []) ≡ commands_of s commands
unfolding commands_of
commands_of_other s [] next other = rw (ne_eqb next.0 s other) refl
commands_of_other s (x ∷ xs) next other = elim (cases_Bool (x.0 == s)) [
  | inl is ↦ rw is (ap (λ rest. x.1 ∷ rest) (commands_of_other s xs next other))
  | inr not ↦ rw not (commands_of_other s xs next other)
]

-- the reply to one more command at the span s
replies_of_own : {R : Type 0} (s : ℕ) (commands : List (ℕ × SpanCommand R)) (next : ℕ × SpanCommand R)
    (replies : List (SpanReply R)) (reply : SpanReply R) → length commands ≡ length replies → next.0 ≡ s
    → replies_of s (commands ++ next ∷ []) (replies ++ reply ∷ []) ≡ replies_of s commands replies ++ reply ∷ []
unfolding replies_of
replies_of_own s [] next [] reply same own = rw (eq-eqb next.0 s own) refl
replies_of_own s [] next (y ∷ ys) reply same own = absurd (omega arith)
replies_of_own s (x ∷ xs) next [] reply same own = absurd (omega arith)
replies_of_own s (x ∷ xs) next (y ∷ ys) reply same own =
    let rest = replies_of_own s xs next ys reply (omega arith) own in
    elim (cases_Bool (x.0 == s)) [
      | inl is ↦ rw is (ap (λ rest. y ∷ rest) rest)
      | inr not ↦ rw not rest
    ]

-- and to one at another
replies_of_other : {R : Type 0} (s : ℕ) (commands : List (ℕ × SpanCommand R)) (next : ℕ × SpanCommand R)
    (replies : List (SpanReply R)) (reply : SpanReply R) → length commands ≡ length replies → next.0 ≢ s
    → replies_of s (commands ++ next ∷ []) (replies ++ reply ∷ []) ≡ replies_of s commands replies
unfolding replies_of
replies_of_other s [] next [] reply same other = rw (ne_eqb next.0 s other) refl
replies_of_other s [] next (y ∷ ys) reply same other = absurd (omega arith)
replies_of_other s (x ∷ xs) next [] reply same other = absurd (omega arith)
replies_of_other s (x ∷ xs) next (y ∷ ys) reply same other =
    let rest = replies_of_other s xs next ys reply (omega arith) other in
    elim (cases_Bool (x.0 == s)) [
      | inl is ↦ rw is (ap (λ rest. y ∷ rest) rest)
      | inr not ↦ rw not rest
    ]

-- a list after one more command
own_list-push : {R : Type 0} (reading : Reading R) (head : ℕ) (commands : List (SpanCommand R))
    (next : SpanCommand R) (bits : List Bool)
    → own_list reading head (commands ++ next ∷ []) bits
    ≡ own_after reading head next (own_list reading head commands bits)
unfolding own_list
own_list-push reading head [] next bits = refl
own_list-push reading head (x ∷ xs) next bits = own_list-push reading head xs next (own_after reading head x bits)

-- and what is answered to it
own_answers-push : {R : Type 0} (reading : Reading R) (head : ℕ) (commands : List (SpanCommand R))
    (next : SpanCommand R) (bits : List Bool)
    → own_answers reading head (commands ++ next ∷ []) bits
    ≡ own_answers reading head commands bits ++ own_answer reading.bits head next
    (own_list reading head commands bits) ∷ []
unfolding own_answers own_list
own_answers-push reading head [] next bits = refl
own_answers-push reading head (x ∷ xs) next bits =
    ap (λ rest. own_answer reading.bits head x bits ∷ rest)
    (own_answers-push reading head xs next (own_after reading head x bits))

-- ---- spans

length-pieces : {X : Type 0} (xs ys : List X) (p n : ℕ) → length xs ≡ length ys
    → length (piece xs p n) ≡ length (piece ys p n)
unfolding piece
length-pieces xs ys p n same = simp (length-take, length-drop) (omega arith)

piece_short : {X : Type 0} (xs : List X) (p n : ℕ) → length (piece xs p n) ≤ n
unfolding piece
piece_short xs p n = simp length-take (omega arith)

-- the bits of a span whose entries are as before
pub span_bits_same : {R : Type 0} (reading : Reading R) (before after : List R) (span : Extent) → 0 < reading.bits
    → length after ≡ length before
    → ((p : ℕ) → IsInside reading.bits span p → entry reading after p ≡ entry reading before p)
    → span_bits reading after span ≡ span_bits reading before span
span_bits_same reading before after span some same equal =
    let old = memory reading before in
    let new = memory reading after in
    let first : ℕ = span_place reading.bits span in
    let size : length new ≡ length old =
    length-memory reading after ∙ ap (λ n. n * reading.bits) same ∙ sym (length-memory reading before) in
    ext_get_or false (piece new first span.len) (piece old first span.len)
    (length-pieces new old first span.len size)
    (λ k within.
    let small : k < span.len = omega (arith, piece_short new first span.len) in
    get_or-piece new first span.len k false small
    ∙ entry_memory reading after (first + k) some
    ∙ equal (first + k) (omega arith, omega arith)
    ∙ sym (entry_memory reading before (first + k) some)
    ∙ sym (get_or-piece old first span.len k false small))

-- and the entries of a span of the same bits
pub span_entries : {R : Type 0} (reading : Reading R) (one other : List R) (span : Extent) (p : ℕ) → 0 < reading.bits
    → span_bits reading one span ≡ span_bits reading other span → IsInside reading.bits span p
    → entry reading one p ≡ entry reading other p
span_entries reading one other span p some same inside =
    let first : ℕ = span_place reading.bits span in
    let k : ℕ = p - first in
    let at : first + k ≡ p = omega arith in
    let small : k < span.len = omega arith in
    ap (entry reading one) (sym at)
    ∙ sym (entry_memory reading one (first + k) some)
    ∙ sym (get_or-piece (memory reading one) first span.len k false small)
    ∙ ap (λ bits. get_or bits k false) same
    ∙ get_or-piece (memory reading other) first span.len k false small
    ∙ entry_memory reading other (first + k) some
    ∙ ap (entry reading other) at

-- no place is in two spans of other numbers
pub outside_other : (b : ℕ) (spans : List Extent) (s t p : ℕ) → AreDisjoint b spans → s < length spans
    → t < length spans → s ≢ t → IsInside b (span_at spans t) p → IsOutside b (span_at spans s) p
unfolding AreDisjoint
outside_other b spans s t p apart in_s in_t ne inside = elim (cases_lt t s) [
  | inl before ↦ apart t s p before in_s inside
  | inr after ↦
      let less : s < t = omega arith in
      λ low. elim (cases_lt p (span_place b (span_at spans s) + (span_at spans s).len)) [
        | inl high ↦
            let out = apart s t p less in_t (low, high) in
            absurd (omega (arith, out inside.0, inside.1))
        | inr past ↦ past
      ]
]

-- ---- a run

-- no command yet
pub runs_none : {R : Type 0} (reading : Reading R) (before : List R) (spans : List Extent)
    → Runs reading before before spans [] []
unfolding own_answers own_list commands_of replies_of
runs_none reading before spans = record {
  replied = λ s _. refl;
  lists = λ s _. refl;
  refused = λ s _. All-nil (λ reply. reply ≡ Refused);
  others = λ p _. refl;
  words = refl;
}

-- one more, at a span
pub runs_carried : {R : Type 0} (reading : Reading R) (before now after : List R) (spans : List Extent)
    (commands : List (ℕ × SpanCommand R)) (replies : List (SpanReply R)) (next : ℕ × SpanCommand R)
    (reply : SpanReply R) → 0 < reading.bits → AreDisjoint reading.bits spans → length commands ≡ length replies
    → next.0 < length spans → CarriesOut reading now after (span_at spans next.0) next.1 reply
    → Runs reading before now spans commands replies
    → Runs reading before after spans (commands ++ next ∷ []) (replies ++ reply ∷ [])
runs_carried reading before now after spans commands replies next reply some apart same within is run =
    let kept = λ (t : ℕ) (in_t : t < length spans) (ne : next.0 ≢ t).
    span_bits_same reading now after (span_at spans t) some is.words
    (λ p inside. is.others p (outside_other reading.bits spans next.0 t p apart within in_t ne inside)) in
    let replied_more = λ (t : ℕ) (own : next.0 ≡ t) (in_t : t < length spans).
    let here = rw own at is in
    let head : ℕ = (span_at spans t).head in
    let own_commands = commands_of t commands in
    let bits = span_bits reading before (span_at spans t) in
    map_push (seen reading) (replies_of t commands replies) reply
    ∙ ap (λ rs. rs ++ seen reading reply ∷ []) (run.replied t in_t)
    ∙ ap (λ r. own_answers reading head own_commands bits ++ r ∷ [])
    (here.replied ∙ ap (own_answer reading.bits head next.1) (run.lists t in_t))
    ∙ sym (own_answers-push reading head own_commands next.1 bits) in
    let listed_more = λ (t : ℕ) (own : next.0 ≡ t) (in_t : t < length spans).
    let here = rw own at is in
    let head : ℕ = (span_at spans t).head in
    here.list
    ∙ ap (own_after reading head next.1) (run.lists t in_t)
    ∙ sym (own_list-push reading head (commands_of t commands) next.1 (span_bits reading before (span_at spans t))) in
    record {
      replied = λ t in_t. elim (cases_eq next.0 t) [
        | inl own ↦
            rw (replies_of_own t commands next replies reply same own, commands_of_own t commands next own)
            (replied_more t own in_t)
        | inr ne ↦
            rw (replies_of_other t commands next replies reply same ne, commands_of_other t commands next ne)
            (run.replied t in_t)
      ];
      lists = λ t in_t. elim (cases_eq next.0 t) [
        | inl own ↦ rw (commands_of_own t commands next own) (listed_more t own in_t)
        | inr ne ↦ rw (commands_of_other t commands next ne) (kept t in_t ne ∙ run.lists t in_t)
      ];
      refused = λ s past.
          let ne : next.0 ≢ s = omega arith in
          rw (replies_of_other s commands next replies reply same ne) (run.refused s past);
      others = λ p out. is.others p (out next.0 within) ∙ run.others p out;
      words = is.words ∙ run.words;
    }

-- one more, at no span
pub runs_refused : {R : Type 0} (reading : Reading R) (before now : List R) (spans : List Extent)
    (commands : List (ℕ × SpanCommand R)) (replies : List (SpanReply R)) (next : ℕ × SpanCommand R)
    (reply : SpanReply R) → length commands ≡ length replies → length spans ≤ next.0 → reply ≡ Refused
    → Runs reading before now spans commands replies
    → Runs reading before now spans (commands ++ next ∷ []) (replies ++ reply ∷ [])
runs_refused reading before now spans commands replies next reply same past is run = record {
  replied = λ t in_t.
      let ne : next.0 ≢ t = omega arith in
      rw (replies_of_other t commands next replies reply same ne, commands_of_other t commands next ne)
      (run.replied t in_t);
  lists = λ t in_t.
      let ne : next.0 ≢ t = omega arith in
      rw (commands_of_other t commands next ne) (run.lists t in_t);
  refused = λ s beyond. elim (cases_eq next.0 s) [
    | inl own ↦
        rw (replies_of_own s commands next replies reply same own)
        (All-push (λ r. r ≡ Refused) (replies_of s commands replies) reply (run.refused s beyond) is)
    | inr ne ↦ rw (replies_of_other s commands next replies reply same ne) (run.refused s beyond)
  ];
  others = run.others;
  words = run.words;
}

-- ---- the law

inside_cases : (b : ℕ) (span : Extent) (p : ℕ) → IsInside b span p ⊎ IsOutside b span p
inside_cases b span p = elim (cases_lt p (span_place b span)) [
  | inl below ↦ inr (λ low. absurd (omega arith))
  | inr low ↦ elim (cases_lt p (span_place b span + span.len)) [
    | inl high ↦ inl (low, high)
    | inr past ↦ inr (λ _. past)
  ]
]

-- a place is in one of the first n spans, or outside them all
span_of : (b : ℕ) (spans : List Extent) (p n : ℕ)
    → ((s : ℕ) × (s < n) × IsInside b (span_at spans s) p)
    ⊎ ((s : ℕ) → s < n → IsOutside b (span_at spans s) p)
span_of b spans p zero = inr (λ s h. absurd (omega arith))
span_of b spans p (suc n) = elim (span_of b spans p n) [
  | inl found ↦ inl (found.0, omega (arith, found.1), found.2)
  | inr none ↦ elim (inside_cases b (span_at spans n) p) [
    | inl here ↦ inl (n, omega arith, here)
    | inr out ↦ inr (λ s h. elim (cases_eq s n) [
      | inl last ↦ rw last out
      | inr other ↦ none s (omega arith)
    ])
  ]
]

pub order_is_free : {R : Type 0} (reading : Reading R) → 0 < reading.bits → OrderOfSpansIsFree reading
order_is_free reading some before one other spans commands others replies answers same run runs = (
  λ s in_s.
      run.replied s in_s
      ∙ ap (λ cs. own_answers reading (span_at spans s).head cs (span_bits reading before (span_at spans s)))
      (same s in_s)
      ∙ sym (runs.replied s in_s),
  same_memory reading one other some (run.words ∙ sym runs.words) (λ p _.
      elim (span_of reading.bits spans p (length spans)) [
        | inl found ↦
            let s : ℕ = found.0 in
            let in_s : s < length spans = found.1 in
            let bits =
            run.lists s in_s
            ∙ ap (λ cs. own_list reading (span_at spans s).head cs (span_bits reading before (span_at spans s)))
            (same s in_s)
            ∙ sym (runs.lists s in_s) in
            span_entries reading one other (span_at spans s) p some bits found.2
        | inr out ↦ run.others p out ∙ sym (runs.others p out)
      ]),
)

-- a span read by its number is the span of that number
pub span_read : (spans : List Extent) (k : ℕ) (span : Extent) → k < length spans → span ≡ get_or spans k span
    → span ≡ span_at spans k
span_read spans k span within is = is ∙ get_or_default spans k span (extent 0 0 0) within
