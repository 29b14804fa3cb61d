-- What a runner does over spans of one memory, of words of b bits: each span's list is edited by its own commands.
--
-- Where a span lies: `IsInside`, `IsOutside`. What is asked: `AreDisjoint`, `AllFit`; what the spans' type says:
-- `HeadsBelow`.
-- One command: `CarriesOut`. Its commands and replies: `commands_of`, `replies_of`. A whole run: `Runs`.
use Rattle.std.specs.Prelude.{ℕ, ◌+◌, ◌<◌, ◌≤◌, ◌==◌, ◌≡◌, List, [], ◌∷◌, length, map}
use Rattle.std.specs.Prelude.{if◌then◌else◌, slice_index_or, All}
use Rattle.bit_addressing_memory.specs.Memory.{Reading, entry, memory}
use Rattle.bit_addressing_span.specs.Span.{Extent, extent, span_bits, span_place, FitsIn}
use Rattle.bit_addressing.specs.declared.command.SpanCommand.{SpanCommand}
use Rattle.bit_addressing.specs.declared.command.SpanReply.{SpanReply}
use Rattle.bit_addressing.specs.declared.command.SpanReply.TheVariants.{Refused}
use Rattle.bit_addressing.specs.Own.{own_after, own_answer, own_answers, own_list, seen}

-- the place p is one of the span's
abbrev pub IsInside : ℕ → Extent → ℕ → Type 0
IsInside b span p = (span_place b span ≤ p) × (p < span_place b span + span.len)

-- the place p is none of the span's
abbrev pub IsOutside : ℕ → Extent → ℕ → Type 0
IsOutside b span p = span_place b span ≤ p → span_place b span + span.len ≤ p

-- the span of number s
abbrev pub span_at : List Extent → ℕ → Extent
span_at spans s = slice_index_or spans s (extent 0 0 0)

-- no place is one of two spans'
unfoldable pub AreDisjoint : ℕ → List Extent → Type 0
AreDisjoint b spans = (s t p : ℕ) → s < t → t < length spans → IsInside b (span_at spans s) p
    → IsOutside b (span_at spans t) p

-- each span begins at an index of a word of b bits
abbrev pub HeadsBelow : ℕ → List Extent → Type 0
HeadsBelow b spans = (s : ℕ) → s < length spans → (span_at spans s).head < b

-- the words of each span are among the first n
abbrev pub AllFit : ℕ → List Extent → ℕ → Type 0
AllFit b spans n = (s : ℕ) → s < length spans
    → FitsIn b (span_at spans s) n

-- one command at one span: the reply and the span's bits afterwards are those of its own list, and each bit outside
-- the span is as before
pub record CarriesOut {R : Type 0} (reading : Reading R) (before after : List R) (span : Extent)
    (command : SpanCommand R) (reply : SpanReply R) : Type 0 where
  pub replied : seen reading reply ≡ own_answer reading.bits span.head command (span_bits reading before span)
  pub list : span_bits reading after span ≡ own_after reading span.head command (span_bits reading before span)
  pub others : (p : ℕ) → IsOutside reading.bits span p → entry reading after p ≡ entry reading before p
  pub words : length after ≡ length before

-- the commands at the span of number s, in their order
unfoldable pub commands_of : {R : Type 0} → ℕ → List (ℕ × SpanCommand R) → List (SpanCommand R)
commands_of s [] = []
commands_of s (command ∷ rest) = if command.0 == s then command.1 ∷ commands_of s rest else commands_of s rest

-- the replies to them
unfoldable pub replies_of : {R : Type 0} → ℕ → List (ℕ × SpanCommand R) → List (SpanReply R) → List (SpanReply R)
replies_of s [] replies = []
replies_of s (command ∷ rest) [] = []
replies_of s (command ∷ rest) (reply ∷ replies) =
    if command.0 == s then reply ∷ replies_of s rest replies else replies_of s rest replies

-- a whole run: each span's replies, and its bits afterwards, are those of its own list under its own commands alone;
-- a command at no span is refused, and each bit outside all spans is as before
pub record Runs {R : Type 0} (reading : Reading R) (before after : List R) (spans : List Extent)
    (commands : List (ℕ × SpanCommand R)) (replies : List (SpanReply R)) : Type 0 where
  pub replied : (s : ℕ) → s < length spans → map (seen reading) (replies_of s commands replies)
      ≡ own_answers reading (span_at spans s).head (commands_of s commands) (span_bits reading before (span_at spans s))
  pub lists : (s : ℕ) → s < length spans → span_bits reading after (span_at spans s)
      ≡ own_list reading (span_at spans s).head (commands_of s commands) (span_bits reading before (span_at spans s))
  pub refused : (s : ℕ) → length spans ≤ s → All (λ reply. reply ≡ Refused) (replies_of s commands replies)
  pub others : (p : ℕ) → ((s : ℕ) → s < length spans → IsOutside reading.bits (span_at spans s) p)
      → entry reading after p ≡ entry reading before p
  pub words : length after ≡ length before

-- two lists of commands that keep each span's own commands in order give each span the same replies, and end in the
-- same memory
abbrev pub OrderOfSpansIsFree : {R : Type 0} → Reading R → Type 0
OrderOfSpansIsFree {R} reading =
    (before one other : List R) (spans : List Extent) (commands others : List (ℕ × SpanCommand R))
    (replies answers : List (SpanReply R))
    → ((s : ℕ) → s < length spans → commands_of s commands ≡ commands_of s others)
    → Runs reading before one spans commands replies
    → Runs reading before other spans others answers
    → ((s : ℕ) → s < length spans
    → map (seen reading) (replies_of s commands replies) ≡ map (seen reading) (replies_of s others answers))
    × (memory reading one ≡ memory reading other)
