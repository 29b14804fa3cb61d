-- A line with a word in a table: what it is answered, and what state it leaves.
use Rattle.std.proofs.Common.{◌≡◌, ℕ, List, Option, Some, None, Ok, Err, Result, IfOk, OnOk, MatchOption, IsOkUnless}
use Rattle.std.proofs.Common.{refl, subst, sym, ap, ◌∙◌}
use Rattle.std.specs.Prelude.{option_map}
use Rattle.bit_table_layout.specs.declared.cause.Cause.{Cause}
use Rattle.bit_table_layout.specs.declared.cause.Fault.{Fault}
use Rattle.bit_table_layout.specs.declared.cause.Fault.TheVariants.{Refused, Memory}
use Rattle.bit_table_commands.specs.declared.command.Command.{Command}
use Rattle.bit_table_commands.specs.declared.reply.Reply.{Reply}
use Rattle.bit_table_commands.specs.Commands.{command_of, cut_off}
use Rattle.bit_table_layout.specs.CauseWords.{refusal_text}
use Rattle.bit_table_commands.specs.Replies.{reply_text}
use Rattle.bit_table_commands.specs.Tables.{TableShape, IsTable, state_with}
use Rattle.bit_table_commands.specs.Causes.{cause_in, spelled_cause}
use Rattle.bit_table_commands.specs.Edits.{edit, reply_to}
use Rattle.bit_table_script.specs.Scripts.{answer_by, after_by, command_answer, command_edit}
use Rattle.bit_table_commands.proofs.CallerLemmas.{is_spelled, cause_in-cut_off, cut_off-accepted}

pub if_ok_weaker : {T E : Type 0} (r : Result T E) (P Q : T → Type 0) → ((x : T) → P x → Q x) → IfOk r P → IfOk r Q
if_ok_weaker (Ok x) P Q f h = f x h
if_ok_weaker (Err e) P Q f h = tt

pub on_ok_always : {T E : Type 0} (r : Result T E) (P : Type 0) → P → OnOk r P
on_ok_always (Ok x) P h = h
on_ok_always (Err e) P h = tt

pub if_and_on_ok : {T E : Type 0} (r : Result T E) (P Q : T → Type 0) (S : Type 0) → ((x : T) → P x → S → Q x)
    → IfOk r P → OnOk r S → IfOk r Q
if_and_on_ok (Ok x) P Q S f h k = f x h k
if_and_on_ok (Err e) P Q S f h k = tt

-- the cause for which a command is refused
pub refused_for : (o : Option Cause) (r : Result Reply Fault) (cause : Cause) → r ≡ Err (Refused cause)
    → MatchOption o (IsOkUnless r Memory) (λ c. r ≡ Err (Refused c)) → o ≡ Some cause
refused_for None r cause e h =
    let no : Refused cause ≡ Memory = subst (λ x. IsOkUnless x Memory) e h in
    absurd (cc)
refused_for (Some c) r cause e h = cc

-- a command that is carried out is refused for no cause
pub not_refused : (o : Option Cause) (r : Result Reply Fault) (reply : Reply) → r ≡ Ok reply
    → MatchOption o (IsOkUnless r Memory) (λ c. r ≡ Err (Refused c)) → o ≡ None
not_refused None r reply e h = refl
not_refused (Some c) r reply e h = absurd (cc)

-- what is known of a line that spells a command, of which this is kept
pub record IsRead (t : TableShape) (line : List ℕ) (kept : Command) (cause : Option Cause) : Type 0 where
  pub whole : Command
  pub is : command_of t.layout line ≡ Some whole
  pub cut : cut_off whole ≡ kept
  pub answered : spelled_cause t (command_of t.layout line) ≡ cause

pub is_read : (t : TableShape) (line : List ℕ) (kept : Command) (cause : Option Cause) → IsTable t
    → option_map cut_off (command_of t.layout line) ≡ Some kept → cause_in t kept ≡ cause → IsRead t line kept cause
is_read t line kept cause h e c =
    let s = is_spelled (command_of t.layout line) kept e in
    record {
      whole = s.whole;
      is = s.is;
      cut = s.cut;
      answered = ap (spelled_cause t) s.is ∙ sym (cause_in-cut_off t h s.whole) ∙ ap (cause_in t) s.cut ∙ c;
    }

-- an accepted line spells the very command that is kept
whole_is : (t : TableShape) (line : List ℕ) (kept : Command) → IsTable t → (h : IsRead t line kept None)
    → h.whole ≡ kept
whole_is t line kept lawful h =
    sym (cut_off-accepted t lawful h.whole (sym (ap (spelled_cause t) h.is) ∙ h.answered)) ∙ h.cut

pub accepted_text : (t : TableShape) (line : List ℕ) (kept : Command) (reply : Reply)
    → IsTable t → IsRead t line kept None → reply ≡ reply_to t kept
    → reply_text reply ≡ answer_by (spelled_cause t (command_of t.layout line)) (Some t) line
accepted_text t line kept reply lawful h e =
    ap reply_text (e ∙ ap (reply_to t) (sym (whole_is t line kept lawful h))) ∙ ap (command_answer t) (sym h.is)
    ∙ ap (λ c. answer_by c (Some t) line) (sym h.answered)

pub accepted_state : (t new : TableShape) (line : List ℕ) (kept : Command)
    → IsTable t → IsRead t line kept None → new ≡ edit t kept
    → state_with new ≡ after_by (spelled_cause t (command_of t.layout line)) (state_with t) line
accepted_state t new line kept lawful h e =
    ap state_with (e ∙ ap (edit t) (sym (whole_is t line kept lawful h)) ∙ ap (command_edit t) (sym h.is))
    ∙ ap (λ c. after_by c (state_with t) line) (sym h.answered)

pub refused_text : (t : TableShape) (line : List ℕ) (c : Cause) → spelled_cause t (command_of t.layout line) ≡ Some c
    → refusal_text c ≡ answer_by (spelled_cause t (command_of t.layout line)) (Some t) line
refused_text t line c h = ap (λ o. answer_by o (Some t) line) (sym h)

pub refused_state : (t new : TableShape) (line : List ℕ) (c : Cause)
    → spelled_cause t (command_of t.layout line) ≡ Some c → new ≡ t
    → state_with new ≡ after_by (spelled_cause t (command_of t.layout line)) (state_with t) line
refused_state t new line c h e = ap state_with e ∙ ap (λ o. after_by o (state_with t) line) (sym h)
