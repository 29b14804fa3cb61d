-- What parts end as of which one was lent.
--
-- The part that a search found: `LendsPart`. The next part, looked for and lent at once: `LendsNext`, of what the
-- search takes off; what it has lent, `HasLent`.
use Rattle.std.specs.Prelude.{[], ℕ, ◌≡◌, ◌+◌, ◌≤◌, List, Bool, true, length, Option, Some, None, IfSome, IfNone}
use Rattle.std.specs.Borrow.{Lends, LendsSo, MutBor, Bor, Fml, RattleType}
use Rattle.std.specs.Fn.{Mut}
use denote.Param.Always.{always_mut}
use mir.Syntax.{named}
use Rattle.bit_slice_splits.specs.SplitsMut.{parts_found_len, parts_found_start, parts_len, parts_loan}
use Rattle.bit_slice_splits.specs.SplitsMut.{parts_callee, parts_from, parts_place, parts_view}
use Rattle.bit_slice_splits.specs.SplitsMut.{parts_count, parts_done, KeepsWindow}
use Rattle.bit_slice_splits.specs.Takes.{parts_state, PartsState}
use Rattle.bit_slice_splits.specs.declared.splits_mut.SplitsMut.{SplitsMut}
use Rattle.bit_slice_splits.specs.contracts.splits_mut.SplitsMut as parts
use Rattle.bit_slice_splits.specs.contracts.splits_n_mut.AtMost as most

-- they end with the window as the borrower of the part left it
abbrev pub LendsPart : (V F A B S O : RattleType)
    → MutBor (SplitsMut V.Denot F.Denot A.Denot B.Denot S.Denot O.Denot) → MutBor V.Denot → Fml
LendsPart V F A B S O p r =
    Lends (parts.the_row (record { mir = named 1; lft = [] }) V F A B S O) V p r
    (λ w. record p.now { of = record p.now.of { now = w } })

-- after is before with the lent part taken off, and the window as the part's borrower left it
pub record HasLent {V F A B S O : Type 0} (place : V → ℕ) (bits : V → List Bool)
    (g : Mut F (ℕ × (Bor Bool × Unit {0})) Bool) (before : SplitsMut V F A B S O) (lent : V)
    (after : SplitsMut V F A B S O) (left : V) : Type 0 where
  pub view_is : parts_view after ≡ left
  pub loan : parts_loan after ≡ parts_loan before
  pub place_is : parts_place after ≡ parts_place before
  pub len_is : parts_len after ≡ parts_len before
  pub lent_place : place lent ≡ parts_place before + parts_found_start after
  pub lent_len : length (bits lent) ≡ parts_found_len after
  pub left_within : parts_from after + parts_count after ≤ parts_len after
  pub lent_within : parts_found_start after + parts_found_len after ≤ parts_len after
  -- fewer bits are left, or no part is, so that the parts come to their end
  pub shorter : parts_count before ≤ parts_count after → parts_done after ≡ true
  pub callable : always_mut g (parts_callee after)

-- they end with the part taken off and the window as its borrower left it; where none is left, with no bit written
abbrev pub LendsNext : (V F A B S O : RattleType) → {X : Type 0} → (V.Denot → X) → (V.Denot → List S.Denot)
    → (V.Denot → ℕ) → (V.Denot → List Bool) → Mut F.Denot (ℕ × (Bor Bool × Unit {0})) Bool
    → (PartsState F.Denot → Option (List Bool) → PartsState F.Denot → Type 0)
    → MutBor (SplitsMut V.Denot F.Denot A.Denot B.Denot S.Denot O.Denot) → Option (MutBor V.Denot) → Fml
LendsNext V F A B S O lender words place bits g takes p r =
    LendsSo (parts.the_row (record { mir = named 1; lft = [] }) V F A B S O) V p r
    (λ after left. IfSome r (λ part. HasLent place bits g p.now part.now after left
    × takes (parts_state p.now) (Some (bits part.now)) (parts_state after)))
    (λ after. IfNone r (KeepsWindow lender words p.now after × takes (parts_state p.now) None (parts_state after)))

-- the type that stands for the other end of so many parts at most
abbrev pub at_most_row : RattleType
at_most_row = most.the_row
