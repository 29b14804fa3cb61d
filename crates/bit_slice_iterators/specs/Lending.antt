-- What pieces end as of which one was lent.
use Rattle.std.specs.Prelude.{ℕ, ◌+◌, ◌-◌, [], Option, true}
use Rattle.std.specs.Borrow.{Lends, LendsIf, MutBor, Fml, RattleType}
use mir.Syntax.{named}
use Rattle.bit_slice_iterators.specs.declared.pieces_mut.PiecesMut.{PiecesMut}
use Rattle.bit_slice_iterators.specs.contracts.pieces_mut.PiecesMut as pieces

-- they end with the window as the borrower of the first piece left it, and that piece is lent no more
abbrev pub LendsFirst : (V C S O : RattleType) → MutBor (PiecesMut V.Denot C.Denot S.Denot O.Denot)
    → Option (MutBor V.Denot) → Fml
LendsFirst V C S O p r =
    LendsIf (pieces.the_row (record { mir = named 1; lft = [] }) V C S O) V p r
    (λ w. record p.now { of = record p.now.of { now = w }; front = p.now.front + 1 }) p.now

-- the same of the last piece
abbrev pub LendsLast : (V C S O : RattleType) → MutBor (PiecesMut V.Denot C.Denot S.Denot O.Denot)
    → Option (MutBor V.Denot) → Fml
LendsLast V C S O p r =
    LendsIf (pieces.the_row (record { mir = named 1; lft = [] }) V C S O) V p r
    (λ w. record p.now { of = record p.now.of { now = w }; back = p.now.back - 1 }) p.now

-- the same of the piece behind the first k: those before it are passed over, and lent no more; where no more than k are
-- left, none is left then
abbrev pub LendsNth : (V C S O : RattleType) → ℕ → MutBor (PiecesMut V.Denot C.Denot S.Denot O.Denot)
    → Option (MutBor V.Denot) → Fml
LendsNth V C S O k p r =
    LendsIf (pieces.the_row (record { mir = named 1; lft = [] }) V C S O) V p r
    (λ w. record p.now { of = record p.now.of { now = w }; front = p.now.front + k + 1 })
    (record p.now { front = p.now.back })

-- the same of the piece before the last k
abbrev pub LendsNthBack : (V C S O : RattleType) → ℕ → MutBor (PiecesMut V.Denot C.Denot S.Denot O.Denot)
    → Option (MutBor V.Denot) → Fml
LendsNthBack V C S O k p r =
    LendsIf (pieces.the_row (record { mir = named 1; lft = [] }) V C S O) V p r
    (λ w. record p.now { of = record p.now.of { now = w }; back = p.now.back - k - 1 })
    (record p.now { back = p.now.front })

-- the same of the bits that are in no piece
abbrev pub LendsRest : (V C S O : RattleType) → MutBor (PiecesMut V.Denot C.Denot S.Denot O.Denot)
    → MutBor V.Denot → Fml
LendsRest V C S O p r =
    Lends (pieces.the_row (record { mir = named 1; lft = [] }) V C S O) V p r
    (λ w. record p.now { of = record p.now.of { now = w }; taken = true })

-- the same of all that was not lent yet, which is left to be lent
abbrev pub LendsLeft : (V C S O : RattleType) → MutBor (PiecesMut V.Denot C.Denot S.Denot O.Denot)
    → MutBor V.Denot → Fml
LendsLeft V C S O p r =
    Lends (pieces.the_row (record { mir = named 1; lft = [] }) V C S O) V p r
    (λ w. record p.now { of = record p.now.of { now = w } })
