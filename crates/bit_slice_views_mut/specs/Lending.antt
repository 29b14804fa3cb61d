-- What a pair ends as whose part was lent.
use Rattle.std.specs.Borrow.{Lends, MutBor, Fml, RattleType}
use Rattle.std.specs.Prelude.{[]}
use mir.Syntax.{named}
use Rattle.bit_slice_views_mut.specs.declared.pair.Pair.{Pair}
use Rattle.bit_slice_views_mut.specs.contracts.pair.Pair as pair

-- the pair ends with the view as its borrower left it
abbrev pub LendsHalf : (V S O : RattleType) → MutBor (Pair V.Denot S.Denot O.Denot) → MutBor V.Denot → Fml
LendsHalf V S O p r =
    Lends (pair.the_row (record { mir = named 1; lft = [] }) V S O) V p r
    (λ w. record p.now { of = record p.now.of { now = w } })
