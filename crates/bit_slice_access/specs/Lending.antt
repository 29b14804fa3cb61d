-- What a window that is cut at the borders of its words ends as whose part was lent.
use Rattle.std.specs.Borrow.{Lends, MutBor, Fml, RattleType}
use Rattle.std.specs.Prelude.{[]}
use mir.Syntax.{named}
use Rattle.bit_slice_access.specs.declared.bit_domain_mut.BitDomainMut.{BitDomainMut}
use Rattle.bit_slice_access.specs.contracts.bit_domain_mut.BitDomainMut as cut

-- it ends with the view as its borrower left it
abbrev pub LendsPart : (V S O : RattleType) → MutBor (BitDomainMut V.Denot S.Denot O.Denot) → MutBor V.Denot → Fml
LendsPart V S O p r =
    Lends (cut.the_row (record { mir = named 1; lft = [] }) V S O) V p r
    (λ w. record p.now { of = record p.now.of { now = w } })
