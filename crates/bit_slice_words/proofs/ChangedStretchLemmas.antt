-- A stretch overwritten bit by bit.
use Rattle.bit_addressing_memory.proofs.Common.{◌≡◌, ℕ, ◌+◌, Bool, List, ap₂, ◌∙◌, arith, Reading, entry, Writes}
pub use Rattle.bit_addressing_memory.proofs.OverwriteLemmas.{stretch_more, stretch_none}
use Rattle.bit_slice_paths.specs.Combined.{Combines}

-- one more bit, made of the one that stands there and another
pub combines_more : {R Q : Type 0} (reading : Reading R) (before mid after : List R) (place k : ℕ)
    (how : Bool → Bool → Bool) (its : Reading Q) (others : List Q) (other_place : ℕ) (here there bit : Bool)
    → here ≡ entry reading mid (place + k) → there ≡ entry its others (other_place + k) → bit ≡ how here there
    → Combines reading before mid place k how its others other_place
    → Writes reading mid after (place + k) bit
    → Combines reading before after place (k + 1) how its others other_place
combines_more reading before mid after place k how its others other_place here there bit is_here is_there is_bit had
    wrote =
    let still = had.above (place + k) (omega arith) in
    stretch_more reading before mid after place k bit
    (λ i. how (entry reading before (place + i)) (entry its others (other_place + i)))
    (is_bit ∙ ap₂ how (is_here ∙ still) is_there) had wrote

pub ruleset stretch_steps = (stretch_none, combines_more)
