-- A pair of parts of a writable window, as contracts see it.
--
-- What it has: `pair_view` (the window, as its last borrower left it), `pair_loan`, `pair_place`, `pair_mid`,
-- `pair_len`. What its calls ask: `PairLies`.
use Rattle.std.specs.Prelude.{ℕ, ◌+◌, ◌*◌, ◌^◌, ◌<◌, ◌≤◌, List, length}
use Rattle.bit_slice_views.specs.SpanLimits.{MAX_BITS}
use Rattle.bit_slice_views_mut.specs.declared.pair.Pair.{Pair}

-- the window whose parts these are, as it is now
abbrev pub pair_view : {V S O : Type 0} → Pair V S O → V
pair_view pair = pair.of.now

-- the loan of that window: whoever lent it has it again where this stays
abbrev pub pair_loan : {V S O : Type 0} → Pair V S O → ℕ
pair_loan pair = pair.of.ghost_name

-- the place of the first bit
abbrev pub pair_place : {V S O : Type 0} → Pair V S O → ℕ
pair_place pair = pair.head

-- how many bits the first part has, and how many both have
abbrev pub pair_mid : {V S O : Type 0} → Pair V S O → ℕ
pair_mid pair = pair.mid

abbrev pub pair_len : {V S O : Type 0} → Pair V S O → ℕ
pair_len pair = pair.len

-- the parts lie in the window's words, of b bits: what a function that is handed a pair asks of it to lend its parts
pub record PairLies {V S O : Type 0} (b : ℕ) (words : V → List S) (pair : Pair V S O) : Type 0 where
  pub ordered : pair_mid pair ≤ pair_len pair
  pub fits : pair_place pair + pair_len pair ≤ length (words (pair_view pair)) * b
  pub short : pair_len pair ≤ MAX_BITS
  pub small : pair_place pair + pair_len pair < 2 ^ 63
