-- The steps of a call, by words and by bits. No public clause cites this module.
--
-- A stretch of bits changed: `Changes`; reversed, `Mirrored`, of `bit_slice_paths`.
use Rattle.std.specs.Prelude.{ℕ, ◌+◌, Bool, List}
use Rattle.bit_addressing_memory.specs.Memory.{Reading, entry, Overwrites}
pub use Rattle.bit_slice_paths.specs.Mirrored.{Mirrored}

-- after is before with `on` done to each of the n entries from a place on
abbrev pub Changes : {R : Type 0} → Reading R → List R → List R → ℕ → ℕ → (Bool → Bool) → Type 0
Changes reading before after place n on =
    Overwrites reading before after place n (λ k. on (entry reading before (place + k)))
