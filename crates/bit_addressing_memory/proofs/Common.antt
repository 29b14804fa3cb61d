-- The names that most proofs over words cite, passed on from one place. Declares nothing.
pub use Rattle.std.proofs.Common.{◌≡◌, ◌≢◌, ℕ, zero, suc, ◌+◌, ◌-◌, ◌*◌}
pub use Rattle.std.proofs.Common.{◌/◌, ◌%◌, ◌^◌, ◌<◌, ◌≤◌, ◌==◌, ◌↔◌, ◌⊎◌}
pub use Rattle.std.proofs.Common.{Bool, true, false, not, cond, ◌&&◌, ◌||◌, IsTrue, nat_lt, min, max, bit_and, bit_or}
pub use Rattle.std.proofs.Common.{bit_xor, List, [], ◌∷◌, ◌++◌, map, reverse, length, get_or, take, drop, set, replicate}
pub use Rattle.std.proofs.Common.{count_by, position, Option, Some, None, refl, sym, ap, ap₂, subst, ◌∙◌}
pub use Rattle.std.proofs.Common.{inl, inr, rules, arith, add-one, below_more, length-append, length-set}
pub use Rattle.std.proofs.Common.{get_or-set_same, get_or-set_other}
pub use Rattle.std.proofs.lemmas.Bool.{cases_eq, cases_lt, and_parts, agree_below, agree_below_at, false≢true, eq-eqb}
pub use Rattle.std.proofs.lemmas.Bool.{eqb-true, eqb-false, ne_eqb, ltb-true, ltb-false, leb-true, lt-ltb, le-ltb}
pub use Rattle.bit_addressing_memory.specs.Memory.{Reading, reading_in, read_by, digits, indexed, touched, Writes}
pub use Rattle.bit_addressing_memory.specs.Memory.{Overwrites, Copies, Swaps}
unfoldable pub use Rattle.bit_addressing_memory.specs.Memory.{entry, memory, piece, with_piece}
pub use Rattle.bit_addressing_memory.specs.Partial.{part_mask, IsMasked, IsStored, ReadsPart}
