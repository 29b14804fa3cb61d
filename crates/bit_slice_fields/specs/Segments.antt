-- The part of a window in one word. No public clause cites this module.
use Rattle.std.specs.Prelude.{◌≡◌, ℕ, ◌+◌, ◌*◌, ◌<◌, ◌≤◌}
use Rattle.bit_slice_fields.specs.declared.digits.Segment.{Segment}

-- all bits of a window of n bits, from the index h of its first word on, that lie in one of its words of b bits
pub record IsSegment (b h n : ℕ) (segment : Segment) : Type 0 where
  pub some : 0 < segment.len
  pub within : segment.index + segment.len ≤ b
  pub inside : segment.from + segment.len ≤ n
  pub place : segment.word * b + segment.index ≡ h + segment.from
  pub begins : 0 < segment.from → segment.index ≡ 0
  pub ends : segment.from + segment.len < n → segment.index + segment.len ≡ b
