-- Bytes as a memory. No public clause cites this module.
use Rattle.std.specs.Prelude.{ℕ, ◌+◌, ◌*◌, ◌/◌, ◌%◌, ◌^◌, ◌<◌, ◌≡◌, Bool, false, List, length, slice_index_or}
use Rattle.bit_addressing_memory.specs.Memory.{Reading, entry, reading_in}

-- how bytes are read, their bits counted in an order
abbrev pub bytes_read : (ℕ → ℕ) → Reading ℕ
bytes_read at = reading_in 8 (λ byte. byte % 2 ^ 8) at

-- each is the number of a byte
abbrev pub AreBytes : List ℕ → Type 0
AreBytes xs = (k : ℕ) → slice_index_or xs k 0 < 256

-- as many bytes as the bits fill, with these from the first on and zeros behind them
pub record HoldBits (at : ℕ → ℕ) (bytes : List ℕ) (bits : List Bool) : Type 0 where
  pub size : length bytes ≡ (length bits + 7) / 8
  pub small : AreBytes bytes
  pub is : (i : ℕ) → i < 8 * length bytes → entry (bytes_read at) bytes i ≡ slice_index_or bits i false
