-- A run of a table's script.
use Rattle.std.specs.Prelude.{◌≡◌, ◌⊎◌, ℕ, ◌<◌, ◌≤◌, List, length, take, drop}
use Rattle.bit_table_script.specs.Lines.{IsBeginning}
use Rattle.bits_c.specs.declared.status.TheConstants.{OK, NO_ROOM, NO_MEMORY, BAD_STORAGE}

-- there are words of so many bits
abbrev pub HasWord : ℕ → Type 0
HasWord bits = (bits ≡ 8) ⊎ ((bits ≡ 16) ⊎ ((bits ≡ 32) ⊎ ((bits ≡ 64) ⊎ (bits ≡ 128))))

-- there is an order of this number: 0 is lsb0, 1 msb0, 2 hilo
abbrev pub HasOrder : ℕ → Type 0
HasOrder order = order < 3

-- how a run ends: over a storage that there is, in one of three ways
abbrev pub Ran : ℕ → Type 0 → Type 0
Ran status storage =
    (storage → (status ≡ OK) ⊎ ((status ≡ NO_ROOM) ⊎ (status ≡ NO_MEMORY))) × ((storage → ⊥) → status ≡ BAD_STORAGE)

-- the first n bytes of some room are these, and those behind them are as they were
pub record Fills (old new : List ℕ) (n : ℕ) (bytes : List ℕ) : Type 0 where
  pub front : take n new ≡ bytes
  pub behind : drop n new ≡ drop n old
  pub room : n ≤ length old
  pub size : length new ≡ length old

-- they are a beginning of the whole
pub record BeginsIn (old new : List ℕ) (n : ℕ) (whole : List ℕ) : Type 0 where
  pub bytes : List ℕ
  pub fills : Fills old new n bytes
  pub begins : IsBeginning bytes whole
