-- Lists of which each element is changed in its turn. No public clause cites this module.
use Rattle.std.specs.Prelude.{◌≡◌, ℕ, ◌<◌, ◌≤◌, List, length, slice_index_or, slice_set}

-- each element has the property
abbrev pub EachHas : {A : Type 0} → (A → Type 0) → List A → Type 0
EachHas P xs = (k : ℕ) (d : _) → k < length xs → P (slice_index_or xs k d)

-- new has an element for each of old, and each is by its step what the old one became
pub record Becomes {A : Type 0} (step : ℕ → A → A → Type 0) (old new : List A) : Type 0 where
  pub len : length new ≡ length old
  pub each : (k : ℕ) (d : A) → k < length old → step k (slice_index_or old k d) (slice_index_or new k d)

-- the same of the first i elements, and the others are as before
pub record IsWalked {A : Type 0} (step : ℕ → A → A → Type 0) (i : ℕ) (old new : List A) : Type 0 where
  pub len : length new ≡ length old
  pub done : (k : ℕ) (d : A) → k < i → step k (slice_index_or old k d) (slice_index_or new k d)
  pub rest : (k : ℕ) (d : A) → i ≤ k → slice_index_or new k d ≡ slice_index_or old k d

-- new is old with another element k, which is by the step what the old one became
pub record ChangesAt {A : Type 0} (step : A → A → Type 0) (k : ℕ) (old new : List A) : Type 0 where
  pub now : A
  pub is : new ≡ slice_set old k now
  pub by : (d : A) → step (slice_index_or old k d) now
