-- Lists edited by parts. A part is named by its places: of rows of w bits each that lie end to end in a list of bits,
-- row p begins at p * w; of a list of rows, at p. So one word says what an edit makes of the bits and of the rows.
--
-- More: `inserted`, `repeated`. Fewer: `deleted`. As many: `copied`, `exchanged`, `turned`.
use Rattle.std.specs.Prelude.{ℕ, ◌≡◌, ◌+◌, ◌-◌, List, ◌++◌, take, drop, slice_range}
use Rattle.bit_addressing_memory.specs.Memory.{piece, with_piece}

-- ys put in before the place a
abbrev pub inserted : {X : Type 0} → List X → ℕ → List X → List X
inserted xs a ys = take a xs ++ (ys ++ drop a xs)

-- the elements from a up to before b taken out
abbrev pub deleted : {X : Type 0} → List X → ℕ → ℕ → List X
deleted xs a b = take a xs ++ drop b xs

-- those from a up to before b once more, behind the last
abbrev pub repeated : {X : Type 0} → List X → ℕ → ℕ → List X
repeated xs a b = xs ++ slice_range xs a b

-- those from a up to before b, as they were, written over what stands from c on
abbrev pub copied : {X : Type 0} → List X → ℕ → ℕ → ℕ → List X
copied xs a b c = take c xs ++ (slice_range xs a b ++ drop (c + (b - a)) xs)

-- the n elements from a on and the n from b on exchanged
abbrev pub exchanged : {X : Type 0} → List X → ℕ → ℕ → ℕ → List X
exchanged xs a b n = with_piece (with_piece xs a (piece xs b n)) b (piece xs a n)

-- those from a up to before b turned by k towards a: the first k of them become the last
abbrev pub turned : {X : Type 0} → List X → ℕ → ℕ → ℕ → List X
turned xs a b k = take a xs ++ (slice_range xs (a + k) b ++ (slice_range xs a (a + k) ++ drop b xs))

-- new is old with n elements more before the place a, whatever they are
pub record Opens {X : Type 0} (old new : List X) (a n : ℕ) : Type 0 where
  pub before : take a new ≡ take a old
  pub behind : drop (a + n) new ≡ drop a old
