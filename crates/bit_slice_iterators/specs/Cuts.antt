-- Lists cut into pieces.
--
-- A way to cut: `Cut`, and `forward`, `forward_exact`, `backward`, `backward_exact`, `sliding`, `single`. Pieces of a
-- list: `some_pieces`, `pieces_of`, and each kind by its name, `chunks`, `chunks_exact`, `rchunks`, `rchunks_exact`, `windows`.
-- Where they begin in their words: `some_heads`, `heads_of`. What an iterator has left: `PiecesLeft`. A call of it:
-- `GivesFirst`, `GivesLast`.
use Rattle.std.specs.Prelude.{ℕ, ◌≡◌, ◌+◌, ◌-◌, ◌*◌, ◌/◌, ◌%◌, Bool, List, length, map, min, Option}
use Rattle.std.specs.Int.{div_ceil}
use Rattle.std.specs.Iterator.{YieldsFirstBy, YieldsLastBy}
use Rattle.std.specs.List.{range_with_len}
use Rattle.bit_addressing_memory.specs.Memory.{piece}

-- a way to cut n bits by a size k: how many pieces there are, where piece j begins, and how many bits it has
pub record Cut : Type 0 where
  pub count : ℕ → ℕ → ℕ
  pub start : ℕ → ℕ → ℕ → ℕ
  pub size : ℕ → ℕ → ℕ → ℕ

-- from the front on; the last piece has what is left
abbrev pub forward : Cut
forward = record { count = div_ceil; start = λ n k j. j * k; size = λ n k j. min k (n - j * k) }

-- from the front on, whole pieces alone
abbrev pub forward_exact : Cut
forward_exact = record { count = λ n k. n / k; start = λ n k j. j * k; size = λ n k j. k }

-- from the back on; the last piece, at the front, has what is left
abbrev pub backward : Cut
backward = record { count = div_ceil; start = λ n k j. n - j * k - k; size = λ n k j. min k (n - j * k) }

-- from the back on, whole pieces alone
abbrev pub backward_exact : Cut
backward_exact = record { count = λ n k. n / k; start = λ n k j. n - j * k - k; size = λ n k j. k }

-- from each bit on, whole pieces alone
abbrev pub sliding : Cut
sliding = record { count = λ n k. n + 1 - k; start = λ n k j. j; size = λ n k j. k }

-- each bit alone, whatever the size
abbrev pub single : Cut
single = record { count = λ n k. n; start = λ n k j. j; size = λ n k j. 1 }

-- m of the pieces of a list that is cut so by a size k, from piece j on
abbrev pub some_pieces : Cut → List Bool → ℕ → ℕ → ℕ → List (List Bool)
some_pieces cut bits k j m =
    map (λ i. piece bits (cut.start (length bits) k i) (cut.size (length bits) k i)) (range_with_len j m)

-- all of them
abbrev pub pieces_of : Cut → List Bool → ℕ → List (List Bool)
pieces_of cut bits k = some_pieces cut bits k 0 (cut.count (length bits) k)

-- where m of the pieces of n bits begin, from piece j on, each as the index of its first bit in a word of b bits: the
-- first of the n bits has the index h
abbrev pub some_heads : Cut → ℕ → ℕ → ℕ → ℕ → ℕ → ℕ → List ℕ
some_heads cut b h n k j m = map (λ i. (h + cut.start n k i) % b) (range_with_len j m)

-- where all of them do
abbrev pub heads_of : Cut → ℕ → ℕ → ℕ → ℕ → List ℕ
heads_of cut b h n k = some_heads cut b h n k 0 (cut.count n k)

-- all pieces of a list by a size, of each kind
abbrev pub chunks : List Bool → ℕ → List (List Bool)
chunks bits k = pieces_of forward bits k

abbrev pub chunks_exact : List Bool → ℕ → List (List Bool)
chunks_exact bits k = pieces_of forward_exact bits k

abbrev pub rchunks : List Bool → ℕ → List (List Bool)
rchunks bits k = pieces_of backward bits k

abbrev pub rchunks_exact : List Bool → ℕ → List (List Bool)
rchunks_exact bits k = pieces_of backward_exact bits k

abbrev pub windows : List Bool → ℕ → List (List Bool)
windows bits k = pieces_of sliding bits k

-- an iterator over pieces: the list that is cut, the index of its first bit in that bit's word, by what size it is cut,
-- the pieces that are left, and the index of the first bit of each
pub record PiecesLeft : Type 0 where
  pub bits : List Bool
  pub head : ℕ
  pub size : ℕ
  pub left : List (List Bool)
  pub heads : List ℕ

-- what is cut stays, and how
abbrev pub KeepsCut : PiecesLeft → PiecesLeft → Type 0
KeepsCut before after = (after.bits ≡ before.bits) × (after.head ≡ before.head) × (after.size ≡ before.size)

-- a call gives the first piece that is left, from where it lies, or nothing where none is, and what is cut stays
abbrev pub GivesFirst : {A : Type 0} → (A → List Bool) → (A → ℕ) → PiecesLeft → Option A → PiecesLeft → Type 0
GivesFirst bits head before r after =
    YieldsFirstBy bits (λ pieces. pieces.left) before r after
    × YieldsFirstBy head (λ pieces. pieces.heads) before r after × KeepsCut before after

-- the same of the last one
abbrev pub GivesLast : {A : Type 0} → (A → List Bool) → (A → ℕ) → PiecesLeft → Option A → PiecesLeft → Type 0
GivesLast bits head before r after =
    YieldsLastBy bits (λ pieces. pieces.left) before r after
    × YieldsLastBy head (λ pieces. pieces.heads) before r after × KeepsCut before after
