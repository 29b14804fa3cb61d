-- What a list of bits is as a set of numbers. No public clause cites this module.
use Rattle.std.specs.Prelude.{ℕ, ◌%◌, ◌^◌, Bool, List}
use Rattle.std.specs.Ordering.{nat_cmp}
use Rattle.std.specs.FinSet.{FinSet, from_list}
use Rattle.bit_containers.specs.Indices.{indices}
use Rattle.bit_containers.specs.Memory.{Reading, reading_in}

-- how the words of a set are read
abbrev pub words : Reading ℕ
words = reading_in 64 (λ word. word % 2 ^ 64) (λ i. i)

-- a number is in the set where the bit at its index is 1
unfoldable pub held : List Bool → FinSet nat_cmp
held bits = from_list (indices (λ b. b) 0 bits)
