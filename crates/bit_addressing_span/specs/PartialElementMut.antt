-- What a writable partial element shows: its word, whose word it is, and the part of it.
use Rattle.std.specs.Prelude.{ℕ, ◌-◌, ◌≡◌, List}
use Rattle.std.specs.Borrow.{MutBor}
use Rattle.bit_addressing_span.specs.declared.partial_mut.PartialElementMut.{PartialElementMut}

-- the memory of one word that it is part of, as it is now
abbrev pub part_words : {R O : Type 0} {g : _} → PartialElementMut R O g → List R
part_words p = p.words.now

-- the reference to that word
abbrev pub part_lender : {R O : Type 0} {g : _} → PartialElementMut R O g → MutBor (List R)
part_lender p = p.words

-- the index of its first bit
abbrev pub part_head : {R O : Type 0} {g : _} → PartialElementMut R O g → ℕ
part_head p = p.head

-- the end of its bits
abbrev pub part_tail : {R O : Type 0} {g : _} → PartialElementMut R O g → ℕ
part_tail p = p.tail

-- how many bits it has
abbrev pub part_len : {R O : Type 0} {g : _} → PartialElementMut R O g → ℕ
part_len p = p.tail - p.head

-- the same part of a word, lent by the same reference
pub record IsSamePart {R O : Type 0} {g : _} (old new : PartialElementMut R O g) : Type 0 where
  pub lender : (part_lender new).ghost_name ≡ (part_lender old).ghost_name
  pub head : part_head new ≡ part_head old
  pub tail : part_tail new ≡ part_tail old
