use Rattle.bit_addressing_memory.proofs.Common.{◌+◌, ◌-◌, read_by, Copies}
use Rattle.bit_addressing_memory.specs.Place.{place_of}
use Rattle.bit_addressing_memory.proofs.copies.copy_within_at.Given as goal

abbrev pub invariant-up : goal.invariant-up
invariant-up g l =
    Copies (read_by g.R.BitRegister g.O.Positions.position) l.fn.words l.words
    (read_by g.R.BitRegister g.O.Positions.position) l.fn.words
    (place_of g.R.BitRegister.BITS l.source) (place_of g.R.BitRegister.BITS l.target) l.k

-- the bits from k on are copied
abbrev pub invariant-down : goal.invariant-down
invariant-down g l =
    Copies (read_by g.R.BitRegister g.O.Positions.position) l.fn.words l.words
    (read_by g.R.BitRegister g.O.Positions.position) l.fn.words
    (place_of g.R.BitRegister.BITS l.source + l.k) (place_of g.R.BitRegister.BITS l.target + l.k) (l.len - l.k)
