-- The checksum of the internet (RFC 1071).
use Rattle.std.specs.Prelude.{ℕ, zero, suc, ◌+◌, ◌-◌, ◌*◌, ◌%◌, List, [], ◌∷◌, sum}

-- the words of 16 bits that bytes make in network order, a last odd byte with eight zeros behind it
abbrev pub words_of : List ℕ → List ℕ
words_of [] = []
words_of (high ∷ []) = (high * 256) ∷ []
words_of (high ∷ low ∷ rest) = (high * 256 + low) ∷ words_of rest

-- a sum in ones' complement of 16 bits: 65535 is taken off until it fits, and 0 is the sum of zeros alone
abbrev pub carried_around : ℕ → ℕ
carried_around zero = 0
carried_around (suc n) = n % 65535 + 1

-- the ones' complement sum of the words of some bytes
abbrev pub ones_sum : List ℕ → ℕ
ones_sum bytes = carried_around (sum (words_of bytes))

-- its complement
abbrev pub checksum_of : List ℕ → ℕ
checksum_of bytes = 65535 - ones_sum bytes
