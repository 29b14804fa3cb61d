-- The first and the last bit of a kind in a chunk of a memory, and in stretches of chunks end to end.
use Rattle.bit_addressing_memory.proofs.Common.{◌≡◌, ℕ, ◌+◌, ◌-◌, ◌*◌, ◌^◌, ◌==◌, ◌<◌, ◌≤◌, ◌≢◌, Bool, true, false}
use Rattle.bit_addressing_memory.proofs.Common.{not, List, Option, Some, None, length, position, refl, sym, ap, ◌∙◌, inl, inr, arith}
use Rattle.bit_addressing_memory.proofs.Common.{cases_lt, Reading, entry, memory, piece}
use Rattle.std.specs.Option.{option_map}
use Rattle.std.proofs.lemmas.Nat.Bits.{bit_at_ones}
use Rattle.bit_addressing_memory.specs.declared.direction.Direction.{Direction}
use Rattle.bit_addressing_memory.specs.declared.direction.Direction.TheVariants.{Ascending, Descending}
use Rattle.bit_addressing_memory.specs.Bits.{digit_at}
use Rattle.bit_addressing_memory.specs.Straight.{straight}
use Rattle.bit_slice_paths.specs.Chunk.{chunk_bit, IsChunk, IsRaised, AgreeTo}
use Rattle.bit_slice_words.specs.Found.{is_bit}
use Rattle.bit_slice_words.specs.Stretch.{bit_found, FirstAt, LastAt, IsFirst, IsLast, Nowhere}
use Rattle.bit_slice_words.proofs.StretchLemmas.{nowhere_join, position_in}

-- ---- a number without a bit

-- each digit of it is another
abbrev pub Lacks : Bool → Direction → ℕ → Type 0
Lacks bit direction without = (i : ℕ) → i < 64 → is_bit bit (chunk_bit direction without i) ≡ false

-- the greatest number has none that is 0
pub lacks_zeros : (bit : Bool) (direction : Direction) (r : ℕ) → bit ≡ false → r ≡ 2 ^ 64 - 1 → Lacks bit direction r
lacks_zeros true direction r zero full i small = cc
lacks_zeros false direction r zero full i small =
    ap (λ n. not (digit_at n (straight 64 direction i))) full
    ∙ ap (λ d. not (d == 1)) (bit_at_ones 64 (straight 64 direction i) (within direction i small))
  where
    within : (direction : Direction) (i : ℕ) → i < 64 → straight 64 direction i < 64
    within Ascending i small = small
    within Descending i small = omega arith

-- what differs from a bit that is not this one is this one
other_is : (bit x y : Bool) → is_bit bit y ≡ false → x ≢ y → is_bit bit x ≡ true
other_is true true y out other = refl
other_is true false true out other = cc
other_is true false false out other = absurd (other refl)
other_is false false y out other = refl
other_is false true false out other = cc
other_is false true true out other = absurd (other refl)

-- ---- one chunk

-- bits of a chunk that are those of a number without the bit, all of them or some
pub none_before : {R : Type 0} (reading : Reading R) (words : List R) (bit : Bool) (place n m : ℕ) (direction : Direction)
    (chunk without at : ℕ) → m ≤ n → m ≤ at → IsChunk reading words place n direction chunk
    → Lacks bit direction without → AgreeTo direction chunk without at
    → Nowhere (bit_found reading words bit) place (place + m)
none_before reading words bit place n m direction chunk without at inside early had lacks agree p low high =
    let i : ℕ = p - place in
    let there : place + i ≡ p = omega arith in
    let most = agree.most in
    ap (bit_found reading words bit) (sym there)
    ∙ ap (is_bit bit) (sym (had.inside i (omega arith)) ∙ agree.same i (omega arith))
    ∙ lacks i (omega arith)

-- the first of them is where the chunk differs
pub chunk_first : {R : Type 0} (reading : Reading R) (words : List R) (bit : Bool) (place n : ℕ)
    (direction : Direction) (chunk without at : ℕ) → n ≤ 64 → at < n → IsChunk reading words place n direction chunk
    → Lacks bit direction without → AgreeTo direction chunk without at
    → FirstAt (bit_found reading words bit) place (place + n) (place + at)
chunk_first reading words bit place n direction chunk without at few low had lacks agree = record {
  low = omega arith;
  high = omega arith;
  here = other_is bit (entry reading words (place + at)) (chunk_bit direction without at) (lacks at (omega arith))
      (λ same. agree.differ (omega arith) (had.inside at low ∙ same));
  before = none_before reading words bit place n at direction chunk without at (omega arith) (omega arith) had lacks
      agree;
}

-- ---- one chunk from its end

-- the chunk has the n entries of a memory from a place on, the last of them first
pub record IsBack {R : Type 0} (reading : Reading R) (words : List R) (place n : ℕ) (direction : Direction)
    (chunk : ℕ) : Type 0 where
  pub inside : (i : ℕ) → i < n → chunk_bit direction chunk i ≡ entry reading words (place + (n - 1 - i))

-- how two directions meet the bits of a chunk
abbrev pub Opposite : Direction → Direction → Type 0
Opposite direction other = (i : ℕ) → i < 64 → straight 64 other i ≡ straight 64 direction (63 - i)

-- and so are fewer, once they are moved up to the end of the chunk
pub back_rest : {R : Type 0} (reading : Reading R) (words : List R) (place n by : ℕ) (direction other : Direction)
    (chunk raised : ℕ) → n + by ≡ 64 → Opposite direction other → IsChunk reading words place n direction chunk
    → IsRaised direction chunk by raised → IsBack reading words place n other raised
back_rest reading words place n by direction other chunk raised sum turned had moved = record {
  inside = λ i low.
      let at : 63 - i - by ≡ n - 1 - i = omega arith in
      ap (digit_at raised) (turned i (omega arith))
      ∙ moved.above (63 - i) (omega arith) (omega arith)
      ∙ ap (chunk_bit direction chunk) at
      ∙ had.inside (n - 1 - i) (omega arith);
}

-- the last bits of a chunk that are those of a number without the bit, all of them or some
pub none_behind : {R : Type 0} (reading : Reading R) (words : List R) (bit : Bool) (place n m from : ℕ)
    (direction : Direction) (chunk without at : ℕ) → from + m ≡ place + n → m ≤ n → m ≤ at
    → IsBack reading words place n direction chunk → Lacks bit direction without → AgreeTo direction chunk without at
    → Nowhere (bit_found reading words bit) from (place + n)
none_behind reading words bit place n m from direction chunk without at start inside early had lacks agree p low high =
    let i : ℕ = place + n - 1 - p in
    let there : place + (n - 1 - i) ≡ p = omega arith in
    let most = agree.most in
    ap (bit_found reading words bit) (sym there)
    ∙ ap (is_bit bit) (sym (had.inside i (omega arith)) ∙ agree.same i (omega arith))
    ∙ lacks i (omega arith)

-- the last of them is where the chunk differs
pub back_last : {R : Type 0} (reading : Reading R) (words : List R) (bit : Bool) (place n : ℕ)
    (direction : Direction) (chunk without at : ℕ) → n ≤ 64 → at < n → IsBack reading words place n direction chunk
    → Lacks bit direction without → AgreeTo direction chunk without at
    → LastAt (bit_found reading words bit) place (place + n) (place + (n - 1 - at))
back_last reading words bit place n direction chunk without at few low had lacks agree = record {
  low = omega arith;
  high = omega arith;
  here = other_is bit (entry reading words (place + (n - 1 - at))) (chunk_bit direction without at)
      (lacks at (omega arith)) (λ same. agree.differ (omega arith) (had.inside at low ∙ same));
  after = λ q later less.
      none_behind reading words bit place n at (place + (n - at)) direction chunk without at (omega arith) (omega arith)
      (omega arith) had lacks agree q (omega arith) less;
}

-- ---- stretches that overlap or meet

-- nowhere up to a place, and the first from that place or one before it on
pub first_later : (passes : ℕ → Bool) (from again mid upto : ℕ) (r : Option ℕ) → from ≤ again → again ≤ mid
    → Nowhere passes from mid → IsFirst passes again upto r → IsFirst passes from upto r
first_later passes from again mid upto None later early front none =
    nowhere_join passes from mid upto front (λ p low high. none p (omega arith) high)
first_later passes from again mid upto (Some q) later early front found =
    let least = found.low in
    record {
      low = omega arith;
      high = found.high;
      here = found.here;
      before = nowhere_join passes from again q (λ p low high. front p low (omega arith)) found.before;
    }

-- the first place behind some that have the bit nowhere, counted from the start of the stretch
pub position_behind : {R : Type 0} (reading : Reading R) (words : List R) (bit : Bool) (place len done : ℕ)
    (r : Option ℕ) → 0 < reading.bits → place + len ≤ length words * reading.bits → done ≤ len
    → Nowhere (bit_found reading words bit) place (place + done)
    → IsFirst (bit_found reading words bit) (place + done) (place + done + (len - done)) r
    → option_map (λ p. p - place) r ≡ position (is_bit bit) (piece (memory reading words) place len)
position_behind reading words bit place len done r some fits order front found =
    let end : place + done + (len - done) ≡ place + len = omega arith in
    position_in reading words bit place len r some fits (first_later (bit_found reading words bit) place (place + done)
    (place + done) (place + len) r (omega arith) (omega arith) front (rw end at found))

-- the first place in a part of a stretch that has the bit nowhere before the part
pub position_within : {R : Type 0} (reading : Reading R) (words : List R) (bit : Bool) (place len again done upto q : ℕ)
    → 0 < reading.bits → place + len ≤ length words * reading.bits → place ≤ again → again ≤ place + done
    → upto ≤ place + len → Nowhere (bit_found reading words bit) place (place + done)
    → IsFirst (bit_found reading words bit) again upto (Some q)
    → Some (q - place) ≡ position (is_bit bit) (piece (memory reading words) place len)
position_within reading words bit place len again done upto q some fits least most within front found =
    let most_q = found.high in
    position_in reading words bit place len (Some q) some fits (first_later (bit_found reading words bit) place again
    (place + done) (place + len) (Some q) least most front (record {
      low = found.low;
      high = omega arith;
      here = found.here;
      before = found.before;
    }))

-- nowhere from a place on, and the last up to before that place or one behind it
pub last_earlier : (passes : ℕ → Bool) (from mid again upto : ℕ) (r : Option ℕ) → mid ≤ again → again ≤ upto
    → Nowhere passes mid upto → IsLast passes from again r → IsLast passes from upto r
last_earlier passes from mid again upto None late within back none =
    nowhere_join passes from again upto none (λ p low high. back p (omega arith) high)
last_earlier passes from mid again upto (Some q) late within back found =
    let most = found.high in
    record {
      low = found.low;
      high = omega arith;
      here = found.here;
      after = λ p later less. elim (cases_lt p again) [
        | inl inside ↦ found.after p later inside
        | inr behind ↦ back p (omega arith) less
      ];
    }
