-- Vectors of bits whose words stay.
use Rattle.std.proofs.Common.{◌≡◌, ℕ, ◌+◌, ◌-◌, ◌*◌, ◌<◌, ◌≤◌, ◌∙◌}
use Rattle.std.proofs.Common.{Bool, List, length, take, arith, ap, ap₂, sym, inl, inr}
use Rattle.std.proofs.Math.Nat.{mul-le-mul_right}
use Rattle.std.proofs.lemmas.Bool.{cases_lt}
use Rattle.std.proofs.lemmas.List.{places, same_lists, take-take, take_all, length-take-le}
use Rattle.std.specs.Prelude.{vec_capacity}
use Rattle.bit_addressing_memory.specs.Memory.{Reading, memory, piece}
use Rattle.bit_addressing_memory.proofs.MemoryLemmas.{length-memory, piece_all}
use Rattle.bit_addressing_memory.proofs.WindowLemmas.{length-window}
use Rattle.bit_containers_vector.specs.Count.{words_for}
use Rattle.bit_containers_vector.specs.Vector.{IsAsBefore, Shortens, Shows, vec_bits, visible, room}
use Rattle.bit_containers_vector.specs.declared.vector.BitVec.{BitVec}
use Rattle.bit_containers_vector.proofs.CountLemmas.{words_hold, words_within, words_more}
use Rattle.bit_containers_vector.proofs.GrownLemmas.{piece_taken}
use Rattle.bit_containers_vector.proofs.WordLemmas.{length-bits}

-- memory for no fewer words is no less room
pub more_room : {T O : Type 0} {g : _} (reading : Reading T) (old new : BitVec T O g) → new.head ≡ old.head
    → vec_capacity old.words ≤ vec_capacity new.words → room reading old ≤ room reading new
more_room reading old new head capacity =
    let more : vec_capacity old.words * reading.bits ≤ vec_capacity new.words * reading.bits =
    mul-le-mul_right reading.bits capacity in
    omega arith

-- a vector of the same words
pub unchanged : {T O : Type 0} {g : _} (reading : Reading T) (old new : BitVec T O g)
    → new.words.items ≡ old.words.items → new.head ≡ old.head → new.len ≡ old.len
    → vec_capacity old.words ≤ vec_capacity new.words → IsAsBefore reading old new
unchanged reading old new words head len capacity =
    let same : vec_bits reading new ≡ vec_bits reading old =
    ap₂ (λ ws p. piece (memory reading ws) p new.len) words head
    ∙ ap (piece (memory reading old.words.items) old.head) len in
    record {
      bits = same;
      words =
          ap₂ (λ k ws. take (words_for reading.bits k) ws) (ap₂ (λ p n. p + n) head (ap length same)) words;
      head = head;
      room = more_room reading old new head capacity;
    }

-- a shorter piece
pub piece_shorter : (xs : List Bool) (h n k : ℕ) → k ≤ n → piece xs h k ≡ take k (piece xs h n)
unfolding piece
piece_shorter xs h n k less = same_lists _ _ (grind (arith, places)) (λ i d inside. grind (arith, places))

-- a vector of the same words that shows fewer bits
pub shortened : {T O : Type 0} {g : _} (reading : Reading T) (old new : BitVec T O g) (n : ℕ) → 0 < reading.bits
    → old.head + old.len ≤ length old.words.items * reading.bits → new.words.items ≡ old.words.items
    → vec_capacity new.words ≡ vec_capacity old.words → new.head ≡ old.head → new.len ≤ old.len
    → (n ≤ old.len → new.len ≡ n) → (old.len ≤ n → new.len ≡ old.len) → Shortens reading old new n
shortened reading old new n some fits words capacity head less low high =
    let w : ℕ = words_for reading.bits (old.head + old.len) in
    let k : ℕ = words_for reading.bits (old.head + new.len) in
    let held : length (vec_bits reading old) ≡ old.len = length-bits reading old fits in
    let shown : vec_bits reading new ≡ take new.len (vec_bits reading old) =
    ap₂ (λ ws p. piece (memory reading ws) p new.len) words head
    ∙ piece_shorter (memory reading old.words.items) old.head old.len new.len less in
    let size : length (vec_bits reading new) ≡ new.len =
    ap length shown ∙ length-take-le new.len (vec_bits reading old) (omega (arith, held)) in
    let front : take new.len (vec_bits reading old) ≡ take n (vec_bits reading old) = elim (cases_lt n old.len) [
      | inl few ↦ ap (λ i. take i (vec_bits reading old)) (low (omega arith))
      | inr many ↦
          ap (λ i. take i (vec_bits reading old)) (high many)
          ∙ take_all old.len (vec_bits reading old) (omega (arith, held))
          ∙ sym (take_all n (vec_bits reading old) (omega (arith, held)))
    ] in
    let parts : old.head + new.len + (old.len - new.len) ≡ old.head + old.len = omega arith in
    let fewer : k ≤ w = rw (← parts) (words_more reading.bits (old.head + new.len) (old.len - new.len) some) in
    record {
      bits = shown ∙ front;
      words =
          ap₂ (λ i ws. take (words_for reading.bits i) ws) (ap₂ (λ p i. p + i) head size) words
          ∙ sym (take-take k w old.words.items fewer)
          ∙ ap₂ (λ i j. take (words_for reading.bits i) (take (words_for reading.bits j) old.words.items))
          (ap₂ (λ p i. p + i) (sym head) (sym size)) (ap (λ i. old.head + i) (sym held));
      head = head;
      room = ap₂ (λ c p. c * reading.bits - p) capacity head;
    }

-- as many visible words as the bits take
pub length-visible : {T O : Type 0} {g : _} (reading : Reading T) (v : BitVec T O g) → 0 < reading.bits
    → v.head + v.len ≤ length v.words.items * reading.bits
    → length (visible reading v) ≡ words_for reading.bits (v.head + v.len)
length-visible reading v some fits =
    let held : length (vec_bits reading v) ≡ v.len = length-bits reading v fits in
    ap (λ k. length (take (words_for reading.bits (v.head + k)) v.words.items)) held
    ∙ length-take-le (words_for reading.bits (v.head + v.len)) v.words.items
    (words_within reading.bits (v.head + v.len) (length v.words.items) some fits)

-- what stands in visible words
pub visible_piece : {T O : Type 0} {g : _} (reading : Reading T) (v : BitVec T O g) → 0 < reading.bits
    → v.head + v.len ≤ length v.words.items * reading.bits → (p n : ℕ)
    → p + n ≤ length (visible reading v) * reading.bits
    → piece (memory reading (visible reading v)) p n ≡ piece (memory reading v.words.items) p n
visible_piece reading v some fits p n shown =
    let w : ℕ = words_for reading.bits (v.head + v.len) in
    let held : length (vec_bits reading v) ≡ v.len = length-bits reading v fits in
    let size : length (visible reading v) * reading.bits ≡ w * reading.bits =
    ap (λ k. k * reading.bits) (length-visible reading v some fits) in
    ap (λ k. piece (memory reading (take (words_for reading.bits (v.head + k)) v.words.items)) p n) held
    ∙ piece_taken reading v.words.items w p n (words_within reading.bits (v.head + v.len) (length v.words.items) some fits)
    (omega (arith, size, shown))

-- the visible words where fewer bits are shown, or more, of the same ones
pub visible_less : {T O : Type 0} {g : _} (reading : Reading T) (old new : BitVec T O g) → 0 < reading.bits
    → old.head + old.len ≤ length old.words.items * reading.bits → new.words.items ≡ old.words.items
    → new.head ≡ old.head → new.head + new.len ≤ length (visible reading old) * reading.bits
    → visible reading new ≡ take (words_for reading.bits (old.head + new.len)) (visible reading old)
visible_less reading old new some fits words head shown =
    let w : ℕ = words_for reading.bits (old.head + old.len) in
    let k : ℕ = words_for reading.bits (old.head + new.len) in
    let held : length (vec_bits reading old) ≡ old.len = length-bits reading old fits in
    let count : length (visible reading old) ≡ w = length-visible reading old some fits in
    let within : w ≤ length old.words.items =
    words_within reading.bits (old.head + old.len) (length old.words.items) some fits in
    let product : length (visible reading old) * reading.bits ≡ w * reading.bits = ap (λ i. i * reading.bits) count in
    let low : old.head + new.len ≤ w * reading.bits = omega (arith, shown, product, head) in
    let more : w * reading.bits ≤ length old.words.items * reading.bits = mul-le-mul_right reading.bits within in
    let room : new.head + new.len ≤ length new.words.items * reading.bits =
    rw (words, head) (omega (arith, low, more)) in
    let size : length (vec_bits reading new) ≡ new.len = length-bits reading new room in
    let fewer : k ≤ w = words_within reading.bits (old.head + new.len) w some low in
    ap₂ (λ i ws. take (words_for reading.bits i) ws) (ap₂ (λ p i. p + i) head size) words
    ∙ sym (take-take k w old.words.items fewer)
    ∙ ap (λ i. take k (take (words_for reading.bits (old.head + i)) old.words.items)) (sym held)

-- a vector of the same words that shows another number of bits in visible words
pub shown : {T O : Type 0} {g : _} (reading : Reading T) (old new : BitVec T O g) (n : ℕ) → 0 < reading.bits
    → old.head + old.len ≤ length old.words.items * reading.bits → new.words.items ≡ old.words.items
    → vec_capacity new.words ≡ vec_capacity old.words → new.head ≡ old.head → new.len ≡ n
    → old.head + n ≤ length (visible reading old) * reading.bits → Shows reading old new n
shown reading old new n some fits words capacity head len inside = record {
  bits =
      ap₂ (λ ws p. piece (memory reading ws) p new.len) words head
      ∙ ap (piece (memory reading old.words.items) old.head) len
      ∙ sym (visible_piece reading old some fits old.head n inside);
  words =
      visible_less reading old new some fits words head (omega (arith, inside, head, len))
      ∙ ap (λ k. take (words_for reading.bits (old.head + k)) (visible reading old)) len;
  head = head;
  room = ap₂ (λ c p. c * reading.bits - p) capacity head;
}

-- room for so many bits more, in words
pub has_room : {T : Type 0} (reading : Reading T) (words : List T) (head len held more : ℕ) → 0 < reading.bits
    → head + len ≤ length words * reading.bits → words_for reading.bits (head + len + more) ≤ held
    → length (piece (memory reading words) head len) + more ≤ held * reading.bits - head
has_room reading words head len held more some fits enough =
    let count : length (piece (memory reading words) head len) ≡ len = length-window reading words head len fits in
    let hold = words_hold reading.bits (head + len + more) some in
    let product : words_for reading.bits (head + len + more) * reading.bits ≤ held * reading.bits =
    mul-le-mul_right reading.bits enough in
    omega (arith, count, hold, product)

-- and back
pub room_words : {T : Type 0} (reading : Reading T) (words : List T) (head len held more : ℕ) → 0 < reading.bits
    → head + len ≤ length words * reading.bits → length words ≤ held
    → length (piece (memory reading words) head len) + more ≤ held * reading.bits - head
    → words_for reading.bits (head + len + more) ≤ held
room_words reading words head len held more some fits within room =
    let count : length (piece (memory reading words) head len) ≡ len = length-window reading words head len fits in
    let product : length words * reading.bits ≤ held * reading.bits = mul-le-mul_right reading.bits within in
    words_within reading.bits (head + len + more) held some (omega (arith, room, count, product, fits))

-- all bits of some words
pub all_words : {T : Type 0} (reading : Reading T) (words : List T) (n : ℕ) → n ≡ length words * reading.bits
    → piece (memory reading words) 0 n ≡ memory reading words
all_words reading words n is = piece_all (memory reading words) n (length-memory reading words ∙ sym is)
