-- Vectors of bits that were made of zeros and then written.
use Rattle.std.proofs.Common.{◌≡◌, ℕ, ◌+◌, ◌*◌, ◌<◌, ◌≤◌, Bool, false, List, length, take, replicate, get_or}
use Rattle.std.proofs.Common.{arith, ap, ap₂, sym, ◌∙◌, refl, zero-add}
use Rattle.std.proofs.lemmas.List.{places, same_lists, take_all, length-replicate, get_or-replicate}
use Rattle.bit_addressing_memory.specs.Memory.{Reading, entry, memory, piece, with_piece, Copies, Overwrites}
use Rattle.bit_addressing_memory.proofs.MemoryLemmas.{length-memory}
use Rattle.bit_addressing_memory.proofs.MemoryLemmas.{memory_overwritten, piece_all}
use Rattle.bit_addressing_memory.proofs.WindowLemmas.{length-window, window_bit}
use Rattle.bit_slice_words.proofs.ListLemmas.{overwritten_list}
use Rattle.bit_containers_vector.specs.Count.{words_for}
use Rattle.bit_containers_vector.specs.Grown.{HoldsAlone, Repeats}
use Rattle.bit_containers_vector.specs.Vector.{vec_bits, visible}
use Rattle.bit_containers_vector.specs.declared.vector.BitVec.{BitVec}
use Rattle.bit_containers_vector.proofs.CountLemmas.{words_hold}
use Rattle.bit_containers_vector.proofs.GrownLemmas.{zero_words}
use Rattle.bit_containers_vector.proofs.WordLemmas.{length-bits}

-- all words of a vector that has no others are visible
pub all_visible : {T O : Type 0} {g : _} (reading : Reading T) (v : BitVec T O g)
    → v.head + v.len ≤ length v.words.items * reading.bits
    → length v.words.items ≡ words_for reading.bits (v.head + v.len) → visible reading v ≡ v.words.items
all_visible reading v fits count =
    let size : length (vec_bits reading v) ≡ v.len = length-bits reading v fits in
    ap (λ k. take (words_for reading.bits (v.head + k)) v.words.items) size
    ∙ take_all (words_for reading.bits (v.head + v.len)) v.words.items (omega (arith, count))

-- zeros that were written over
pub holds_written : {T O : Type 0} {g : _} (reading : Reading T) (z : T) (v : BitVec T O g) (mid : List T)
    (now : ℕ → Bool) (ys : List Bool) → 0 < reading.bits → ((i : ℕ) → reading.digit z i ≡ false)
    → mid ≡ replicate (words_for reading.bits (v.head + v.len)) z
    → Overwrites reading mid v.words.items v.head v.len now → length ys ≡ v.len
    → ((k : ℕ) → k < v.len → now k ≡ get_or ys k false) → HoldsAlone reading v v.head ys
holds_written reading z v mid now ys some none zeros wrote count same =
    let w : ℕ = words_for reading.bits (v.head + v.len) in
    let size : length mid ≡ w = ap length zeros ∙ length-replicate w z in
    let product : length mid * reading.bits ≡ w * reading.bits = ap (λ k. k * reading.bits) size in
    let fits : v.head + v.len ≤ length mid * reading.bits =
    omega (arith, product, words_hold reading.bits (v.head + v.len) some) in
    let all : visible reading v ≡ v.words.items =
    all_visible reading v (rw wrote.words fits) (wrote.words ∙ size) in
    let long : length (visible reading v) ≡ w = ap length all ∙ wrote.words ∙ size in
    record {
      bits = overwritten_list reading mid v.words.items v.head v.len some fits now ys count same wrote;
      head = refl;
      words =
          ap (memory reading) all
          ∙ memory_overwritten reading mid v.words.items v.head v.len now ys some fits count same wrote
          ∙ ap (λ m. with_piece m v.head ys)
          (ap (memory reading) zeros ∙ zero_words reading z w none
          ∙ sym (ap (λ k. replicate (k * reading.bits) false) long));
    }

-- zeros over which bits of another memory were copied
pub holds_copy : {T O Q : Type 0} {g : _} (reading : Reading T) (its : Reading Q) (z : T) (v : BitVec T O g)
    (mid : List T) (other : List Q) (source h n at : ℕ) (ys : List Bool) → 0 < reading.bits → 0 < its.bits
    → ((i : ℕ) → reading.digit z i ≡ false) → mid ≡ replicate (words_for reading.bits (h + n)) z → v.head ≡ h
    → v.len ≡ n → ys ≡ piece (memory its other) source n → source + n ≤ length other * its.bits
    → Copies reading mid v.words.items its other source h n → h ≡ at → HoldsAlone reading v at ys
holds_copy reading its z v mid other source h n at ys some its_some none zeros head len is fits wrote here =
    rw (← here, ← head, is) (holds_written reading z v mid (λ k. entry its other (source + k)) (piece (memory its other) source n)
    some none (rw (head, len) zeros) (rw (head, len) wrote) (length-window its other source n fits ∙ sym len)
    (λ k low. sym (window_bit its other source n k its_some (omega (arith, low, len)))))

-- some bits of many that are the same
piece_same : (n k : ℕ) (bit : Bool) → k ≤ n → piece (replicate n bit) 0 k ≡ replicate k bit
unfolding piece
piece_same n k bit less = same_lists _ _ (grind (arith, places)) (λ i d inside. grind (arith, places))

-- zeros over which one bit was written in all words
pub filled_all : {T O : Type 0} {g : _} (reading : Reading T) (z : T) (v : BitVec T O g) (mid : List T) (len n : ℕ)
    (bit : Bool) → 0 < reading.bits → v.head ≡ 0 → v.len ≡ len
    → mid ≡ replicate (words_for reading.bits (0 + len)) z → n ≡ words_for reading.bits len * reading.bits
    → Overwrites reading mid v.words.items 0 n (λ _. bit) → Repeats reading v bit len
filled_all reading z v mid len n bit some head is_len zeros is wrote =
    let w : ℕ = words_for reading.bits len in
    let size : length mid ≡ w =
    ap length zeros ∙ length-replicate (words_for reading.bits (0 + len)) z ∙ ap (words_for reading.bits) (zero-add len) in
    let product : length mid * reading.bits ≡ w * reading.bits = ap (λ k. k * reading.bits) size in
    let whole : 0 + n ≤ length mid * reading.bits = omega (arith, product, is) in
    let filled : memory reading v.words.items ≡ replicate n bit =
    sym (piece_all (memory reading v.words.items) n
    (length-memory reading v.words.items ∙ ap (λ k. k * reading.bits) wrote.words ∙ omega (arith, product, is)))
    ∙ overwritten_list reading mid v.words.items 0 n some whole (λ _. bit) (replicate n bit) (length-replicate n bit)
    (λ k low. sym (get_or-replicate n k bit false low)) wrote in
    let hold : len ≤ n = omega (arith, is, words_hold reading.bits len some) in
    let fits : v.head + v.len ≤ length v.words.items * reading.bits =
    rw wrote.words (omega (arith, head, is_len, product, is, hold)) in
    let same : v.head + v.len ≡ len = omega (arith, head, is_len) in
    let all : visible reading v ≡ v.words.items =
    all_visible reading v fits (wrote.words ∙ size ∙ ap (words_for reading.bits) (sym same)) in
    let long : length (visible reading v) * reading.bits ≡ n =
    ap (λ ws. length ws * reading.bits) all ∙ ap (λ k. k * reading.bits) (wrote.words ∙ size) ∙ sym is in
    record {
      bits =
          ap₂ (λ p k. piece (memory reading v.words.items) p k) head is_len
          ∙ ap (λ m. piece m 0 len) filled
          ∙ piece_same n len bit hold;
      head = head;
      words = ap (memory reading) all ∙ filled ∙ ap (λ k. replicate k bit) (sym long);
    }
