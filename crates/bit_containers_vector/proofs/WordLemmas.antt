-- Vectors of words that were cut and filled up.
use Rattle.std.proofs.Common.{◌≡◌, ◌≢◌, ℕ, ◌+◌, ◌-◌, ◌*◌, ◌/◌, ◌%◌, ◌<◌, ◌≤◌, ◌++◌, inl, inr}
use Rattle.std.proofs.Common.{Bool, false, get_or, List, length, take, replicate, arith, ap, ap₂}
use Rattle.std.proofs.Common.{sym, ◌∙◌, refl, Result, Ok, Err, OnOk, if◌then◌else◌, is_ok, length-append}
use Rattle.std.proofs.Math.Nat.{mod-lt, mul-le-mul_right}
use Rattle.std.proofs.lemmas.Bool.{cases_lt}
use Rattle.std.proofs.lemmas.List.{append-nil, take_all, take-take, length-take-le, length-replicate}
use Rattle.std.proofs.lemmas.Nat.{div-add-mod'}
use Rattle.std.specs.Prelude.{vec_capacity}
use Rattle.bit_addressing_memory.specs.Memory.{Reading, entry, memory, piece, Overwrites}
use Rattle.bit_addressing_memory.proofs.MemoryLemmas.{length-memory, length-piece, get_or-piece, memory-append}
use Rattle.bit_addressing_memory.proofs.WindowLemmas.{window_bit}
use Rattle.bit_containers_vector.specs.Count.{words_for}
use Rattle.bit_containers_vector.specs.Grown.{Extends, Lengthened}
use Rattle.bit_containers_vector.specs.Vector.{IsAsBefore, IsSame, vec_bits, vec_words, visible}
use Rattle.bit_containers_vector.specs.declared.vector.BitVec.{BitVec}
use Rattle.bit_containers_vector.proofs.CountLemmas.{words_hold, words_within, words_more}
use Rattle.bit_containers_vector.proofs.GrownLemmas.{piece_front, piece_taken, grown_bits, grown_visible, grown_words}

-- what `resize` leaves of a beginning of some words, where it succeeds
pub extended : {R X E : Type 0} (r : Result X E) (words cut new : List R) (w n l k : ℕ) (z y : R)
    → w ≤ length words → w ≤ n → cut ≡ take w words → l ≡ length cut → k ≡ n → y ≡ z
    → new ≡ (if is_ok r then take k cut ++ replicate (k - l) y else cut)
    → OnOk r (new ≡ take w words ++ replicate (n - w) z)
extended (Ok x) words cut new w n l k z y within order is_cut count is_n is_z is =
    let size : l ≡ w = count ∙ ap length is_cut ∙ length-take-le w words within in
    is ∙ rw (is_n, is_z)
    (ap₂ (λ xs j. xs ++ replicate (n - j) z) (take_all n cut (omega arith) ∙ is_cut) size)
extended (Err x) words cut new w n l k z y within order is_cut count is_n is_z is = tt

-- so many words
pub length-extended : {R : Type 0} (words : List R) (w n : ℕ) (z : R) → w ≤ length words → w ≤ n
    → length (take w words ++ replicate (n - w) z) ≡ n
length-extended words w n z within order =
    length-append (take w words) (replicate (n - w) z)
    ∙ omega (arith, length-take-le w words within, length-replicate (n - w) z)

-- so many bits of a vector
pub length-bits : {T O : Type 0} {g : _} (reading : Reading T) (v : BitVec T O g)
    → v.head + v.len ≤ length v.words.items * reading.bits → length (vec_bits reading v) ≡ v.len
length-bits reading v fits =
    length-piece (memory reading v.words.items) v.head v.len (omega (arith, length-memory reading v.words.items))

-- a vector of which only visible words are left is the same
pub trimmed_same : {T O : Type 0} {g : _} (reading : Reading T) (old new : BitVec T O g) → 0 < reading.bits
    → old.head + old.len ≤ length old.words.items * reading.bits → new.head ≡ old.head → new.len ≡ old.len
    → new.words.items ≡ take (words_for reading.bits (old.head + old.len)) old.words.items → IsSame reading old new
trimmed_same reading old new some fits head len words =
    let w : ℕ = words_for reading.bits (old.head + old.len) in
    let within : w ≤ length old.words.items = words_within reading.bits _ _ some fits in
    let hold : old.head + old.len ≤ w * reading.bits = words_hold reading.bits (old.head + old.len) some in
    let same : vec_bits reading new ≡ vec_bits reading old =
    rw (head, len, words) (piece_taken reading old.words.items w old.head old.len within hold) in
    let size : length (vec_bits reading old) ≡ old.len = length-bits reading old fits in
    record {
      bits = same;
      words =
          ap₂ (λ k xs. take (words_for reading.bits k) xs)
          (ap₂ (λ x y. x + y) head (ap length same ∙ size)) words
          ∙ take-take w w old.words.items (omega arith)
          ∙ ap (λ k. take (words_for reading.bits (old.head + k)) old.words.items) (sym size);
      head = head;
    }

-- and where the memory is not less it is as before
pub trimmed : {T O : Type 0} {g : _} (reading : Reading T) (old new : BitVec T O g) → 0 < reading.bits
    → old.head + old.len ≤ length old.words.items * reading.bits → new.head ≡ old.head → new.len ≡ old.len
    → new.words.items ≡ take (words_for reading.bits (old.head + old.len)) old.words.items
    → vec_capacity old.words ≤ vec_capacity new.words → IsAsBefore reading old new
trimmed reading old new some fits head len words capacity =
    let same = trimmed_same reading old new some fits head len words in
    let more : vec_capacity old.words * reading.bits ≤ vec_capacity new.words * reading.bits =
    mul-le-mul_right reading.bits capacity in
    record { bits = same.bits; words = same.words; head = head; room = omega (arith, head) }

-- a vector whose words were grown, and then written behind its old bits, is extended
pub extends_by : {T O : Type 0} {g : _} (reading : Reading T) (zero : T) (old new : BitVec T O g)
    (grown after : List T) (m : ℕ) (now : ℕ → Bool) (ys : List Bool) → 0 < reading.bits
    → ((i : ℕ) → reading.digit zero i ≡ false) → old.head + old.len ≤ length old.words.items * reading.bits
    → grown ≡ take (words_for reading.bits (old.head + old.len)) (vec_words old)
    ++ replicate (words_for reading.bits (old.head + (old.len + m)) - words_for reading.bits (old.head + old.len)) zero
    → length ys ≡ m → ((k : ℕ) → k < m → now k ≡ get_or ys k false)
    → Overwrites reading grown after (old.head + old.len) m now → vec_words new ≡ after
    → new.head ≡ old.head → new.len ≡ old.len + m → Extends reading old new ys
extends_by reading zero old new grown after m now ys some none fits longer count same wrote words here size =
    let more : ℕ = words_for reading.bits (old.head + (old.len + m)) - words_for reading.bits (old.head + old.len) in
    let written : Overwrites reading grown (vec_words new) (old.head + old.len) m now = rw words wrote in
    let bits : vec_bits reading new ≡ vec_bits reading old ++ ys =
    rw (here, size) (grown_bits reading zero (vec_words old) grown (vec_words new) old.head old.len m more
    now ys some none fits refl longer count same written) in
    let held : length (vec_bits reading old) ≡ old.len = length-bits reading old fits in
    let all : length (vec_bits reading new) ≡ old.len + m =
    ap length bits ∙ length-append (vec_bits reading old) ys ∙ omega (arith, held, count) in
    let shown : visible reading new ≡ vec_words new =
    ap (λ h. take (words_for reading.bits (h + length (vec_bits reading new))) (vec_words new)) here
    ∙ grown_visible reading zero (vec_words old) grown (vec_words new) old.head old.len m more now ys some none
    fits refl longer count same written (length (vec_bits reading new)) all in
    let was : visible reading old ≡ take (words_for reading.bits (old.head + old.len)) (vec_words old) =
    ap (λ k. take (words_for reading.bits (old.head + k)) (vec_words old)) held in
    record {
      bits = bits;
      head = here;
      words =
          grown_words reading zero (vec_words old) grown (vec_words new) old.head old.len m more now ys some
          none fits refl longer count same written (visible reading old) (visible reading new)
          (length (vec_bits reading old)) was shown held;
    }

-- a vector that was lengthened, and then written behind its old bits, is extended
pub extends : {T O : Type 0} {g : _} (reading : Reading T) (zero : T) (old mid new : BitVec T O g) (after : List T)
    (m : ℕ) (now : ℕ → Bool) (ys : List Bool) → 0 < reading.bits → ((i : ℕ) → reading.digit zero i ≡ false)
    → old.head + old.len ≤ length old.words.items * reading.bits → Lengthened reading zero old mid m
    → length ys ≡ m → ((k : ℕ) → k < m → now k ≡ get_or ys k false)
    → Overwrites reading (vec_words mid) after (old.head + old.len) m now → vec_words new ≡ after
    → new.head ≡ mid.head → new.len ≡ mid.len → Extends reading old new ys
extends reading zero old mid new after m now ys some none fits longer count same wrote words head len =
    extends_by reading zero old new (vec_words mid) after m now ys some none fits longer.words count same wrote words
    (head ∙ longer.head) (len ∙ longer.len)

-- words of which the last one has the place behind some bits have room for one more
pub room_for_one : (b end words : ℕ) → 0 < b → end / b + 1 ≡ words → end + 1 ≤ words * b
room_for_one b end words some last =
    let product : words * b ≡ end / b * b + b = ap (λ k. k * b) (sym last) ∙ omega arith in
    omega (arith, product, div-add-mod' end b, mod-lt end some)

-- and where some of those bits lie in it, they are the words that the bits take, with one more or without
pub room_inside : {T : Type 0} (b end : ℕ) (words : List T) (zero : T) → 0 < b → end % b ≢ 0
    → end / b + 1 ≡ length words
    → words ≡ take (words_for b end) words ++ replicate (words_for b (end + 1) - words_for b end) zero
room_inside b end words zero some part last =
    let w : ℕ = length words in
    let most : words_for b (end + 1) ≤ w = words_within b (end + 1) w some (room_for_one b end w some last) in
    let fewer : words_for b end ≤ words_for b (end + 1) = words_more b end 1 some in
    let enough : w ≤ words_for b end = elim (cases_lt (words_for b end) w) [
      | inl few ↦
          let less : words_for b end * b ≤ end / b * b = mul-le-mul_right b (omega (arith, few, last)) in
          absurd (omega (arith, words_hold b end some, less, div-add-mod' end b, part))
      | inr many ↦ many
    ] in
    let none : words_for b (end + 1) - words_for b end ≡ 0 = omega (arith, most, fewer, enough) in
    rw none (sym (append-nil _ ∙ take_all (words_for b end) words enough))

-- a lengthened vector has the old bits where they were
pub lengthened_bits : {T O : Type 0} {g : _} (reading : Reading T) (zero : T) (old mid : BitVec T O g) (m : ℕ)
    → 0 < reading.bits → old.head + old.len ≤ length old.words.items * reading.bits → Lengthened reading zero old mid m
    → piece (memory reading (vec_words mid)) old.head old.len ≡ vec_bits reading old
lengthened_bits reading zero old mid m some fits longer =
    let w : ℕ = words_for reading.bits (old.head + old.len) in
    let within : w ≤ length old.words.items = words_within reading.bits _ _ some fits in
    let hold : old.head + old.len ≤ w * reading.bits = words_hold reading.bits (old.head + old.len) some in
    let size : length (take w old.words.items) ≡ w = length-take-le w old.words.items within in
    let product : length (take w old.words.items) * reading.bits ≡ w * reading.bits = ap (λ k. k * reading.bits) size in
    ap (λ ws. piece (memory reading ws) old.head old.len) longer.words
    ∙ ap (λ xs. piece xs old.head old.len) (memory-append reading (take w old.words.items) _)
    ∙ piece_front (memory reading (take w old.words.items)) _ old.head old.len
    (omega (arith, hold, product, length-memory reading (take w old.words.items)))
    ∙ piece_taken reading old.words.items w old.head old.len within hold

-- one of its old bits
pub lengthened_bit : {T O : Type 0} {g : _} (reading : Reading T) (zero : T) (old mid : BitVec T O g) (m from n k : ℕ)
    → 0 < reading.bits → old.head + old.len ≤ length old.words.items * reading.bits → Lengthened reading zero old mid m
    → from + n ≤ old.len → k < n
    → entry reading (vec_words mid) (old.head + from + k) ≡ get_or (piece (vec_bits reading old) from n) k false
lengthened_bit reading zero old mid m from n k some fits longer within low =
    let at : old.head + from + k ≡ old.head + (from + k) = omega arith in
    ap (entry reading (vec_words mid)) at
    ∙ sym (window_bit reading (vec_words mid) old.head old.len (from + k) some (omega arith))
    ∙ ap (λ xs. get_or xs (from + k) false) (lengthened_bits reading zero old mid m some fits longer)
    ∙ sym (get_or-piece (vec_bits reading old) from n k false low)
