-- Parts of a window.
--
-- A window that shows all its bits again: `shows_all`, `framed_all`. What it showed: `part_shown`.
-- For callers that wrote a part: `part_written`; a bit of a piece that was set: `piece_set`, and `piece_same`.
use Rattle.std.proofs.Common.{◌≡◌, ℕ, ◌+◌, ◌-◌, ◌*◌, ◌<◌, ◌≤◌, ◌≢◌, Bool, false, List, ◌++◌, length}
use Rattle.std.proofs.Common.{take, drop, get_or, set}
use Rattle.std.proofs.Common.{arith, refl, sym, ap, ◌∙◌, inl, inr, rules, length-set, get_or-set_same, get_or-set_other}
use Rattle.std.proofs.lemmas.Bool.{cases_lt, cases_eq}
use Rattle.std.proofs.lemmas.List.{ext_get_or, get_or-take, get_or-drop, take-take, drop-drop, same_lists, places}
use Rattle.bit_addressing_memory.specs.Memory.{Reading, memory, piece, with_piece}
use Rattle.bit_addressing_memory.proofs.MemoryLemmas.{piece_piece, length-piece, get_or-piece, length-memory}
use Rattle.bit_addressing_memory.proofs.MemoryLemmas.{length-with_piece, with_piece_below, with_piece_inside}
use Rattle.bit_addressing_memory.proofs.MemoryLemmas.{with_piece_above}
use Rattle.bit_slice_views_mut.specs.Frame.{Frame, frame_of}
use Rattle.bit_slice_access.specs.PartLender.{PartLender}

-- the bits of a window whose words, place and length are known
pub shows_all : {R : Type 0} (reading : Reading R) (words as_shown : List R) (place head n len : ℕ) (bits : List Bool)
    → bits ≡ piece (memory reading as_shown) place n → as_shown ≡ words → place ≡ head → n ≡ len
    → bits ≡ piece (memory reading words) head len
shows_all reading words as_shown place head n len bits shown is at many =
    shown ∙ rw (is, at, many) refl

-- and its frame
pub framed_all : {X R : Type 0} (reading : Reading R) (lender lent : X) (words as_shown : List R)
    (place head n len : ℕ) (frame : Frame X)
    → frame ≡ frame_of reading lent as_shown place n → lent ≡ lender → as_shown ≡ words → place ≡ head → n ≡ len
    → frame ≡ frame_of reading lender words head len
framed_all reading lender lent words as_shown place head n len frame framed whose is at many =
    framed ∙ rw (whose, is, at, many) refl

-- the bits of a part of a window
pub part_shown : {R : Type 0} (reading : Reading R) (words as_shown : List R) (place at n count from : ℕ)
    (bits shown : List Bool)
    → bits ≡ piece (memory reading words) place n → shown ≡ piece (memory reading as_shown) at count
    → as_shown ≡ words → at ≡ place + from → from + count ≤ n
    → shown ≡ piece bits from count
part_shown reading words as_shown place at n count from bits shown whole part is there inside =
    part ∙ rw (is, there) refl ∙ sym (piece_piece (memory reading words) place n from count inside)
    ∙ ap (λ xs. piece xs from count) (sym whole)

-- equal beginnings have equal elements, and equal ends too
same_front : (xs ys : List Bool) (p k : ℕ) → take p xs ≡ take p ys → k < p → get_or xs k false ≡ get_or ys k false
same_front xs ys p k same low =
    sym (get_or-take p xs k false low) ∙ ap (λ l. get_or l k false) same ∙ get_or-take p ys k false low

same_back : (xs ys : List Bool) (p k : ℕ) → drop p xs ≡ drop p ys → p ≤ k → get_or xs k false ≡ get_or ys k false
same_back xs ys p k same high =
    let at : p + (k - p) ≡ k = omega arith in
    ap (λ i. get_or xs i false) (sym at) ∙ sym (get_or-drop p xs (k - p) false)
    ∙ ap (λ l. get_or l (k - p) false) same ∙ get_or-drop p ys (k - p) false ∙ ap (λ i. get_or ys i false) at

-- shorter equal beginnings, and more dropped
shorter : (xs ys : List Bool) (p q : ℕ) → take p xs ≡ take p ys → q ≤ p → take q xs ≡ take q ys
shorter xs ys p q same less = sym (take-take q p xs less) ∙ ap (take q) same ∙ take-take q p ys less

longer : (xs ys : List Bool) (p q : ℕ) → drop p xs ≡ drop p ys → p ≤ q → drop q xs ≡ drop q ys
longer xs ys p q same more =
    let at : p + (q - p) ≡ q = omega arith in
    ap (λ k. drop k xs) (sym at) ∙ sym (drop-drop (q - p) p xs) ∙ ap (drop (q - p)) same ∙ drop-drop (q - p) p ys
    ∙ ap (λ k. drop k ys) at

-- what stands beside a piece stays: the piece of a longer one is the old one with it written in
whole_written : (old new : List Bool) (place n head len from : ℕ) → place ≡ head + from → from + n ≤ len
    → head + len ≤ length old → length new ≡ length old → take place new ≡ take place old
    → drop (place + n) new ≡ drop (place + n) old
    → piece new head len ≡ with_piece (piece old head len) from (piece new place n)
whole_written old new place n head len from at inside fits size front back =
    let part : length (piece new place n) ≡ n = length-piece new place n (omega arith) in
    let was : length (piece old head len) ≡ len = length-piece old head len fits in
    let now : length (piece new head len) ≡ len = length-piece new head len (omega arith) in
    let room : from + length (piece new place n) ≤ length (piece old head len) = omega arith in
    ext_get_or false (piece new head len) (with_piece (piece old head len) from (piece new place n))
    (now ∙ sym was ∙ sym (length-with_piece (piece old head len) from (piece new place n) room))
    (λ k small.
    let low : k < len = omega arith in
    let here : get_or (piece new head len) k false ≡ get_or new (head + k) false =
    get_or-piece new head len k false low in
    let there : get_or (piece old head len) k false ≡ get_or old (head + k) false =
    get_or-piece old head len k false low in
    here ∙ sym (elim (cases_lt k from) [
      | inl below ↦
          with_piece_below (piece old head len) from (piece new place n) k false room below ∙ there
          ∙ sym (same_front new old place (head + k) front (omega arith))
      | inr above ↦ elim (cases_lt k (from + n)) [
        | inl mid ↦
            with_piece_inside (piece old head len) from (piece new place n) k (k - from) false room (omega arith)
            (omega arith)
            ∙ get_or-piece new place n (k - from) false (omega arith)
            ∙ ap (λ i. get_or new i false) (omega arith)
        | inr past ↦
            with_piece_above (piece old head len) from (piece new place n) k false room (omega arith) ∙ there
            ∙ sym (same_back new old (place + n) (head + k) back (omega arith))
      ]
    ]))

-- a part whose frame stays: the whole window is as it was but for the part's bits, and so is its frame
pub part_written : {X R : Type 0} (reading : Reading R) (old new : List R) (was is : PartLender X)
    (place at n m from : ℕ) → frame_of reading is new at m ≡ frame_of reading was old place n → m ≡ n
    → place ≡ was.head + from → from + n ≤ was.len → was.head + was.len ≤ length old * reading.bits
    → (piece (memory reading new) is.head is.len
    ≡ with_piece (piece (memory reading old) was.head was.len) from (piece (memory reading new) at m))
    × (frame_of reading is.lender new is.head is.len ≡ frame_of reading was.lender old was.head was.len)
part_written reading old new was is place at n m from frame many there inside fits =
    let mem = memory reading old in
    let mem2 = memory reading new in
    let whose : is ≡ was = ap (λ f. f.lender) frame in
    let head : is.head ≡ was.head = ap (λ l. l.head) whose in
    let len : is.len ≡ was.len = ap (λ l. l.len) whose in
    let lender : is.lender ≡ was.lender = ap (λ l. l.lender) whose in
    let count : length new ≡ length old = ap (λ f. f.words) frame in
    let same_place : at ≡ place = ap (λ f. f.place) frame in
    let size : length mem2 ≡ length mem =
    length-memory reading new ∙ ap (λ k. k * reading.bits) count ∙ sym (length-memory reading old) in
    let room : was.head + was.len ≤ length mem = omega (arith, length-memory reading old) in
    let front : take place mem2 ≡ take place mem = ap (λ k. take k mem2) (sym same_place) ∙ ap (λ f. f.before) frame in
    let back : drop (place + n) mem2 ≡ drop (place + n) mem =
    ap (λ k. drop k mem2) (omega arith) ∙ ap (λ f. f.behind) frame in
    let bits : piece mem2 was.head was.len ≡ with_piece (piece mem was.head was.len) from (piece mem2 place n) =
    whole_written mem mem2 place n was.head was.len from there inside room size front back in
    let before : take was.head mem2 ≡ take was.head mem = shorter mem2 mem place was.head front (omega arith) in
    let behind : drop (was.head + was.len) mem2 ≡ drop (was.head + was.len) mem =
    longer mem2 mem (place + n) (was.head + was.len) back (omega arith) in
    (rw (head, len, same_place, many) bits, rw (lender, head, len, count, before, behind) refl)

-- a bit of a piece set leaves the others
beside_set : (xs ys : List Bool) (from i k : ℕ) (bit : Bool) → from + length ys ≤ length xs → k ≢ from + i
    → get_or (with_piece xs from (set ys i bit)) k false ≡ get_or (with_piece xs from ys) k false
beside_set xs ys from i k bit fits other =
    let zs = set ys i bit in
    let many : length zs ≡ length ys = length-set ys i bit in
    let room : from + length zs ≤ length xs = omega arith in
    elim (cases_lt k from) [
      | inl below ↦
          with_piece_below xs from zs k false room below ∙ sym (with_piece_below xs from ys k false fits below)
      | inr above ↦ elim (cases_lt k (from + length ys)) [
        | inl inside ↦
            let there : k ≡ from + (k - from) = omega arith in
            let apart : k - from ≢ i = omega arith in
            with_piece_inside xs from zs k (k - from) false room there (omega arith)
            ∙ get_or-set_other ys i (k - from) bit false apart
            ∙ sym (with_piece_inside xs from ys k (k - from) false fits there (omega arith))
        | inr past ↦
            with_piece_above xs from zs k false room (omega arith)
            ∙ sym (with_piece_above xs from ys k false fits past)
      ]
    ]

-- a bit of a piece set is the bit of the list set
pub piece_set : (xs ys : List Bool) (from i : ℕ) (bit : Bool) → from + length ys ≤ length xs → i < length ys
    → with_piece xs from (set ys i bit) ≡ set (with_piece xs from ys) (from + i) bit
piece_set xs ys from i bit fits low =
    let zs = set ys i bit in
    let many : length zs ≡ length ys = length-set ys i bit in
    let room : from + length zs ≤ length xs = omega arith in
    let size : length (with_piece xs from ys) ≡ length xs = length-with_piece xs from ys fits in
    ext_get_or false (with_piece xs from zs) (set (with_piece xs from ys) (from + i) bit)
    (length-with_piece xs from zs room ∙ sym size ∙ sym (length-set (with_piece xs from ys) (from + i) bit))
    (λ k small. elim (cases_eq k (from + i)) [
      | inl same ↦ rw same (
          with_piece_inside xs from zs (from + i) i false room refl (omega arith) ∙ get_or-set_same ys i bit false low
          ∙ sym (get_or-set_same (with_piece xs from ys) (from + i) bit false (omega arith)))
      | inr other ↦ beside_set xs ys from i k bit fits other
          ∙ sym (get_or-set_other (with_piece xs from ys) (from + i) k bit false other)
    ])

-- a piece written where it stood changes nothing
pub piece_same : (xs : List Bool) (from n : ℕ) → from + n ≤ length xs → with_piece xs from (piece xs from n) ≡ xs
unfolding piece with_piece
piece_same xs from n fits =
    same_lists (take from xs ++ take n (drop from xs) ++ drop (from + length (take n (drop from xs))) xs) xs
    (search (rules, places)) (λ k d low. search (rules, places))
