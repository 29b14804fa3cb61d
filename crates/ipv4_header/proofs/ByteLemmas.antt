-- Fields in the bits of some bytes.
--
-- Fields end to end: read, `HasFields` and its steps; written, `Begins` and its steps. What bits tell of bytes:
-- `same_bytes`.
use Rattle.std.proofs.Common.{◌≡◌, ℕ, ◌+◌, ◌*◌, ◌≤◌, Bool, List, [], ◌∷◌, ◌++◌}
use Rattle.std.proofs.Common.{length, take, drop, get_or, refl, sym, ap, ◌∙◌, inl, inr, arith, lit<, rules}
use Rattle.std.proofs.Common.{append_assoc, length-append, suc}
use Rattle.std.specs.Prelude.{pos}
use Rattle.std.proofs.lemmas.Bool.{cases_lt}
use Rattle.std.proofs.lemmas.List.{take_at, drop_at, drop-drop, same_lists, places, length-take, length-take-le}
use Rattle.std.proofs.lemmas.List.{get_or-take, get_or-drop, get_or_past, append-nil, take_all}
use Rattle.bit_slice.specs.Memory.{digits, memory, piece, with_piece}
use Rattle.bit_slice.specs.Network.{network, network_bits}
use Rattle.bit_slice.proofs.MemoryLemmas.{length-memory}
use Rattle.bit_slice.proofs.NetworkLemmas.{length-network_bits, same_number}
use Rattle.ipv4_header.specs.Fields.{fields_bits, AreBytes}

-- ---- fields end to end

-- a front in two parts
pub join : {X : Type 0} (z : List X) (w n : ℕ) → take (w + n) z ≡ take w z ++ take n (drop w z)
join z w n = sym (same_lists (take w z ++ take n (drop w z)) (take (w + n) z) (search (rules, places))
    (λ k d h. grind (arith, places)))

-- the n bits from a place on are those of some fields
pub record HasFields (xs : List Bool) (at n : ℕ) (fields : List (ℕ × ℕ)) : Type 0 where
  pub bits_are : piece xs at n ≡ fields_bits fields

pub has_none : (xs : List Bool) (at : ℕ) → HasFields xs at 0 []
unfolding piece
has_none xs at = record { bits_are = refl }

-- a field in front of others, its number k by the name v
pub has_more : (xs : List Bool) (at w k v n : ℕ) (fields : List (ℕ × ℕ)) → k ≡ v
    → piece xs at w ≡ network_bits w (pos k) → HasFields xs (at + w) n fields → HasFields xs at (w + n) ((w, v) ∷ fields)
unfolding piece
has_more xs at w k v n fields named here behind = record {
  bits_are = join (drop at xs) w n
      ∙ ap (λ zs. take w (drop at xs) ++ take n zs) (drop-drop w at xs)
      ∙ ap (λ zs. zs ++ take n (drop (at + w) xs)) (here ∙ ap (λ j. network_bits w (pos j)) named)
      ∙ ap (λ zs. network_bits w (pos v) ++ zs) behind.bits_are;
}

fields_bits-more : (fields : List (ℕ × ℕ)) (w k : ℕ)
    → fields_bits (fields ++ (w, k) ∷ []) ≡ fields_bits fields ++ network_bits w (pos k)
fields_bits-more [] w k = append-nil (network_bits w (pos k))
fields_bits-more (field ∷ fields) w k =
    let front = network_bits field.0 (pos field.1) in
    ap (λ zs. front ++ zs) (fields_bits-more fields w k)
    ∙ sym (append_assoc front (fields_bits fields) (network_bits w (pos k)))

-- so many bytes, whose bits begin with some fields
pub record Begins (size : ℕ) (bytes : List ℕ) (at : ℕ) (fields : List (ℕ × ℕ)) : Type 0 where
  pub size_is : length bytes ≡ size
  pub front_is : take at (memory network bytes) ≡ fields_bits fields

pub begins_none : (size : ℕ) (bytes : List ℕ) → length bytes ≡ size → Begins size bytes 0 []
begins_none size bytes size_is = record { size_is = size_is; front_is = refl }

-- a field stored behind those that they begin with, its number k by the name v
pub begins_more : (size : ℕ) (before after : List ℕ) (at w k v : ℕ) (fields : List (ℕ × ℕ)) → at + w ≤ size * 8
    → k ≡ v → memory network after ≡ with_piece (memory network before) at (network_bits w (pos k))
    → length after ≡ length before → Begins size before at fields → Begins size after (at + w) (fields ++ (w, v) ∷ [])
unfolding with_piece
begins_more size before after at w k v fields fits named now len is =
    let m = memory network before in
    let ys = network_bits w (pos k) in
    let rest = drop (at + length ys) m in
    let count : length ys ≡ w = length-network_bits w (pos k) in
    let ahead : length (take at m) ≡ at = length-take-le at m (omega (arith, length-memory network before, is.size_is)) in
    let both : length (take at m ++ ys) ≡ at + w = omega (arith, length-append (take at m) ys) in
    record {
      size_is = len ∙ is.size_is;
      front_is = ap (take (at + w)) now
          ∙ take_at (take at m ++ ys) rest (at + w) both
          ∙ ap (λ zs. zs ++ ys) is.front_is
          ∙ ap (λ j. fields_bits fields ++ network_bits w (pos j)) named
          ∙ sym (fields_bits-more fields w v);
    }

-- and these are all their bits
pub begins_all : (size : ℕ) (bytes : List ℕ) (fields : List (ℕ × ℕ)) → Begins size bytes (size * 8) fields
    → memory network bytes ≡ fields_bits fields
begins_all size bytes fields is =
    let few : length (memory network bytes) ≤ size * 8 = omega (arith, length-memory network bytes, is.size_is) in
    sym (take_all (size * 8) (memory network bytes) few) ∙ is.front_is

-- ---- what bits tell

-- two lists whose fronts are as long are equal by parts
pub same_front : (xs ys more rest : List Bool) → length xs ≡ length ys → xs ++ more ≡ ys ++ rest → xs ≡ ys
same_front xs ys more rest size same =
    sym (take_at xs more (length ys) size) ∙ ap (take (length ys)) same ∙ take_at ys rest (length ys) refl

pub same_rest : (xs ys more rest : List Bool) → length xs ≡ length ys → xs ++ more ≡ ys ++ rest → more ≡ rest
same_rest xs ys more rest size same =
    sym (drop_at xs more (length ys) size) ∙ ap (drop (length ys)) same ∙ drop_at ys rest (length ys) refl

pub bytes_rest : (x : ℕ) (xs : List ℕ) → AreBytes (x ∷ xs) → AreBytes xs
bytes_rest x xs are = record { fit = λ k. are.fit (suc k) }

pub bytes_take : (n : ℕ) (xs : List ℕ) → AreBytes xs → AreBytes (take n xs)
bytes_take n xs are = record {
  fit = λ k. elim (cases_lt k n) [
    | inl low ↦ rw (get_or-take n xs k 0 low) (are.fit k)
    | inr high ↦
        let past : length (take n xs) ≤ k = omega (arith, length-take n xs) in
        let none : get_or (take n xs) k 0 ≡ 0 = get_or_past (take n xs) k 0 past in
        rw none (lit< tt)
  ];
}

-- as many bytes with the same bits are the same
bytes_are : (xs ys : List ℕ) → AreBytes xs → AreBytes ys → length xs ≡ length ys
    → memory network xs ≡ memory network ys → xs ≡ ys
unfolding memory
bytes_are [] [] _ _ _ _ = refl
bytes_are [] (y ∷ ys) _ _ size _ = absurd (omega arith)
bytes_are (x ∷ xs) [] _ _ size _ = absurd (omega arith)
bytes_are (x ∷ xs) (y ∷ ys) first second size same =
    let few : length (digits network x) ≡ length (digits network y) =
    length-network_bits 8 (pos x) ∙ sym (length-network_bits 8 (pos y)) in
    let front = same_front (digits network x) (digits network y) (memory network xs) (memory network ys) few same in
    let rest = same_rest (digits network x) (digits network y) (memory network xs) (memory network ys) few same in
    let byte : x ≡ y = same_number 8 x y (first.fit 0) (second.fit 0) front in
    let others : xs ≡ ys = bytes_are xs ys (bytes_rest x xs first) (bytes_rest y ys second) (omega arith) rest in
    cc

pub same_bytes : (xs ys : List ℕ) → AreBytes xs → AreBytes ys → memory network xs ≡ memory network ys → xs ≡ ys
same_bytes xs ys first second same =
    let size : length xs * 8 ≡ length ys * 8 =
    sym (length-memory network xs) ∙ ap length same ∙ length-memory network ys in
    bytes_are xs ys first second (omega arith) same

pub bytes_drop : (n : ℕ) (xs : List ℕ) → AreBytes xs → AreBytes (drop n xs)
bytes_drop n xs are = record { fit = λ k. rw (get_or-drop n xs k 0) (are.fit (n + k)) }
