-- Boxes of bits whose visible words were lent: `has_words`.
use Rattle.std.proofs.Common.{◌≡◌, ℕ, ◌+◌, ◌*◌, ◌<◌, ◌≤◌, ◌++◌, List, length, take, drop, arith, ap, sym, ◌∙◌, refl}
use Rattle.std.proofs.lemmas.List.{length-take-le}
use Rattle.bit_addressing_memory.specs.Memory.{Reading, memory, piece}
use Rattle.bit_addressing_memory.proofs.WindowLemmas.{length-window}
use Rattle.bit_containers_vector.specs.Count.{words_for}
use Rattle.bit_containers_vector.specs.Lending.{as_many}
use Rattle.bit_containers_vector.proofs.CountLemmas.{words_within}
use Rattle.bit_containers_box.specs.Box.{box_shown, box_visible}
use Rattle.bit_containers_box.specs.Lending.{with_words, HasWords}
use Rattle.bit_containers_box.specs.declared.boxed.BitBox.{BitBox}
use Rattle.bit_containers_box.proofs.BoxLemmas.{first_bits, shown_is}
use Rattle.bit_containers_box.proofs.PartLemmas.{front_of, rest_of, written_over}

-- a box that was given other visible words has these
pub has_words : {T O : Type 0} {g : _} (reading : Reading T) (b : BitBox T O g) (ws : List T) → 0 < reading.bits
    → b.head + b.len ≤ length b.words.items * reading.bits → length ws ≡ length (box_visible reading b)
    → HasWords reading b ws (with_words b ws)
has_words {T} reading b ws some fits same =
    let new = with_words b ws in
    let xs : List T = b.words.items in
    let w : ℕ = words_for reading.bits (b.head + b.len) in
    let few : w ≤ length xs = words_within reading.bits (b.head + b.len) (length xs) some fits in
    let was : box_shown reading b ≡ w = shown_is reading b fits in
    let count : length ws ≡ w = same ∙ ap (λ k. length (take k xs)) was ∙ length-take-le w xs few in
    let held : b.head + b.len ≤ length new.words.items * reading.bits = rw (← as_many b.words ws) fits in
    let now : box_shown reading new ≡ w = shown_is reading new held in
    let all : new.words.items ≡ ws ++ drop (length ws) xs =
    ap (λ n. take n ((ws ++ drop (length ws) xs) ++ drop (length (ws ++ drop (length ws) xs)) xs)) b.words.ok.0
    ∙ written_over xs ws (drop (length (ws ++ drop (length ws) xs)) xs) (omega (arith, count, few)) in
    let front : take w new.words.items ≡ ws = ap (take w) all ∙ front_of w ws (drop (length ws) xs) count in
    let behind : drop w new.words.items ≡ drop w xs =
    ap (drop w) all ∙ rest_of w ws (drop (length ws) xs) count ∙ ap (λ k. drop k xs) count in
    record {
      words = ap (λ k. take k new.words.items) now ∙ front;
      bits =
          sym (first_bits reading new some held)
          ∙ ap (λ ys. piece (memory reading ys) b.head b.len) front
          ∙ ap (piece (memory reading ws) b.head) (sym (length-window reading xs b.head b.len fits));
      head = refl;
      rest = ap (λ k. drop k new.words.items) now ∙ behind ∙ ap (λ k. drop k xs) (sym was);
    }
