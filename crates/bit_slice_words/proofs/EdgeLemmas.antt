-- A stretch of bits cut at its edges: the first word from an index on, whole words, the last word up to an index.
--
-- `cut_one`: inside one word. `cut_more`: over more words.
use Rattle.bit_addressing_memory.proofs.Common.{◌≡◌, ℕ, ◌+◌, ◌-◌, ◌*◌, ◌<◌, ◌≤◌, List, ◌++◌, length, take, drop}
use Rattle.bit_addressing_memory.proofs.Common.{get_or, refl, ap, ◌∙◌, arith, Reading, digits, memory, piece}
use Rattle.bit_addressing_memory.proofs.MemoryLemmas.{piece_join, word_part, memory_part}

-- bits inside one word are a piece of its digits
pub cut_one : {R : Type 0} (reading : Reading R) (words : List R) (place len first from last upto : ℕ) (x : R)
    → first * reading.bits + from ≡ place → last * reading.bits + upto ≡ place + len → first ≡ last → from ≤ upto
    → upto ≤ reading.bits → first < length words → x ≡ get_or words first x
    → piece (digits reading x) from (upto - from) ≡ piece (memory reading words) place len
cut_one reading words place len first from last upto x start end same order within low is =
    let m = memory reading words in
    let row : first * reading.bits ≡ last * reading.bits = ap (λ k. k * reading.bits) same in
    let count : upto - from ≡ len = omega arith in
    word_part reading words first x from (upto - from) low is (omega arith)
    ∙ ap (λ p. piece m p (upto - from)) start
    ∙ ap (piece m place) count

-- bits of more words are a piece of the first one's digits, the words between, and a piece of the last one's digits
pub cut_more : {R : Type 0} (reading : Reading R) (words body : List R) (place len first from last upto : ℕ) (x y : R)
    → first * reading.bits + from ≡ place → last * reading.bits + upto ≡ place + len → first < last
    → from ≤ reading.bits → upto ≤ reading.bits → last < length words
    → x ≡ get_or words first x → y ≡ get_or words last y → body ≡ take (last - (first + 1)) (drop (first + 1) words)
    → piece (digits reading x) from (reading.bits - from) ++ (memory reading body ++ piece (digits reading y) 0 upto)
    ≡ piece (memory reading words) place len
cut_more reading words body place len first from last upto x y start end more index within low is_x is_y is_body =
    let b : ℕ = reading.bits in
    let m = memory reading words in
    let n : ℕ = last - (first + 1) in
    let gap : first + 1 + n ≡ last = omega arith in
    let row : (first + 1 + n) * b ≡ last * b = ap (λ k. k * b) gap in
    let row_sum : (first + 1 + n) * b ≡ first * b + b + n * b = omega arith in
    let head : piece (digits reading x) from (b - from) ≡ piece m place (b - from) =
    word_part reading words first x from (b - from) (omega arith) is_x (omega arith)
    ∙ ap (λ p. piece m p (b - from)) start in
    let whole : memory reading body ≡ piece m ((first + 1) * b) (n * b) =
    ap (memory reading) is_body ∙ memory_part reading words (first + 1) n (omega arith) in
    let tail : piece (digits reading y) 0 upto ≡ piece m (last * b) upto =
    word_part reading words last y 0 upto low is_y (omega arith) ∙ ap (λ p. piece m p upto) (omega arith) in
    let behind : piece m ((first + 1) * b) (n * b) ++ piece m (last * b) upto
    ≡ piece m ((first + 1) * b) (n * b + upto) =
    piece_join m ((first + 1) * b) (n * b) (last * b) upto (n * b + upto) (omega arith) refl in
    let all : piece m place (b - from) ++ piece m ((first + 1) * b) (n * b + upto) ≡ piece m place len =
    piece_join m place (b - from) ((first + 1) * b) (n * b + upto) len (omega arith) (omega arith) in
    rw (head, whole, tail, behind) all
