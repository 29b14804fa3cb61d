-- Words of a move put by a sweep, some after others.
--
-- `can_all`, `can_part`, `can_next`, `can_word`: which words it may put, at first and when some are put. `puts_none`, `puts_one`: no
-- word, and one that was gathered. `puts_more`: more words, either way. `puts_step`: one more in a loop by way.
-- `puts_three`: those between two ends, and these. `puts_moved`: many at once.
use Rattle.bit_addressing_memory.proofs.Common.{◌≡◌, ℕ, ◌+◌, ◌-◌, ◌*◌, ◌/◌, ◌^◌, ◌<◌, ◌≤◌, List, length, set, refl, sym, ap}
use Rattle.bit_addressing_memory.proofs.Common.{subst, ◌∙◌, arith, Reading, entry}
use Rattle.std.proofs.Math.Nat.{mul-le-mul_right}
use Rattle.bit_addressing_memory.specs.declared.sweep.Sweep.{Sweep}
use Rattle.bit_addressing_memory.specs.declared.sweep.Way.{Way}
use Rattle.bit_addressing_memory.specs.declared.sweep.Way.TheVariants.{Up, Down}
use Rattle.bit_addressing_memory.specs.Lies.{Lies}
use Rattle.bit_addressing_memory.specs.MoveSteps.{CanPut, Gathers, PutsWords}
use Rattle.bit_addressing_memory.specs.Sweep.{IsFresh, edge_of, reads_of, sweep_lender, sweep_words, way_of, writes_of}
use Rattle.bit_addressing_memory.specs.Moves.{Moves, changed}
use Rattle.bit_addressing_memory.specs.Ways.{ArePast, IsWithin, ReadsFirst, by_way, edge_after, way_for}
use Rattle.bit_addressing_memory.proofs.Changes.{changed-set}
use Rattle.bit_addressing_memory.proofs.Gathers.{moved_bit_inside}
use Rattle.bit_addressing_memory.proofs.PlaceLemmas.{begins_before, begins_behind}
use Rattle.bit_addressing_memory.proofs.ShiftedWords.{less_words}
use Rattle.bit_addressing_memory.proofs.Sweeps.{swept_more, swept_none, swept_one, swept_over}
use Rattle.bit_addressing_memory.proofs.WayLemmas.{by_way_sum, edge_more, edge_put, fresh_past, next_past}
use Rattle.bit_addressing_memory.proofs.WayLemmas.{part_past, reads_first}

-- ---- which words may be put

-- all that the target touches
pub can_all : {R : Type 0} (b bits : ℕ) (s : Sweep R) (source target len : ℕ) → bits ≡ b → 0 < b → 0 < len
    → IsFresh s (way_for source target) → source + len ≤ length (sweep_words s) * b → source + len < 2 ^ 64
    → target + len ≤ length (sweep_words s) * b → target + len < 2 ^ 64
    → CanPut b s source target len (target / bits) ((target + len - 1) / bits + 1)
can_all b bits s source target len is any some fresh source_within source_ends target_within target_ends =
    let last : ℕ = (target + len - 1) / bits in
    let before : last * b < target + len = begins_before b bits (target + len) last is any (omega arith) (omega arith) in
    let words : last < length (sweep_words s) =
    less_words last (length (sweep_words s)) b (omega arith) in
    let behind = begins_behind b bits target (target / bits + 1) is any (omega arith) in
    record {
      order = reads_first (way_of s) source target fresh.way_is;
      past = fresh_past (way_for source target) (way_of s) (edge_of s) (length (sweep_words s)) (target / bits) (last + 1)
          fresh.way_is fresh.edge (omega arith);
      some = some;
      begins = omega (arith, behind);
      ends = omega (arith, before);
      source_lies = record { within = source_within; ends = source_ends };
      target_lies = record { within = target_within; ends = target_ends };
    }

-- some of them
pub can_part : {R : Type 0} (b : ℕ) (s : Sweep R) (source target len low high x y : ℕ) → low ≤ x → y ≤ high
    → CanPut b s source target len low high → CanPut b s source target len x y
can_part b s source target len low high x y from upto can = record {
  order = can.order;
  past = part_past (way_of s) (edge_of s) low high x y from upto can.past;
  some = can.some;
  begins = omega (arith, mul-le-mul_right b from, can.begins);
  ends = omega (arith, mul-le-mul_right b upto, can.ends);
  source_lies = can.source_lies;
  target_lies = can.target_lies;
}

lies_again : {R : Type 0} (b : ℕ) (xs ys : List R) (place n : ℕ) → length ys ≡ length xs → Lies b xs place n
    → Lies b ys place n
lies_again b xs ys place n same lies = record { within = rw same lies.within; ends = lies.ends }

-- some of them, in the way behind those that were put
pub can_next : {R : Type 0} (w : Way) (b : ℕ) (s t : Sweep R) (source target len low high a z x y : ℕ) → way_of s ≡ w
    → low ≤ x → y ≤ high → by_way w z y ≤ by_way w x a → CanPut b s source target len low high → way_of t ≡ way_of s
    → length (sweep_words t) ≡ length (sweep_words s) → IsWithin (way_of t) (edge_of t) a z
    → CanPut b t source target len x y
can_next w b s t source target len low high a z x y is from upto behind can way words edge =
    let part = can_part b s source target len low high x y from upto can in
    record {
      order = rw way part.order;
      past = next_past w (way_of t) (edge_of t) a z x y (way ∙ is) behind edge;
      some = part.some;
      begins = part.begins;
      ends = part.ends;
      source_lies = lies_again b (sweep_words s) (sweep_words t) source len words part.source_lies;
      target_lies = lies_again b (sweep_words s) (sweep_words t) target len words part.target_lies;
    }

-- the word itself is there
pub can_word : {R : Type 0} (b : ℕ) (s : Sweep R) (source target len k : ℕ) → CanPut b s source target len k (k + 1)
    → k < length (sweep_words s)
can_word b s source target len k can =
    less_words k (length (sweep_words s)) b (omega (arith, can.ends, can.target_lies.within))

-- ---- words put

-- none of the words that may be put
pub puts_none : {R : Type 0} (w : Way) (reading : Reading R) (most : ℕ) (s : Sweep R) (source target len low high : ℕ)
    → way_of s ≡ w → CanPut reading.bits s source target len low high
    → PutsWords reading most s s source target len (by_way w low high) (by_way w low high)
puts_none w reading most s source target len low high is can = record {
  swept = swept_none reading (sweep_words s) source target len (by_way w low high);
  writes = refl;
  few_changed = λ number others. omega arith;
  reads = omega arith;
  edge = none w (way_of s) (edge_of s) is can.past;
  way = refl;
  lender = refl;
}
  where
    none : (w v : Way) (edge : ℕ) → v ≡ w → ArePast v edge low high → IsWithin v edge (by_way w low high) (by_way w low high)
    none Up v edge is past = let at = rw is at past in rw is at
    none Down v edge is past = let at = rw is at past in rw is at

-- the word k gathered by reads from s to t, and then put
pub puts_one : {R : Type 0} (reading : Reading R) (most : ℕ) (s t u : Sweep R) (source target len k : ℕ) (word : R)
    → 0 < reading.bits → CanPut reading.bits s source target len k (k + 1)
    → Gathers reading most s t source target len k word → sweep_words u ≡ set (sweep_words t) k word
    → edge_of u ≡ edge_after (way_of t) k → writes_of u ≡ writes_of t + 1 → way_of u ≡ way_of t
    → reads_of u ≡ reads_of t → sweep_lender u ≡ sweep_lender t
    → PutsWords reading most s u source target len k (k + 1)
puts_one reading most s t u source target len k word some can made words edge writes way reads lender =
    let is : sweep_words u ≡ set (sweep_words s) k word = rw made.same.words at words in
    let within = can_word reading.bits s source target len k can in
    record {
      swept = rw is (swept_one reading (sweep_words s) source target len k word some within made.digits);
      writes = omega (arith, made.same.writes);
      few_changed = λ number others. rw is (omega (arith, changed-set number others (sweep_words s) k word));
      reads = omega (arith, made.reads);
      edge = edge_put (way_of t) (way_of u) (edge_of u) k way edge;
      way = way ∙ made.same.way;
      lender = lender ∙ made.lender;
    }

-- the words on one side of mid, and then those on the other
pub puts_more : {R : Type 0} (w : Way) (reading : Reading R) (most : ℕ) (s t u : Sweep R)
    (source target len low mid high : ℕ) → way_of s ≡ w → ReadsFirst (way_of s) source target → low ≤ mid → mid ≤ high
    → PutsWords reading most s t source target len (by_way w low mid) (by_way w mid high)
    → PutsWords reading most t u source target len (by_way w mid low) (by_way w high mid)
    → PutsWords reading most s u source target len low high
puts_more w reading most s t u source target len low mid high is order under over had next =
    let first = by_way_sum w low mid in
    let last = by_way_sum w mid high in
    record {
      swept = swept_more w reading (sweep_words s) (sweep_words t) (sweep_words u) source target len low mid high
          (rw is at order) under over had.swept next.swept;
      writes = omega (arith, first, last, had.writes, next.writes);
      few_changed = λ number others.
          omega (arith, first, last, had.few_changed number others, next.few_changed number others);
      reads = omega (
        arith,
        ap (λ n. most * n) first,
        ap (λ n. most * n) last,
        had.reads,
        next.reads,
      );
      edge = edge_more w (way_of u) (edge_of u) low mid high (next.way ∙ had.way ∙ is) next.edge;
      way = next.way ∙ had.way;
      lender = next.lender ∙ had.lender;
    }

-- a step of a loop over all words, by way: the next one may be put, and what is put with it
pub puts_step : {R : Type 0} (w : Way) (reading : Reading R) (most : ℕ) (s t : Sweep R)
    (source target len first last m k : ℕ) → way_of s ≡ w → first ≤ m → m ≤ last → k ≡ by_way w m (last - (m - first))
    → CanPut reading.bits s source target len first (last + 1)
    → PutsWords reading most s t source target len (by_way w first (last + 1 - (m - first))) (by_way w m (last + 1))
    → CanPut reading.bits t source target len k (k + 1)
    × ((u : Sweep R) → PutsWords reading most t u source target len k (k + 1)
    → PutsWords reading most s u source target len (by_way w first (last + 1 - (m + 1 - first)))
    (by_way w (m + 1) (last + 1)))
puts_step Up reading most s t source target len first last m k is from upto at can had = (
  can_next Up reading.bits s t source target len first (last + 1) first m k (k + 1) is (omega arith) (omega arith)
      (omega arith) can had.way had.swept.words had.edge,
  λ u next.
      puts_more Up reading most s t u source target len first m (m + 1) is can.order from (omega arith) had
      (rw at at next),
)
puts_step Down reading most s t source target len first last m k is from upto at can had =
    let here : last + 1 - (m + 1 - first) ≡ k = omega arith in
    let end : last + 1 - (m - first) ≡ k + 1 = omega arith in (
      can_next Down reading.bits s t source target len first (last + 1) (last + 1 - (m - first)) (last + 1) k (k + 1) is
          (omega arith) (omega arith) (omega arith) can had.way had.swept.words had.edge,
      λ u next.
          rw here (puts_more Down reading most s t u source target len k (k + 1) (last + 1) is can.order (omega arith)
          (omega arith) (rw end at had) next),
    )

-- the first word by way, those between, and the last
pub puts_three : {R : Type 0} (w : Way) (reading : Reading R) (most : ℕ) (s t u v : Sweep R)
    (source target len first last : ℕ) → way_of s ≡ w → ReadsFirst (way_of s) source target → first < last
    → PutsWords reading most s t source target len (by_way w first last) (by_way w first last + 1)
    → PutsWords reading most t u source target len (first + 1) last
    → PutsWords reading most u v source target len (by_way w last first) (by_way w last first + 1)
    → PutsWords reading most s v source target len first (last + 1)
puts_three Up reading most s t u v source target len first last is order some one two three =
    puts_more Up reading most s u v source target len first last (last + 1) is order (omega arith) (omega arith)
    (puts_more Up reading most s t u source target len first (first + 1) last is order (omega arith) (omega arith) one two)
    three
puts_three Down reading most s t u v source target len first last is order some one two three =
    puts_more Down reading most s u v source target len first (first + 1) (last + 1) is order (omega arith) (omega arith)
    (puts_more Down reading most s t u source target len (first + 1) last (last + 1) is order (omega arith) (omega arith)
    one two) three

-- so many words with n bits of the words as they were
pub puts_moved : {R : Type 0} (reading : Reading R) (s u : Sweep R) (source target len k size place n : ℕ)
    → size * reading.bits ≡ n → target ≤ k * reading.bits → k * reading.bits + n ≤ target + len
    → place ≡ source + (k * reading.bits - target)
    → Moves reading (sweep_words s) (sweep_words u) place (k * reading.bits) n
    → ((number : R → ℕ) (others : List R)
    → changed number others (sweep_words u) ≤ changed number others (sweep_words s) + size)
    → writes_of u ≡ writes_of s + size → reads_of u ≤ reads_of s + 2 * size → IsWithin (way_of s) (edge_of u) k (k + size)
    → way_of u ≡ way_of s → sweep_lender u ≡ sweep_lender s
    → PutsWords reading 3 s u source target len k (k + size)
puts_moved reading s u source target len k size place n all begins ends from moved few writes reads edge way lender =
    let b = reading.bits in
    let end : k * b + n ≡ (k + size) * b = omega (arith, all) in
    record {
      swept = swept_over reading (sweep_words s) (sweep_words u) source target len k size (k * b) n
          (λ i. entry reading (sweep_words s) (place + i)) refl end
          (λ i low.
          let there : place + i ≡ source + (k * b + i - target) = omega arith in
          ap (entry reading (sweep_words s)) there
          ∙ sym (moved_bit_inside reading (sweep_words s) source target len (k * b + i) (omega arith) (omega arith)))
          moved;
      writes = omega (arith, writes);
      few_changed = λ number others. omega (arith, few number others);
      reads = omega (arith, reads);
      edge = let P : Way → Type 0 = λ w. IsWithin w (edge_of u) k (k + size) in subst P (sym way) edge;
      way = way;
      lender = lender;
    }
