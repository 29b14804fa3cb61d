-- What holds of a move in either way.
--
-- `reads_first`, `goes_up`, `goes_down`, `reads_first_at`, `near_place`: where source and target lie. `by_way_sum`,
-- `by_way_low`, `behind_first`, `before_last`, `ends_by_way`: the ends of some words, as they are reached. `fresh_past`,
-- `part_past`, `next_past`, `edge_put`, `edge_more`: where the edge lies.
use Rattle.std.proofs.Common.{◌≡◌, ℕ, ◌+◌, ◌-◌, ◌<◌, ◌≤◌, refl, arith}
use Rattle.std.proofs.lemmas.Bool.Decides.{nat_tests}
use Rattle.bit_addressing_memory.specs.declared.sweep.Way.{Way}
use Rattle.bit_addressing_memory.specs.declared.sweep.Way.TheVariants.{Up, Down}
use Rattle.bit_addressing_memory.specs.Ways.{AreNear, ArePast, IsWithin, ReadsFirst, by_way, edge_after, first_edge, way_for}

pub reads_first : (w : Way) (source target : ℕ) → w ≡ way_for source target → ReadsFirst w source target
reads_first Up source target is = grind (arith, nat_tests)
reads_first Down source target is = grind (arith, nat_tests)

pub goes_up : (w : Way) (source target : ℕ) → ReadsFirst w source target → target < source → w ≡ Up
goes_up Up source target order apart = refl
goes_up Down source target order apart = absurd (omega arith)

pub goes_down : (w : Way) (source target : ℕ) → ReadsFirst w source target → source < target → w ≡ Down
goes_down Up source target order apart = absurd (omega arith)
goes_down Down source target order apart = refl

-- a place behind the first of the target, and where its bit comes from
pub reads_first_at : (w : Way) (source target place : ℕ) → ReadsFirst w source target → target ≤ place
    → ReadsFirst w (source + (place - target)) place
reads_first_at Up source target place order behind = omega arith
reads_first_at Down source target place order behind = omega arith

-- the place beside one of the target
pub near_place : (w : Way) (source target place : ℕ) → AreNear w source target → target ≤ place
    → by_way w (place + 1) (place - 1) ≡ source + (place - target)
near_place Up source target place near behind = omega arith
near_place Down source target place near behind = omega arith

-- ---- two numbers

pub by_way_sum : (w : Way) (a b : ℕ) → by_way w a b + by_way w b a ≡ a + b
by_way_sum Up a b = refl
by_way_sum Down a b = omega arith

pub by_way_low : (w : Way) (a b : ℕ) → a ≤ b → (a ≤ by_way w a b) × (by_way w a b ≤ b)
by_way_low Up a b order = (omega arith, omega arith)
by_way_low Down a b order = (omega arith, omega arith)

-- between two ends, as they are reached: behind the first, and up to the last
pub behind_first : (w : Way) (a b k : ℕ) → k ≡ by_way w a b → by_way w (k + 1) b ≤ by_way w (a + 1) k
behind_first Up a b k at = omega arith
behind_first Down a b k at = omega arith

pub before_last : (w : Way) (a b k : ℕ) → k ≡ by_way w b a → by_way w b (k + 1) ≤ by_way w k (a + 1)
before_last Up a b k at = omega arith
before_last Down a b k at = omega arith

-- the end of the first n numbers, as they are reached
pub ends_by_way : (w : Way) (low high n : ℕ) → low + n ≤ high → by_way w low (high - n) + n ≡ by_way w (low + n) high
ends_by_way Up low high n within = refl
ends_by_way Down low high n within = omega arith

-- ---- the edge

pub fresh_past : (w v : Way) (edge n low high : ℕ) → v ≡ w → edge ≡ first_edge w n → high ≤ n → ArePast v edge low high
fresh_past Up v edge n low high is at within = rw is (omega arith)
fresh_past Down v edge n low high is at within = rw is (omega arith)

pub part_past : (w : Way) (edge low high x y : ℕ) → low ≤ x → y ≤ high → ArePast w edge low high → ArePast w edge x y
part_past Up edge low high x y from upto past = omega arith
part_past Down edge low high x y from upto past = omega arith

-- the words from x up to y, behind those that were put
pub next_past : (w v : Way) (edge low high x y : ℕ) → v ≡ w → by_way w high y ≤ by_way w x low → IsWithin v edge low high
    → ArePast v edge x y
next_past Up v edge low high x y is behind put = let at = rw is at put in rw is (omega arith)
next_past Down v edge low high x y is behind put = let at = rw is at put in rw is (omega arith)

pub edge_put : (w v : Way) (edge k : ℕ) → v ≡ w → edge ≡ edge_after w k → IsWithin v edge k (k + 1)
edge_put Up v edge k is at = rw is (omega arith)
edge_put Down v edge k is at = rw is (omega arith)

-- more words behind those that were put
pub edge_more : (w v : Way) (edge low mid high : ℕ) → v ≡ w → IsWithin v edge (by_way w mid low) (by_way w high mid)
    → IsWithin v edge low high
edge_more Up v edge low mid high is put = let at = rw is at put in rw is at
edge_more Down v edge low mid high is put = let at = rw is at put in rw is at
