-- Word paths of at most a step a bit: their steps, and bits that are equal so far.
use Rattle.bit_addressing_memory.proofs.Common.{◌≡◌, ℕ, ◌+◌, ◌-◌, ◌<◌, ◌≤◌, ◌↔◌, ◌∙◌, IsTrue, Bool, List, sym, ap}
use Rattle.bit_addressing_memory.proofs.Common.{arith, min, Reading, entry}
use Rattle.bit_slice_paths.specs.Agrees.{AreSame}
use Rattle.bit_slice_paths.specs.Steps.{most_steps, groups, Takes}
use Rattle.bit_slice_paths.proofs.StepLemmas.{takes_none, takes_more, takes_as}
use Rattle.bit_slice_paths.proofs.WalkLemmas.{equal_more}

groups_one : (n : ℕ) → groups n 1 ≡ n
groups_one n = omega arith

groups_64 : (n : ℕ) → groups n 64 ≤ n
groups_64 n = omega arith

-- within wider bounds
pub takes_within : (old new least most fewer more : ℕ) → fewer ≤ least → most ≤ more → Takes old new least most
    → Takes old new fewer more
takes_within old new least most fewer more low high had =
    let a = had.at_least in
    let b = had.at_most in
    record { at_least = omega arith; at_most = omega arith }

-- a step a bit
pub takes_bits : (old new n k : ℕ) → k ≡ n → Takes old new k k → Takes old new (groups n 64) (groups n 1)
takes_bits old new n k all had =
    takes_within old new k k (groups n 64) (groups n 1) (omega (arith, groups_64 n)) (omega (arith, groups_one n)) had

-- the last bit first: before it, one more, and all
pub takes_none_down : (old n k : ℕ) → k ≡ n → Takes old old (n - k) (n - k)
takes_none_down old n k all = record { at_least = omega arith; at_most = omega arith }

pub takes_more_down : (old now new n k : ℕ) → 0 < k → k ≤ n → new ≡ min (now + 1) most_steps
    → Takes old now (n - k) (n - k) → Takes old new (n - (k - 1)) (n - (k - 1))
takes_more_down old now new n k some inside is had =
    let one_more : n - k + 1 ≡ n - (k - 1) = omega arith in
    takes_as old new (n - k + 1) (n - (k - 1)) one_more (takes_more old now new (n - k) is had)

pub takes_bits_down : (old new n k : ℕ) → k ≡ 0 → Takes old new (n - k) (n - k)
    → Takes old new (groups n 64) (groups n 1)
takes_bits_down old new n k none had = takes_bits old new n (n - k) (omega arith) had

-- no more steps than bits
pub takes_no_more : (old new n : ℕ) → Takes old new (groups n 64) (groups n 64) → Takes old new (groups n 64) (groups n 1)
takes_no_more old new n had =
    takes_within old new (groups n 64) (groups n 64) (groups n 64) (groups n 1) (omega arith)
    (omega (arith, groups_64 n, groups_one n)) had

-- a step a bit, and then at most one for each 64 others
pub takes_behind : (old now new few rest n least all : ℕ) → few + rest ≡ n → all ≤ few + least → Takes old now few few
    → Takes now new least (groups rest 64) → Takes old new all (groups n 1)
takes_behind old now new few rest n least all sum enough had more =
    let a = had.at_least in
    let b = had.at_most in
    let c = more.at_least in
    let d = more.at_most in
    record { at_least = omega arith; at_most = omega (arith, groups_64 rest, groups_one n) }

-- bits that are equal, and then others of which an answer tells it
pub equal_behind : {R : Type 0} (reading : Reading R) (words others : List R) (place other_place few rest n : ℕ)
    (r : Bool) → few + rest ≡ n → AreSame reading words place reading others other_place few
    → (IsTrue r ↔ AreSame reading words (place + few) reading others (other_place + few) rest)
    → IsTrue r ↔ AreSame reading words place reading others other_place n
equal_behind reading words others place other_place few rest n r sum had told = (
  λ yes. equal_more reading reading words others place other_place few rest n (sym sum) had (told.0 yes),
  λ same. told.1 (λ k low.
      let here : place + few + k ≡ place + (few + k) = omega arith in
      let there : other_place + few + k ≡ other_place + (few + k) = omega arith in
      ap (entry reading words) here ∙ same (few + k) (omega arith) ∙ sym (ap (entry reading others) there)),
)

pub ruleset count_steps = (takes_none, takes_more, takes_bits, takes_none_down, takes_more_down, takes_bits_down)

-- a step each
pub ruleset count_each = (takes_none, takes_more, takes_as)
