use Rattle.std.proofs.Common.{arith, ◌≡◌, ℕ, ◌+◌, ◌*◌, ◌/◌, ◌<◌, ◌≤◌, ap, List, true, not, length}
use Rattle.std.proofs.Common.{mul-le-mul_right}
use Rattle.std.proofs.lemmas.List.Sums.{count_by-le-length}
use Rattle.std.proofs.lemmas.Nat.{div-add-mod', mod_below}
use Rattle.bit_addressing_memory.proofs.Changes.{unchanged}
use Rattle.bit_addressing_memory.proofs.ShiftedWords.{less_words}
use Rattle.bit_addressing_memory.specs.Memory.{Reading, read_by}
use Rattle.bit_addressing_memory.specs.Sweep.{sweep_words}
use Rattle.bit_slice_views.specs.View.{view_bits}
use Rattle.bit_slice_words.specs.Stretch.{bit_found, Nowhere}
use Rattle.bit_table_rows.proofs.KeepRowLemmas.{kept_zeros}
use Rattle.bit_table_rows.proofs.PlaceLemmas.{place_order}
use Rattle.bit_table_rows.proofs.keep.keep_zeros.Goals as goal

-- the words that were looked at have all bits of the rows, and none of their bits is 1
looked_at : {R : Type 0} (reading : Reading R) (words : List R) (end count : ℕ) → end ≤ count * reading.bits
    → Nowhere (bit_found reading words true) 0 (count * reading.bits)
    → (upto : ℕ) → upto * reading.bits < end + reading.bits
    → Nowhere (bit_found reading words true) 0 (upto * reading.bits)
looked_at reading words end count holds none upto low =
    let b = reading.bits in
    let less : upto < count + 1 = less_words upto (count + 1) b (omega (arith, low, holds)) in
    let most : upto * b ≤ count * b = mul-le-mul_right b (omega (arith, less)) in
    λ p from below. none p from (omega (arith, below, most))

pub put_zeros-requires : goal.put_zeros-requires
put_zeros-requires g c =
    let reading = read_by g.T.BitRegister g.O.Positions.position in
    let off = view_bits reading c.args.off in
    let end : ℕ = c.args.first + c.args.n * c.args.w in
    let few = count_by-le-length not off in
    let left : c.args.left ≤ c.args.n = omega (arith, few, c.requires.flags, c.requires.left) in
    let rows = place_order c.args.left c.args.n c.args.w left in
    record {
      way = c.requires.way;
      edge = c.requires.edge;
      within = omega (arith, rows, c.requires.within);
      ends = omega (arith, rows, c.requires.ends);
      zeros = λ upto low. looked_at reading (sweep_words c.args.sweep.now) end c.args.count c.requires.holds
          c.requires.zeros upto (omega (arith, rows, low));
    }

pub returns-clause-rows : goal.returns-clause-rows
returns-clause-rows g c =
    let reading = read_by g.T.BitRegister g.O.Positions.position in
    let b = reading.bits in
    let off = view_bits reading c.args.off in
    let end : ℕ = c.args.first + c.args.n * c.args.w in
    let some : 0 < b = omega (arith, g.met.T.BitRegister.least_bits) in
    let rows : length off * c.args.w ≡ c.args.n * c.args.w = ap (λ m. m * c.args.w) c.requires.flags in
    let before = sweep_words c.args.sweep.now in
    let after = sweep_words c.put_zeros.new.sweep in
    kept_zeros reading before after c.args.first c.args.w off some (omega (arith, rows, c.requires.within))
    (λ p low.
    let rest = mod_below p b some in
    let whole = div-add-mod' p b in
    looked_at reading before end c.args.count c.requires.holds c.requires.zeros
    (p / b + 1) (omega (arith, rows, whole, low)) p (omega arith) (omega (arith, rest, whole)))
    c.put_zeros.ensures.same c.put_zeros.ensures.words

pub returns-clause-changed : goal.returns-clause-changed
returns-clause-changed g c =
    let words = sweep_words c.args.sweep.now in
    omega (arith, c.put_zeros.ensures.changed words, unchanged g.T.BitRegister.number words, c.requires.writes)
