use Rattle.std.proofs.Common.{◌≡◌, ◌*◌, ◌≤◌, count_by, length, map, not, ap, sym, ◌∙◌, refl, arith}
use Rattle.std.proofs.Math.Nat.{mul-le-mul_right}
use Rattle.std.proofs.lemmas.List.{length-map}
use Rattle.std.proofs.lemmas.List.Sums.{count_by-le-length}
use Rattle.bit_table_layout.specs.Layouts.{row_width}
use Rattle.bit_table_layout.specs.Readings.{rows_from}
use Rattle.bit_table_layout.proofs.RowLemmas.{length-rows_from}
use Rattle.bit_table_layout.specs.LetterSets.{bears}
use Rattle.bit_table_commands.specs.declared.command.Command.TheVariants.{Drop}
use Rattle.bit_addressing_memory.specs.Memory.{read_by}
use Rattle.bit_containers_vector.specs.Vector.{vec_bits}
use Rattle.bit_table_script.specs.Lettered.{lettered}
use Rattle.bit_table_script.proofs.LetteredLemmas.{length-lettered}
use Rattle.bit_table_script.proofs.MarkedLemmas.{count-staying}
use Rattle.bit_table_script.proofs.MovedLemmas.{are_together}
use Rattle.bit_table_script.proofs.RoomLemmas.{room_is}
use Rattle.bit_table_script.proofs.TableLemmas.{count_is, rows_staying, shape_after}
use Rattle.bit_table_script.proofs.table.Table.drop_marked.Goals as goal

pub invariant_of-self : goal.invariant_of-self
invariant_of-self g c =
    let t = c.self.inside in
    let h = c.self.invariant in
    let off = map (bears c.index-letter.result) t.letters.sets in
    let left = c.keep_rows_of-left.result.0 in
    let w = row_width t.layout.fields in
    let count : left ≡ count_by not off =
    c.keep_rows_of-left.ensures.count ∙ ap (count_by not) c.list-marked.ensures.bits in
    let size : length off ≡ t.rows = length-map t.letters.sets (bears c.index-letter.result) ∙ h.1.marked in
    let few : left ≤ t.rows = omega (arith, count, count_by-le-length not off, size) in
    let fewer : left * w ≤ t.rows * w = mul-le-mul_right w few in (
      h.0,
      record {
        fits = rw c.row_bits-width.ensures.bits at c.keep_rows_of-left.ensures.len;
        room = omega (arith, fewer, h.1.room);
        marked =
            ap length c.drop_rows-letters.ensures.sets ∙ count-staying c.index-letter.result t.letters.sets ∙ sym count;
      },
      h.2,
      h.3,
      c.keep_rows_of-left.ensures.head ∙ h.4,
      record {
        within = omega (arith, few, h.5.within);
        bits = omega (arith, h.5.bits, c.keep_rows_of-left.ensures.room);
        letters = omega (arith, h.5.letters, c.drop_rows-letters.ensures.space);
      },
    )

pub returns-clause-shape : goal.returns-clause-shape
returns-clause-shape g c =
    let t = c.self.inside in
    let h = c.self.invariant in
    let x = c.args.letter in
    let same = c.index-letter.ensures.index in
    let count = rw (c.list-marked.ensures.bits, same) at c.keep_rows_of-left.ensures.count in
    let bits = rw (c.row_bits-width.ensures.bits, c.list-marked.ensures.bits, same) at c.keep_rows_of-left.ensures.bits in
    let letters = rw same at c.drop_rows-letters.ensures.sets in
    shape_after _ t.layout _ _ _ c.self.view_is h.0 h.1 h.2 (Drop x) _ _
    (rows_staying t.layout _ h.1 x _ count bits letters) refl

pub returns-clause-moved : goal.returns-clause-moved
returns-clause-moved g c =
    let t = c.self.inside in
    let h = c.self.invariant in
    let off = map (bears c.index-letter.result) t.letters.sets in
    let left = c.keep_rows_of-left.result.0 in
    let count : left ≡ count_by not off =
    c.keep_rows_of-left.ensures.count ∙ ap (count_by not) c.list-marked.ensures.bits in
    let all = length-lettered (rows_from t.layout left _) _ ∙ length-rows_from t.layout left _ in
    let marks = ap length c.drop_rows-letters.ensures.sets ∙ count-staying c.index-letter.result t.letters.sets ∙ sym count in
    let few = rw c.row_bits-width.ensures.bits at c.keep_rows_of-left.ensures.writes in
    let own = rw c.index-letter.ensures.index at c.drop_rows-letters.ensures.own in
    are_together _ t.layout _ _ _ c.self.view_is h.0 h.1 h.2 _ _ _ left _ _ c.args.letter _ _
    c.all_writes-self-inside.ensures h.4 (sym all) (marks ∙ sym all) few c.drop_rows-letters.ensures.writes own

pub returns-clause-room : goal.returns-clause-room
returns-clause-room g c =
    let t = c.self.inside in
    let h = c.self.invariant in
    let off = map (bears c.index-letter.result) t.letters.sets in
    let left = c.keep_rows_of-left.result.0 in
    let count : left ≡ count_by not off =
    c.keep_rows_of-left.ensures.count ∙ ap (count_by not) c.list-marked.ensures.bits in
    let size : length off ≡ t.rows = length-map t.letters.sets (bears c.index-letter.result) ∙ h.1.marked in
    let bits = vec_bits (read_by g.A.Store.BitRegister g.O.Positions.position) c.keep_rows_of-left.new.vector in
    let marks = c.drop_rows-letters.new.self.sets in
    let all : length (lettered (rows_from t.layout left bits) marks) ≡ left =
    length-lettered (rows_from t.layout left bits) marks ∙ length-rows_from t.layout left bits in
    let had = count_is _ t.layout _ _ _ c.self.view_is h.0 h.1 h.2 in
    omega (
      arith,
      all,
      had,
      count,
      size,
      count_by-le-length not off,
      room_is c.self.view_is,
      h.5.within,
    )
