use Rattle.bit_addressing_memory.specs.Memory.{read_by}
use Rattle.bit_slice_views.specs.View.{view_bits}
use Rattle.std.proofs.Common.{◌≡◌, ◌+◌, ◌*◌, ◌≤◌, true, false, cond, get_or, sym, ap, ◌∙◌, arith, rules}
use mir.Val.{bool_byte}
use Rattle.bit_table_image.proofs.ByteLemmas.{byte_all, weighed, weighed_place}
use Rattle.bit_table_image.proofs.EightLemmas.{byte_more, byte_fits}
use Rattle.bit_table_image.proofs.bytes.byte.Goals.{in-Low, in-High}
use Rattle.bit_table_image.proofs.bytes.byte.Goals as goal

pub overflow_mul-byte : goal.overflow_mul-byte
overflow_mul-byte g c =
    let bits = view_bits (read_by g.T.BitRegister g.O.Positions.position) c.args.bits in
    let below = byte_fits c.args.rule c.args.first bits c.loop-index.index c.loop-index.byte c.loop-index-test.true
    c.loop-index.invariant in
    omega arith

pub overflow_add-byte : goal.overflow_add-byte
overflow_add-byte g c =
    let bits = view_bits (read_by g.T.BitRegister g.O.Positions.position) c.args.bits in
    let below = byte_fits c.args.rule c.args.first bits c.loop-index.index c.loop-index.byte c.loop-index-test.true
    c.loop-index.invariant in
    let bit : bool_byte c.bit_at.result ≤ 1 =
    elim c.bit_at.result as (λ b. bool_byte b ≤ 1) [ true ↦ omega arith | false ↦ omega arith ] in
    omega arith

pub loop-index-preserved : goal.loop-index-preserved
loop-index-preserved g c =
    let place : c.match-rule.place ≡ weighed_place c.args.rule c.loop-index.index =
    elim c.match-rule.branch [
      | in-Low w ↦ w.place-is ∙ ap (λ r. weighed_place r c.loop-index.index) (sym w.in-Low.is)
      | in-High w ↦ w.place-is ∙ ap (λ r. weighed_place r c.loop-index.index) (sym w.in-High.is)
    ] in
    let bits = view_bits (read_by g.T.BitRegister g.O.Positions.position) c.args.bits in
    let next = weighed c.args.rule c.args.first bits c.loop-index.index in
    let bit : c.bit_at.result ≡ next =
    c.bit_at.ensures ∙ ap (λ k. get_or bits (c.args.first + k) false) place in
    let number : c.from.result ≡ cond c.bit_at.result 1 0 = search rules in
    let added : c.from.result ≡ cond next 1 0 = number ∙ ap (λ b. cond b 1 0) bit in
    ap (λ n. 2 * c.loop-index.byte + n) added
    ∙ byte_more c.args.rule c.args.first bits c.loop-index.index c.loop-index.byte c.loop-index.invariant

pub returns : goal.returns
returns g c =
    let all : c.loop-index.index ≡ 8 = omega arith in
    rw all at c.loop-index.invariant
    ∙ byte_all c.args.rule c.args.first (view_bits (read_by g.T.BitRegister g.O.Positions.position) c.args.bits)
