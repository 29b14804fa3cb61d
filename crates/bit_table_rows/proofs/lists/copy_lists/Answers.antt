use Rattle.std.proofs.Common.{◌≡◌, ◌++◌, ◌<◌, length, get_or, ap, ◌∙◌, subst, arith}
use Rattle.std.proofs.lemmas.List.{get_or_default}
use Rattle.bit_addressing_memory.specs.Memory.{read_by}
use Rattle.bit_containers_vector.specs.Vector.{vec_bits}
use Rattle.bit_table_rows.specs.Lists.{HasBits}
use Rattle.bit_table_rows.proofs.WalkLemmas.{walk_goes_on, walk_ends}
use Rattle.bit_table_rows.proofs.lists.copy_lists.Goals as goal

pub loop-i-preserved : goal.loop-i-preserved
loop-i-preserved g c =
    let reading = read_by g.T.BitRegister g.O.Positions.position in
    let other = read_by g.Q.BitRegister g.P.Positions.position in
    let i = c.loop-i.i in
    let lists = c.loop-i.lists in
    let others = c.args.others.now in
    let h = c.loop-i.invariant in
    let v = c.index-lists-i.result in
    let w = c.index-others-i.result in
    let here : i < length c.args.lists.now = omega (arith, c.loop-i-test.true) in
    let there : i < length others = omega (arith, here, c.requires.count) in
    let low : i < length lists = omega (arith, here, h.len) in
    let grown = (c.in_ok-extend_from_bitslice.ensures).ok in
    walk_goes_on (λ k old new. (d : _) → HasBits reading (λ bits. bits ++ vec_bits other (get_or others k d)) old new) i
    c.args.lists.now lists c.extend_from_bitslice.new.self h here
    (λ e d. let was : get_or lists i v ≡ get_or c.args.lists.now i e =
    get_or_default lists i v e low ∙ h.rest i e (omega arith) in
    subst (λ old. HasBits reading (λ bits. bits ++ vec_bits other (get_or others i d)) old c.extend_from_bitslice.new.self)
    was
    (record {
      bits = grown.bits ∙ ap (λ u. vec_bits reading (get_or lists i v) ++ vec_bits other u) (c.index-others-i.is ∙ get_or_default others i w d there);
      head = grown.head;
      room = (c.in_ok-extend_from_bitslice.ensures).room;
    }))

pub returns : goal.returns
returns g c =
    let reading = read_by g.T.BitRegister g.O.Positions.position in
    let other = read_by g.Q.BitRegister g.P.Positions.position in
    walk_ends (λ k old new. (d : _) → HasBits reading (λ bits. bits ++ vec_bits other (get_or c.args.others.now k d)) old new)
    c.loop-i.i c.args.lists.now c.loop-i.lists c.loop-i.invariant (omega (arith, c.loop-i-test.false, c.loop-i.invariant.len))
