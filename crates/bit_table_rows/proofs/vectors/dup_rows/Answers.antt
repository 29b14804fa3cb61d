use Rattle.std.proofs.Common.{◌-◌, ◌*◌, ◌++◌, Result, Ok, Err, OnOk, length, arith, ap, ◌∙◌, length-append}
use Rattle.bit_addressing_memory.specs.Memory.{piece, read_by}
use Rattle.bit_addressing_memory.proofs.MemoryLemmas.{length-piece}
use Rattle.bit_containers_vector.specs.Vector.{vec_bits}
use Rattle.bit_table_rows.proofs.EditLemmas.{range_is}
use Rattle.bit_table_rows.proofs.PlaceLemmas.{place_apart, place_behind, place_order}
use Rattle.bit_table_rows.proofs.vectors.dup_rows.Goals as goal

on_ok : {T E P Q : Type 0} (r : Result T E) → (P → Q) → OnOk r P → OnOk r Q
on_ok (Ok x) f is = f is
on_ok (Err e) f is = is

pub returns-clause-bits : goal.returns-clause-bits
returns-clause-bits g c =
    let reading = read_by g.T.BitRegister g.O.Positions.position in
    let xs = vec_bits reading c.args.vector.now in
    on_ok c.extend_from_within.result
    (λ is. is.bits ∙ ap (λ ys. xs ++ ys) (range_is xs (c.args.p * c.args.w) (c.args.q * c.args.w)))
    c.extend_from_within.ensures.ok

pub returns-clause-len : goal.returns-clause-len
returns-clause-len g c =
    let reading = read_by g.T.BitRegister g.O.Positions.position in
    let n = c.args.n in
    let p = c.args.p in
    let q = c.args.q in
    let w = c.args.w in
    let xs = vec_bits reading c.args.vector.now in
    let order = place_order p q w c.requires.order in
    let within = place_order q n w c.requires.within in
    let part = length-piece xs (p * w) (q * w - p * w) (omega (arith, c.requires.rows)) in
    let more = place_apart p q w c.requires.order in
    let all = place_behind n (q - p) w in
    on_ok c.extend_from_within.result
    (λ is. ap length is.bits ∙ length-append xs (piece xs (p * w) (q * w - p * w)) ∙ omega (arith, c.requires.rows))
    c.extend_from_within.ensures.ok
