use Rattle.std.proofs.Common.{◌≡◌, ◌++◌, false, length, map, ap, ◌∙◌, arith}
use Rattle.std.proofs.lemmas.List.{length-append, length-replicate}
use Rattle.bit_addressing_memory.specs.Memory.{read_by}
use Rattle.bit_containers_vector.specs.Vector.{vec_bits}
use Rattle.bit_table_rows.proofs.ColumnLemmas.{column_after, column_size, columns_after, columns_short, none_of}
use Rattle.bit_table_rows.proofs.PutLemmas.{marks_blank}
use Rattle.bit_table_rows.proofs.SpaceLemmas.{space_held}
use Rattle.bit_table_rows.specs.Lists.{AreColumns}
use Rattle.bit_table_rows.proofs.letters.Letters.of_rows.Goals as goal

pub extend_lists-requires : goal.extend_lists-requires
extend_lists-requires g c =
    let reading = read_by g.T.BitRegister g.O.Positions.position in
    let blank = vec_bits reading c.in_ok-blank.blank in
    let size : length blank ≡ c.args.rows =
    ap length (c.in_ok-blank.ensures).bits ∙ length-replicate c.args.rows false in
    record {
      most =
          columns_short reading 0 c.empty_lists-lists.result c.empty_lists-lists.ensures (length blank)
          (omega (arith, size, c.requires));
    }

pub invariant_of-result : goal.invariant_of-result
invariant_of-result g c =
    let reading = read_by g.T.BitRegister g.O.Positions.position in
    let blank = vec_bits reading c.in_ok-blank.blank in
    let size : length blank ≡ c.args.rows =
    ap length (c.in_ok-blank.ensures).bits ∙ length-replicate c.args.rows false in
    let lists = c.extend_lists.new.lists in
    let are : AreColumns reading c.args.rows lists =
    columns_after reading 0 c.empty_lists-lists.result c.empty_lists-lists.ensures lists c.args.rows
    (λ bits. bits ++ blank) c.in_ok-extend_lists.ensures c.requires
    (λ xs none. omega (arith, length-append xs blank, none, size)) in
    (are, space_held g.O.Positions.position c.args.rows lists are)

pub returns-clause-sets : goal.returns-clause-sets
returns-clause-sets g c =
    let reading = read_by g.T.BitRegister g.O.Positions.position in
    let lists = c.empty_lists-lists.result in
    let h = c.empty_lists-lists.ensures in
    let blank = vec_bits reading c.in_ok-blank.blank in
    marks_blank c.args.rows (map (vec_bits reading) c.extend_lists.new.lists)
    (λ x low. column_after reading 0 lists h c.extend_lists.new.lists c.args.rows (λ bits. bits ++ blank)
    c.in_ok-extend_lists.ensures x low
    ∙ ap (λ bits. bits ++ blank) (none_of _ (column_size reading 0 lists h x low)) ∙ (c.in_ok-blank.ensures).bits)
