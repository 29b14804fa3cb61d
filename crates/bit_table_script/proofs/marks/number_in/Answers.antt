use Rattle.std.proofs.Common.{◌≡◌, ℕ, ◌+◌, ◌≤◌, Bool, List, ℤ, ap, sym, ◌∙◌, arith}
use mir.Syntax.{w128}
use Rattle.std.proofs.lemmas.Int.{to_z-of_z}
use Rattle.bit_addressing_memory.specs.Memory.{memory, piece, read_by}
use Rattle.bit_addressing_memory.proofs.MemoryLemmas.{piece_piece}
use Rattle.bit_table_fields.specs.Windows.{number_held}
use Rattle.bit_table_layout.specs.declared.layout.Rule.{Rule}
use Rattle.bit_table_script.proofs.marks.number_in.Goals as goal

-- the number in a piece of bits that are a piece of others, read among these
number_there : (own rule : Rule) (signed : Bool) (bits held : List Bool) (head len place n : ℕ) (number : ℤ)
    → own ≡ rule → held ≡ piece bits head len → place + n ≤ len
    → number ≡ number_held rule signed n (piece bits (head + place) n)
    → number ≡ number_held own signed n (piece held place n)
number_there own rule signed bits held head len place n number same is inside read =
    read
    ∙ ap (λ r. number_held r signed n (piece bits (head + place) n)) (sym same)
    ∙ ap (number_held own signed n) (sym (ap (λ xs. piece xs place n) is ∙ piece_piece bits head len place n inside))

pub returns-in-Low : goal.returns-in-Low
returns-in-Low g c =
    to_z-of_z w128 c.load_low_at.result (record { sfits = c.load_low_at.type_inv })
    ∙ number_there c.args.column.rule _ c.args.column.signed
    (memory (read_by g.T.BitRegister g.O.Positions.position) c.parts-head.result.0.now) _ c.parts-head.result.1
    c.parts-head.result.2 c.args.place c.args.column.digits _ c.in-Low.is c.parts-head.ensures.bits
    (omega (arith, c.requires.within, c.parts-head.ensures.len)) c.load_low_at.ensures.value

pub returns-in-High : goal.returns-in-High
returns-in-High g c =
    to_z-of_z w128 c.load_high_at.result (record { sfits = c.load_high_at.type_inv })
    ∙ number_there c.args.column.rule _ c.args.column.signed
    (memory (read_by g.T.BitRegister g.O.Positions.position) c.parts-head.result.0.now) _ c.parts-head.result.1
    c.parts-head.result.2 c.args.place c.args.column.digits _ c.in-High.is c.parts-head.ensures.bits
    (omega (arith, c.requires.within, c.parts-head.ensures.len)) c.load_high_at.ensures.value
