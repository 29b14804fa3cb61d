use Rattle.bit_table_fields.proofs.numbers.load_number.Goals as goal

pub returns-in-Low-clause-steps : goal.returns-in-Low-clause-steps
returns-in-Low-clause-steps g c =
    rw (c.in-Low.is, ← c.as_bitslice.ensures.head, ← c.part-held.ensures.head, ← c.part-held.ensures.len) c.load_low.ensures.steps

pub returns-in-High-clause-steps : goal.returns-in-High-clause-steps
returns-in-High-clause-steps g c =
    rw (c.in-High.is, ← c.as_bitslice.ensures.head, ← c.part-held.ensures.head, ← c.part-held.ensures.len) c.load_high.ensures.steps
