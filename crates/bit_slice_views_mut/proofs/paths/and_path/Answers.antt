use Rattle.std.proofs.Common.{Bool, arith}
use Rattle.std.specs.Prelude.{◌&&◌}
use Rattle.bit_addressing_memory.specs.Memory.{read_by}
use Rattle.bit_slice_views_mut.proofs.CombinedLemmas.{and_zero, combined_cleared}
use Rattle.bit_slice_views_mut.proofs.paths.and_path.Goals as goal

pub returns-clause-list : goal.returns-clause-list
returns-clause-list g c =
    let how : Bool → Bool → Bool = (λ (a b : Bool). a && b) in
    combined_cleared (read_by g.R.BitRegister g.O.Positions.position) c.args.words.now c.fill_in.new.words c.args.place
    c.args.len (read_by g.R.BitRegister g.O.Positions.position) c.args.others.now c.args.source
    c.args.other_len how (omega (arith, g.met.R.BitRegister.least_bits))
    (omega (arith, g.met.R.BitRegister.least_bits)) c.requires.within c.requires.source_within
    c.and.new.words and_zero _ c.min-shared.ensures c.and.ensures.combined c.fill_in.ensures.filled
