use Rattle.std.proofs.Common.{Bool, arith}
use Rattle.std.specs.Prelude.{◌||◌}
use Rattle.bit_addressing_memory.specs.Memory.{read_by}
use Rattle.bit_slice_views_mut.proofs.CombinedLemmas.{or_zero, combined_kept}
use Rattle.bit_slice_views_mut.proofs.paths.or_path.Goals as goal

pub returns-clause-list : goal.returns-clause-list
returns-clause-list g c =
    let how : Bool → Bool → Bool = (λ (a b : Bool). a || b) in
    combined_kept (read_by g.R.BitRegister g.O.Positions.position) c.args.words.now c.or.new.words c.args.place
    c.args.len (read_by g.R.BitRegister g.O.Positions.position) c.args.others.now c.args.source
    c.args.other_len how (omega (arith, g.met.R.BitRegister.least_bits))
    (omega (arith, g.met.R.BitRegister.least_bits)) c.requires.within c.requires.source_within
    or_zero _ c.min.ensures c.or.ensures.combined
