use Rattle.std.proofs.Common.{Bool, arith}
use Rattle.std.specs.Bool.{xor}
use Rattle.bit_addressing_memory.specs.Memory.{read_by}
use Rattle.bit_slice_views_mut.proofs.CombinedLemmas.{xor_zero, combined_kept}
use Rattle.bit_slice_views_mut.proofs.paths.xor_path.Goals as goal

pub returns-clause-list : goal.returns-clause-list
returns-clause-list g c =
    let how : Bool → Bool → Bool = xor in
    combined_kept (read_by g.R.BitRegister g.O.Positions.position) c.args.words.now c.xor.new.words c.args.place
    c.args.len (read_by g.R.BitRegister g.O.Positions.position) c.args.others.now c.args.source
    c.args.other_len how (omega (arith, g.met.R.BitRegister.least_bits))
    (omega (arith, g.met.R.BitRegister.least_bits)) c.requires.within c.requires.source_within
    xor_zero _ c.min.ensures c.xor.ensures.combined
