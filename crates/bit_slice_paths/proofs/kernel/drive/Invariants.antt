use Rattle.std.proofs.Common.{◌≡◌, ◌+◌, ◌*◌}
use Rattle.bit_slice_paths.proofs.kernel.drive.Given as goal

abbrev pub invariant-loop-k : goal.invariant-loop-k
invariant-loop-k g l =
    let b = g.R.BitRegister.BITS in
    record {
      room : g.K.Kernel.room l.kernel ≡ g.K.Kernel.room l.fn.kernel;
      done : g.K.Kernel.Done l.fn.kernel l.kernel (l.k * b) (λ i. g.S.WordSource.bit l.source (l.from * b + i));
    }
