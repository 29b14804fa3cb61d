-- Why words make no vector of bits.
use Rattle.std.specs.Prelude.{ℕ, ◌≡◌, ⊤}
use Rattle.bit_addressing_span.specs.declared.span_error.BitSpanError.TheVariants.{TooLong}
use Rattle.bit_containers_vector.specs.declared.slice_fault.SliceFault.{SliceFault}
use Rattle.bit_containers_vector.specs.declared.slice_fault.SliceFault.TheVariants.{Span, Memory}

-- where they are too many, the fault tells how many bits they have
abbrev pub IsTooLong : ℕ → SliceFault → Type 0
IsTooLong n (Span error) = error ≡ TooLong n
IsTooLong n Memory = ⊤
