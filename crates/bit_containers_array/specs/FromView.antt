-- Why a window is no array, and how that reads.
use Rattle.std.specs.Prelude.{ℕ, ◌≡◌, ◌≢◌, ◌++◌, List, codes}
use Rattle.std.specs.Fmt.{decimal}
use Rattle.bit_containers_array.specs.declared.error.TryFromBitSliceError.{TryFromBitSliceError}
use Rattle.bit_containers_array.specs.declared.error.TryFromBitSliceError.TheVariants.{UnequalLen, Misaligned}

-- the error for a window of n bits where others are wanted: their numbers differ, or else it begins inside a word
abbrev pub IsFirstFault : ℕ → ℕ → TryFromBitSliceError → Type 0
IsFirstFault n wanted (UnequalLen actual expected) = (n ≢ wanted) × (actual ≡ n) × (expected ≡ wanted)
IsFirstFault n wanted Misaligned = n ≡ wanted

-- its plain text
abbrev pub fault_text : TryFromBitSliceError → List ℕ
fault_text (UnequalLen actual expected) =
    codes "bit-slice with length "
    ++ (decimal actual ++ (codes " cannot be viewed as bit-array with length " ++ decimal expected))
fault_text Misaligned =
    codes "a bit-slice must begin at the front edge of a storage element "
    ++ codes "in order to be viewed as a bit-array"

-- its text for those who debug
abbrev pub fault_debug_text : TryFromBitSliceError → List ℕ
fault_debug_text (UnequalLen actual expected) =
    codes "TryFromBitSliceError::UnequalLen("
    ++ (decimal actual ++ (codes " != " ++ (decimal expected ++ codes ")")))
fault_debug_text Misaligned = codes "TryFromBitSliceError::Misaligned"
