-- For callers of vectors: how long a list may be, where it begins (`vec_short`, `vec_inside`); what room there is
-- (`room_holds`), behind bits that came (`room_left`), and where the frame stayed, as at each write of the list
-- (`room_framed`).
use Rattle.std.proofs.Common.{◌≡◌, ℕ, ◌+◌, ◌-◌, ◌*◌, ◌<◌, ◌≤◌, ◌++◌, Bool, List, length, length-append, drop, arith, ap}
use Rattle.std.proofs.Math.Nat.{mul-le-mul_right}
use Rattle.std.proofs.lemmas.List.{length-take}
use Rattle.bit_addressing_span.specs.declared.span.TheConstants.{MAX_BITS}
use Rattle.bit_addressing_memory.specs.declared.BitRegister.{Ghosts}
use Rattle.bit_addressing_memory.specs.Memory.{Reading, memory, piece, read_by}
use Rattle.bit_slice_views_mut.specs.Frame.{Frame}
use Rattle.bit_containers_vector.specs.Vector.{vec_bits, vec_head, vec_frame, room, HasRoomFor}
use Rattle.bit_containers_vector.specs.declared.vector.BitVec.{BitVec}

-- a vector has at most so many bits
pub vec_short : {T O : Type 0} {g : _} (reading : Reading T) (v : BitVec T O g) → length (vec_bits reading v) ≤ MAX_BITS
unfolding piece
vec_short reading v = omega (arith, v.short, length-take v.len (drop v.head (memory reading v.words.items)))

-- it begins inside its first word
pub vec_inside : {T O : Type 0} {g : Ghosts T} (v : BitVec T O g) → vec_head v < g.BITS
vec_inside v = v.inside

-- and has room for its own bits
pub room_holds : {T O : Type 0} {g : Ghosts T} (position : ℕ → ℕ) (v : BitVec T O g)
    → HasRoomFor (read_by g position) v 0
unfolding piece
room_holds {g} position v =
    let words : length v.words.items * g.BITS ≤ v.words.cap * g.BITS =
    mul-le-mul_right g.BITS (omega (arith, v.words.ok.0, v.words.ok.1)) in
    omega (arith, words, v.fits, length-take v.len (drop v.head (memory (read_by g position) v.words.items)))

-- where bits came behind within the room, the rest of it is left
pub room_left : {T O : Type 0} {g : _} (reading : Reading T) (old new : BitVec T O g) (xs : List Bool) (more : ℕ)
    → HasRoomFor reading old (length xs + more) → vec_bits reading new ≡ vec_bits reading old ++ xs
    → room reading old ≤ room reading new → HasRoomFor reading new more
room_left reading old new xs more enough bits grown =
    omega (arith, enough, ap length bits, length-append (vec_bits reading old) xs, grown)

-- a call that keeps the frame leaves the room
pub room_framed : {T O : Type 0} {g : _} (reading : Reading T) (old new : BitVec T O g)
    → vec_frame reading new ≡ vec_frame reading old → room reading new ≡ room reading old
room_framed reading old new same = ap (λ (f : Frame ℕ). f.lender * reading.bits - f.place) same
