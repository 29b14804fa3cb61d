-- What calls on words leave, as lists, for the proofs of this crate. Declares nothing.
pub use Rattle.bit_slice_views.proofs.ListLemmas.{filled_list, inverted_list, reversed_list, copied_list}
pub use Rattle.bit_slice_views.proofs.ListLemmas.{rotated_left_list, shifted_left_list, shifted_right_list}
