-- One command more: `lists_more`, `replies_more`.
use Rattle.std.proofs.Common.{◌≡◌, ◌++◌, Bool, List, [], ◌∷◌, refl, ap}
use Rattle.bit_slice.specs.Commands.{list_after, lists_after, replies_to, reply_to}
use Rattle.bit_slice.specs.declared.command.WindowCommand.{WindowCommand}

-- the list after one command more
pub lists_more : {W : Type 0} (bits_of : W → List Bool) (commands : List (WindowCommand W))
    (next : WindowCommand W) (bits : List Bool)
    → lists_after bits_of (commands ++ next ∷ []) bits ≡ list_after bits_of next (lists_after bits_of commands bits)
unfolding lists_after
lists_more bits_of [] next bits = refl
lists_more bits_of (command ∷ rest) next bits = lists_more bits_of rest next (list_after bits_of command bits)

-- and the replies
pub replies_more : {W : Type 0} (bits_of : W → List Bool) (commands : List (WindowCommand W))
    (next : WindowCommand W) (bits : List Bool)
    → replies_to bits_of (commands ++ next ∷ []) bits
    ≡ replies_to bits_of commands bits ++ reply_to bits_of next (lists_after bits_of commands bits) ∷ []
unfolding lists_after replies_to
replies_more bits_of [] next bits = refl
replies_more bits_of (command ∷ rest) next bits =
    ap (λ replies. reply_to bits_of command bits ∷ replies)
    (replies_more bits_of rest next (list_after bits_of command bits))
