-- How far two stretches are the same, chunk by chunk.
use Rattle.bit_addressing_memory.proofs.Common.{◌≡◌, ℕ, ◌+◌, ◌==◌, ◌<◌, ◌≤◌, ◌↔◌, IsTrue, List, min, refl, sym, ◌∙◌}
use Rattle.bit_addressing_memory.proofs.Common.{inl, inr, arith, cases_lt, eqb-true, eq-eqb, Reading}
use Rattle.bit_addressing_memory.specs.declared.direction.Direction.{Direction}
use Rattle.bit_slice_chunks.specs.Chunk.{IsChunk, AgreeTo}
use Rattle.bit_slice_paths.specs.Agrees.{Agrees, AreSame, Matches}
use Rattle.bit_slice_paths.proofs.WalkLemmas.{equal_more}

-- the first bit in which the chunks of two memories differ, among the first n
pub agrees_chunk : {R Q : Type 0} (reading : Reading R) (its : Reading Q) (words : List R) (others : List Q)
    (place other_place n : ℕ) (direction : Direction) (x y at r : ℕ) → n ≤ 64
    → IsChunk reading words place n direction x → IsChunk its others other_place n direction y
    → AgreeTo direction x y at → r ≡ min at n → Agrees reading words place its others other_place n r
agrees_chunk reading its words others place other_place n direction x y at r few mine theirs agree least = record {
  most = omega arith;
  same = λ k low.
      sym (mine.inside k (omega arith))
      ∙ agree.same k (omega arith)
      ∙ theirs.inside k (omega arith);
  differ = λ low same.
      let is : r ≡ at = omega arith in
      agree.differ (omega arith) (
      rw is at (mine.inside r low ∙ same ∙ sym (theirs.inside r low))
      );
}

-- stretches that are the same for n bits, and how far the m bits behind them are
pub agrees_more : {R Q : Type 0} (reading : Reading R) (its : Reading Q) (words : List R) (others : List Q)
    (place other_place n m all at : ℕ) → n + m ≤ all → (n + at < all → at < m)
    → AreSame reading words place its others other_place n
    → Agrees reading words (place + n) its others (other_place + n) m at
    → Agrees reading words place its others other_place all (n + at)
agrees_more reading its words others place other_place n m all at inside behind had more =
    let here : place + n + at ≡ place + (n + at) = omega arith in
    let there : other_place + n + at ≡ other_place + (n + at) = omega arith in
    record {
      most = omega (arith, more.most);
      same = λ k low. equal_more reading its words others place other_place n at (n + at) refl had more.same k low;
      differ = λ low same. more.differ (behind low) (rw (here, there) same);
    }

-- stretches that are the same throughout
pub agrees_all : {R Q : Type 0} (reading : Reading R) (its : Reading Q) (words : List R) (others : List Q)
    (place other_place n : ℕ)
    → AreSame reading words place its others other_place n
    → Agrees reading words place its others other_place n n
agrees_all reading its words others place other_place n same = record {
  most = omega arith;
  same = same;
  differ = λ low. absurd (omega arith);
}

-- stretches that differ among the first n bits, or are not longer
pub agrees_near : {R Q : Type 0} (reading : Reading R) (its : Reading Q) (words : List R) (others : List Q)
    (place other_place n all at : ℕ) → n ≤ all → (at < all → at < n)
    → Agrees reading words place its others other_place n at → Agrees reading words place its others other_place all at
agrees_near reading its words others place other_place n all at inside near agree = record {
  most = omega (arith, agree.most);
  same = agree.same;
  differ = λ low. agree.differ (near low);
}

-- and what matches of them
pub matches_near : {R Q : Type 0} (reading : Reading R) (its : Reading Q) (words : List R) (others : List Q)
    (place other_place n all at : ℕ) → n ≤ all → (at < all → at < n)
    → Agrees reading words place its others other_place n at → Matches reading words place its others other_place all at
matches_near reading its words others place other_place n all at inside near agree = record {
  most = omega (arith, agree.most);
  same = agree.same;
  differ = λ low same. agree.differ (near low) (same at low);
}

-- stretches that are the same for n bits, and how many of the m bits behind them are
pub matches_more : {R Q : Type 0} (reading : Reading R) (its : Reading Q) (words : List R) (others : List Q)
    (place other_place n m all done : ℕ) → n + m ≡ all
    → AreSame reading words place its others other_place n
    → Matches reading words (place + n) its others (other_place + n) m done
    → Matches reading words place its others other_place all (n + done)
matches_more reading its words others place other_place n m all done sum had more = record {
  most = omega (arith, more.most);
  same = λ k low. equal_more reading its words others place other_place n done (n + done) refl had more.same k low;
  differ = λ low same. more.differ (omega arith) (λ k small.
      let here : place + n + k ≡ place + (n + k) = omega arith in
      let there : other_place + n + k ≡ other_place + (n + k) = omega arith in
      rw (here, there) (same (n + k) (omega arith)));
}

-- all bits match exactly if they are the same throughout
pub matches_test : {R Q : Type 0} (reading : Reading R) (its : Reading Q) (words : List R) (others : List Q)
    (place other_place n done : ℕ) → Matches reading words place its others other_place n done
    → IsTrue (done == n) ↔ AreSame reading words place its others other_place n
matches_test reading its words others place other_place n done matches = (
  λ yes k low. matches.same k (omega (arith, eqb-true done n yes)),
  λ same. eq-eqb done n (elim (cases_lt done n) [
    | inl low ↦ absurd (matches.differ low same)
    | inr high ↦ omega (arith, matches.most)
  ]),
)
