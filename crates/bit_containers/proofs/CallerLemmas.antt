-- For callers of vectors.
--
-- How long a list may be, where it begins, what room there is: the lemmas of the vectors' own crate. What `retain` leaves,
-- where the predicate answers by the index and the bit alone: `kept_by`; by the bit alone: `filter_from_retain` of std.
use Rattle.std.proofs.Common.{◌≡◌, ℕ, ◌+◌, Bool, Bor, List, [], ◌∷◌, length, arith, refl, ap, ap₂, ◌∙◌}
use Rattle.std.specs.Fn.{Mut}
use Rattle.std.specs.List.{items_where_true}
use Rattle.std.specs.List.Retain.{ReturnsInTurn}
use Rattle.bit_slice.specs.Ways.{Asked}
use Rattle.bit_containers.specs.Retained.{Keeps, answers_of}
pub use Rattle.bit_containers_vector.proofs.CallerLemmas.{vec_short, vec_inside, room_holds, room_left}

-- a predicate that answers by the index and the bit alone
module _ {F : Type 0} (g : Mut F (ℕ × (Bor Bool × Unit {0})) Bool) (test : ℕ → Bool → Bool)
    (says : (p : F) (i : ℕ) (bit answer : Bool) (q : F) → Asked g p i bit answer q → answer ≡ test i bit) where
  told : (p last : F × ℕ) (bs xs : List Bool) → length bs ≡ length xs
      → ReturnsInTurn {P = F × ℕ} (λ p bit answer q. Asked g p.0 p.1 bit answer q.0 × (q.1 ≡ p.1 + 1)) p bs xs last
      → bs ≡ answers_of test p.1 xs
  told p last [] [] size calls = refl
  told p last [] (x ∷ xs) size calls = absurd (omega arith)
  told p last (b ∷ bs) [] size calls = absurd calls
  told p last (b ∷ bs) (x ∷ xs) size calls =
      ap₂ (λ y l. y ∷ l) (says p.0 p.1 x b calls.0.0 calls.1.0)
      (told calls.0 last bs xs (omega arith) calls.2 ∙ ap (λ i. answers_of test i xs) calls.1.1)

  -- keeps the bits at which that answer is true
  pub kept_by : (f : F) (xs ys : List Bool) → Keeps g f xs ys → ys ≡ items_where_true (answers_of test 0 xs) xs
  kept_by f xs ys keeps =
      keeps.4 ∙ ap (λ bs. items_where_true bs xs) (told (f, 0) keeps.1 keeps.0 xs keeps.2 keeps.3)
