use Rattle.std.proofs.Common.{◌≡◌, ℕ, suc, ◌+◌, ◌-◌, ◌<◌, List, [], ◌∷◌, ◌++◌, ◌∙◌, ap, sym, arith, rules, append_assoc}
use Rattle.std.proofs.Output.{has_written_append}
use Rattle.std.specs.Int.{bit_at}
use Rattle.bit_addressing_order.specs.Text.{binary_text}
use Rattle.bit_addressing_order.proofs.text.write_digits.Goals as goal

-- the highest digit that is left comes first
text_step : (done digit : List ℕ) (left n : ℕ) → 0 < left → digit ≡ (48 + bit_at n (left - 1)) ∷ []
    → (done ++ digit) ++ binary_text (left - 1) n ≡ done ++ binary_text left n
text_step done digit left n some e =
    let next : left ≡ suc (left - 1) = omega arith in
    append_assoc done digit (binary_text (left - 1) n)
    ∙ ap (λ d. done ++ (d ++ binary_text (left - 1) n)) e
    ∙ ap (λ k. done ++ binary_text k n) (sym next)

pub digit_text-requires : goal.digit_text-requires
digit_text-requires g c = let most = c.loop-left.invariant.0 in omega arith

pub loop-left-preserved : goal.loop-left-preserved
loop-left-preserved g c =
    let most = c.loop-left.invariant.0 in (
      omega arith,
      λ plain.
          let so_far = c.loop-left.invariant.1 plain in (
            so_far.0 ++ c.digit_text.result.now,
            has_written_append _ _ _ _ _ _ so_far.1 (search rules),
            text_step so_far.0 c.digit_text.result.now c.loop-left.left c.args.value (omega arith) c.digit_text.ensures
                ∙ so_far.2,
          ),
    )
