use Rattle.std.proofs.Common.{◌≡◌, ℕ, ◌+◌, ◌*◌, false, [], ◌∷◌, ◌++◌, map, refl, sym, ap, subst, ◌∙◌, arith}
use Rattle.std.proofs.Output.{has_written_append}
use Rattle.std.proofs.lemmas.List.FromFn.{map-range_with_len_more}
use Rattle.std.specs.Fmt.{HasWritten, digits}
use Rattle.std.specs.List.{range_with_len}
use Rattle.bit_addressing_memory.specs.Memory.{piece}
use Rattle.bit_addressing_span.proofs.TextLemmas.{joined_more, begun_more}
use Rattle.bit_slice_views.specs.Texts.{number_of}
use Rattle.bit_slice_views.proofs.text.write_digits.Goals as goal

-- nothing is written yet
pub loop-j-init : goal.loop-j-init
loop-j-init g c = (refl, λ plain. record { wrote = record { parts = []; calls = refl; whole = refl }; plain = plain })

pub loop-j-preserved : goal.loop-j-preserved
loop-j-preserved g c =
    let one : ℕ → ℕ = λ j. number_of (piece (g.V.Bits.bits c.args.view.now) (j * c.args.size) c.args.size) in
    let xs = map one (range_with_len 0 c.loop-j.j) in
    let n = c.group_at.result in
    let all : map one (range_with_len 0 (c.loop-j.j + 1)) ≡ xs ++ n ∷ [] =
    map-range_with_len_more one 0 c.loop-j.j c.loop-j.j (omega arith)
    ∙ ap (λ m. xs ++ m ∷ []) (sym c.group_at.ensures) in (
      begun_more false xs _ n all,
      λ plain.
          let so_far = c.loop-j.invariant.1 plain in
          let first = c.in_ok-write_between.ensures so_far.plain refl in
          let second = c.in_ok-write_digit.ensures first.plain refl in
          subst (λ bs. HasWritten g.W.Write.write_str_gives c.args.f.now bs c.write_digit.new.f)
          (joined_more (digits 16 c.args.upper) false c.loop-j.begun xs _ n c.loop-j.invariant.0 all)
          (has_written_append _ _ _ _ _ _ (has_written_append _ _ _ _ _ _ so_far first) second),
    )
