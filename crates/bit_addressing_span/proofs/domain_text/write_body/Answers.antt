use Rattle.std.proofs.Common.{◌≡◌, ℕ, ◌+◌, ◌<◌, [], ◌∷◌, ◌++◌, length, map, take, refl, sym, ap, subst, ◌∙◌, arith}
use Rattle.std.proofs.Output.{has_written_append}
use Rattle.std.proofs.lemmas.List.{take_more, map-append}
use Rattle.std.specs.Fmt.{HasWritten}
use Rattle.bit_addressing_span.specs.Form.{form_text}
use Rattle.bit_addressing_span.proofs.TextLemmas.{joined_more, begun_more}
use Rattle.bit_addressing_span.proofs.domain_text.write_body.Goals as goal

pub loop-word-preserved : goal.loop-word-preserved
loop-word-preserved g c =
    let number = g.R.BitRegister.number in
    let took = g.W.Write.write_str_gives in
    let xs = c.args.body.now in
    let i : ℕ = c.loop-word.word-index in
    let x = c.word-item.result in
    let within : i < length xs = omega (arith, c.loop-word-test.true) in
    let more : take (i + 1) xs ≡ take i xs ++ (x ∷ []) =
    take_more xs i x within ∙ ap (λ y. take i xs ++ (y ∷ [])) (sym c.word-item.is) in
    let all : map number (take (i + 1) xs) ≡ map number (take i xs) ++ (number x ∷ []) =
    ap (map number) more ∙ map-append number (take i xs) (x ∷ []) in (
      begun_more c.args.begun _ _ (number x) all,
      λ short plain.
          let so_far = c.loop-word.invariant.1 short plain in
          let first = c.in_ok-write_between.ensures so_far.plain refl in
          let second = c.in_ok-write_word.ensures short first.plain refl in
          subst (λ bs. HasWritten took c.args.f.now bs c.write_word.new.f)
          (joined_more (form_text c.args.form) c.args.begun c.loop-word.begun _ _ (number x)
          c.loop-word.invariant.0 all)
          (has_written_append _ _ _ _ _ _ (has_written_append _ _ _ _ _ _ so_far first) second),
    )
