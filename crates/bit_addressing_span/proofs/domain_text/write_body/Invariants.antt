use Rattle.std.proofs.Common.{◌≡◌, ◌≤◌, map, take}
use Rattle.std.specs.Fmt.{HasWritten, IsPlainFormatter}
use Rattle.bit_addressing_span.specs.Form.{form_text}
use Rattle.bit_addressing_span.specs.Texts.{joined_text, begun_after}
use Rattle.bit_addressing_span.proofs.domain_text.write_body.Given as goal

-- the words so far are written
abbrev pub invariant-loop-word : goal.invariant-loop-word
invariant-loop-word g l =
    (l.begun ≡ begun_after l.initial.begun (map g.R.BitRegister.number (take l.word-index l.body)))
    × (g.R.BitRegister.BITS ≤ 64 → IsPlainFormatter l.initial.f → HasWritten g.W.Write.write_str_gives l.initial.f
    (joined_text (form_text l.form) l.initial.begun (map g.R.BitRegister.number (take l.word-index l.body))) l.f)
