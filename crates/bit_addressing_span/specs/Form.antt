-- The forms in which numbers are written. No public clause cites this module.
use Rattle.std.specs.Prelude.{ℕ, true, false, List}
use Rattle.std.specs.Fmt.{digits}
use Rattle.bit_addressing_span.specs.declared.domain_text.Form.{Form}
use Rattle.bit_addressing_span.specs.declared.domain_text.Form.TheVariants.{Binary, Octal, LowerHex, UpperHex}

-- a number in a form
abbrev pub form_text : Form → ℕ → List ℕ
form_text Binary n = digits 2 false n
form_text Octal n = digits 8 false n
form_text LowerHex n = digits 16 false n
form_text UpperHex n = digits 16 true n
