-- What stands in the room for an answer.
use Rattle.std.proofs.Common.{ℕ, List, ◌++◌, take, drop, sym, ap, ◌∙◌, append_assoc}
use Rattle.std.proofs.lemmas.List.{take-append-drop}
use Rattle.bit_table_script.specs.Lines.{IsBeginning}
use Rattle.bits_c.specs.Table.{BeginsIn, Fills}

-- a front of a beginning is a beginning
pub front_begins : (old new : List ℕ) (n : ℕ) (whole : List ℕ) (k : ℕ) (text : List ℕ)
    → Fills old new n (take k text) → IsBeginning text whole → BeginsIn old new n whole
front_begins old new n whole k text fills begins = record {
  bytes = take k text;
  fills = fills;
  begins = record {
    rest = drop k text ++ begins.rest;
    joined = begins.joined
        ∙ ap (λ xs. xs ++ begins.rest) (sym (take-append-drop k text))
        ∙ append_assoc (take k text) (drop k text) begins.rest;
  };
}
