-- Known lines, which pin the definitions.
use Rattle.std.proofs.Common.{◌≡◌, [], ◌∷◌, codes, refl}
use Rattle.bit_table_lines.specs.Lines.{lines, whole_lines}

lines-open : lines (codes "a\nb") ≡ codes "a" ∷ codes "b" ∷ []
lines-open = refl

lines-closed : lines (codes "a\r\n\n") ≡ codes "a\r" ∷ [] ∷ [] ∷ []
lines-closed = refl

lines-none : lines [] ≡ [] ∷ []
lines-none = refl

whole_lines-open : whole_lines (codes "a\nb") ≡ codes "a" ∷ []
whole_lines-open = refl

whole_lines-closed : whole_lines (codes "a\n\n") ≡ codes "a" ∷ [] ∷ []
whole_lines-closed = refl

whole_lines-none : whole_lines (codes "a") ≡ []
whole_lines-none = refl
