use Rattle.std.proofs.Common.{ap, ap₂, ◌∙◌}
use Rattle.bit_table_layout.specs.Images.{bytes_of}
use Rattle.bit_table_layout.specs.Layouts.{LayoutShape}
use Rattle.bit_table_commands.specs.declared.reply.Reply.TheVariants.{Image}
use Rattle.bit_table_script.proofs.TableLemmas.{bits_are, count_is, layout_is}
use Rattle.bit_table_script.proofs.table.Table.image.Goals as goal

pub returns : goal.returns
returns g c =
    let t = c.self.inside in
    let h = c.self.invariant in
    let made = c.new.ensures ∙ c.in_ok-bytes.ensures ∙ ap (bytes_of t.layout.rule) c.as_bitslice.ensures.bits in
    ap₂ Image (count_is _ t.layout _ _ _ c.self.view_is h.0 h.1 h.2)
    (made ∙ ap₂ (λ (l : LayoutShape) bits. bytes_of l.rule bits) (layout_is _ t.layout _ _ _
    c.self.view_is h.0 h.1 h.2) (bits_are _ t.layout _ _ _ c.self.view_is h.0 h.1 h.2))
