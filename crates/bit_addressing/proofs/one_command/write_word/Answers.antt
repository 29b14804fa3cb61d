use Rattle.std.proofs.Common.{arith, rules, ◌<◌}
use Rattle.std.proofs.lemmas.Bool.Decides.{nat_tests}
use Rattle.bit_addressing_span.specs.DomainMut.{domain_span, domain_words}
use Rattle.bit_addressing_memory.specs.Memory.{read_by, touched}
use Rattle.bit_addressing.specs.declared.one_command.WordEdit.TheVariants.{Value, Ones, Zeros, Inverted}
use Rattle.bit_addressing.proofs.WordCommandLemmas.{carried_edit, lies_word}
use Rattle.bit_addressing.proofs.CommandLemmas.{carried_as, refused}
use Rattle.bit_addressing.proofs.one_command.write_word.Goals as goal
use Rattle.bit_addressing.proofs.one_command.write_word.Goals.{in-Value, in-Ones, in-Zeros, in-Inverted}

pub returns-then-k-len : goal.returns-then-k-len
returns-then-k-len g c =
    let d = c.domain_mut-words.result in
    let lent = c.domain_mut-words.ensures in
    record {
      carried =
          carried_as (read_by g.R.BitRegister g.O.Positions.position) (domain_words d) _
          (domain_words d) _ (domain_span d) _ _ _ lent.words (search rules) lent.span
          (refused _ _ _ _ d.index d.fits
          (grind (
            arith,
            nat_tests,
            c.len.ensures,
            lies_word g.R.BitRegister.BITS (domain_span d).head (domain_span d).len c.args.k c.args.edit,
          )));
    }

pub returns : goal.returns
returns g c =
    let d = c.domain_mut-words.result in
    let lent = c.domain_mut-words.ensures in
    let low : c.args.k < touched g.R.BitRegister.BITS (domain_span d).head (domain_span d).len =
    omega (arith, c.len.ensures) in
    let reading = read_by g.R.BitRegister g.O.Positions.position in
    let done = carried_as reading (domain_words d) _ in
    let edited = carried_edit reading (domain_words d) in
    record {
      carried = elim c.match-edit.branch [
        | in-Value w ↦
            done (domain_words w.store_value.new.self) _ (domain_span d) _ _ _ lent.words (search rules) lent.span
            (rw (w.in-Value.is, w.result-is) (edited _ _ c.args.k _ (Value w.in-Value.word) d.index d.fits low
            w.store_value.ensures.was w.store_value.ensures.now))
        | in-Ones w ↦
            done (domain_words w.set.new.self) _ (domain_span d) _ _ _ lent.words (search rules) lent.span
            (rw (w.in-Ones.is, w.result-is) (edited _ _ c.args.k _ Ones d.index d.fits low w.set.ensures.was
            w.set.ensures.now))
        | in-Zeros w ↦
            done (domain_words w.clear.new.self) _ (domain_span d) _ _ _ lent.words (search rules) lent.span
            (rw (w.in-Zeros.is, w.result-is) (edited _ _ c.args.k _ Zeros d.index d.fits low w.clear.ensures.was
            w.clear.ensures.now))
        | in-Inverted w ↦
            done (domain_words w.invert.new.self) _ (domain_span d) _ _ _ lent.words (search rules) lent.span
            (rw (w.in-Inverted.is, w.result-is) (edited _ _ c.args.k _ Inverted d.index d.fits low
            w.invert.ensures.was w.invert.ensures.now))
      ];
    }
