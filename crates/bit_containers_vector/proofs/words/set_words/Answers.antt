use Rattle.std.proofs.Common.{ap, arith, ◌∙◌, length-set, set}
use Rattle.bit_containers_vector.proofs.SetLemmas.{set_more}
use Rattle.bit_containers_vector.proofs.words.set_words.Goals as goal

pub loop-i-preserved : goal.loop-i-preserved
loop-i-preserved g c =
    let was = c.loop-i.invariant in
    let words = c.args.words.now in
    record {
      items =
          ap (λ xs. set xs c.loop-i.i c.args.word) was.items
          ∙ set_more words.items c.loop-i.i c.args.word
          (omega (arith, c.loop-i-test.true, c.len-i-end.ensures, words.ok.0));
      len = length-set c.loop-i.words.items c.loop-i.i c.args.word ∙ was.len;
      capacity = was.capacity;
    }
