use Rattle.std.proofs.Common.{◌≡◌, ℕ, ◌+◌, ◌-◌, ◌*◌, length, take, drop, get_or, sum, sym, ap, ◌∙◌}
use Rattle.ipv4_header.specs.Checksum.{carried_around, words_of}
use Rattle.ipv4_header.proofs.ChecksumLemmas.{carried-next, words-next}
use Rattle.ipv4_header.proofs.checksum.ones_complement_sum.Goals as goal

pub loop-rest-preserved : goal.loop-rest-preserved
loop-rest-preserved c =
    let so_far = c.loop-rest.sum in
    let rest = c.loop-rest.rest.now in
    let word : ℕ = get_or rest 0 0 * 256 + get_or rest 1 0 in
    let others = words_of (take (length rest - 2) (drop 2 rest)) in
    let added : c.add_carried_around-sum.result ≡ carried_around (so_far + word) =
    c.add_carried_around-sum.ensures ∙ ap (λ k. carried_around (so_far + k)) c.from_be_bytes.ensures in
    record {
      summed = ap (λ k. carried_around (k + sum others)) added
          ∙ carried-next so_far word (sum others)
          ∙ ap (λ k. carried_around (so_far + k)) (sym (words-next rest c.in-len2-up.len_at_least))
          ∙ c.loop-rest.invariant.summed;
      word = c.add_carried_around-sum.type_inv;
    }
