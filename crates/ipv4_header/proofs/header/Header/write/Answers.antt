use Rattle.std.proofs.Common.{◌≡◌, ℕ, ◌+◌, ◌++◌, length, take, drop, ap, ◌∙◌, rules}
use Rattle.std.proofs.lemmas.List.{drop-drop}
use Rattle.bit_slice.specs.Memory.{memory}
use Rattle.bit_slice.specs.Network.{network}
use Rattle.bit_slice.proofs.MemoryLemmas.{memory-append}
use Rattle.ipv4_header.proofs.HeaderLemmas.{front_written, rest_written}
use Rattle.ipv4_header.proofs.header.Header.write.Goals as goal

pub returns-clause-written : goal.returns-clause-written
returns-clause-written c =
    let options = c.args.self.now.options.now in
    let fields = c.write_fields.new.bytes in
    let rest = drop (length options) c.split_at_mut-front.result.1.now in
    let size : length fields ≡ 20 = c.write_fields.ensures.len ∙ c.split_at_mut-front.ensures.front_len in
    let bits =
    ap (λ xs. memory network (take (20 + length options) (fields ++ (xs ++ rest)))) c.copy_from_slice.ensures.after
    ∙ ap (memory network) (front_written fields options rest size)
    ∙ memory-append network fields options
    ∙ ap (λ xs. xs ++ memory network options) c.write_fields.ensures.bits in
    record { fits = search rules; bits = bits }

pub returns-clause-behind : goal.returns-clause-behind
returns-clause-behind c =
    let options = c.args.self.now.options.now in
    let fields = c.write_fields.new.bytes in
    let k : ℕ = length options in
    let rest = drop k c.split_at_mut-front.result.1.now in
    let size : length fields ≡ 20 = c.write_fields.ensures.len ∙ c.split_at_mut-front.ensures.front_len in
    ap (λ xs. drop (20 + k) (fields ++ (xs ++ rest))) c.copy_from_slice.ensures.after
    ∙ rest_written fields options rest size
    ∙ ap (drop k) c.split_at_mut-front.ensures.back
    ∙ drop-drop k 20 c.args.bytes.now
