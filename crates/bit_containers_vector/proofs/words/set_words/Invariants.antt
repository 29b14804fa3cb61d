use Rattle.std.proofs.Common.{◌≡◌, ◌++◌, drop, length, replicate, vec_capacity}
use Rattle.bit_containers_vector.proofs.words.set_words.Given as goal

abbrev pub invariant-loop-i : goal.invariant-loop-i
invariant-loop-i g l = record {
  items : l.words.items ≡ replicate l.i l.word ++ drop l.i l.fn.words.items;
  len : length l.words.items ≡ length l.fn.words.items;
  capacity : vec_capacity l.words ≡ vec_capacity l.fn.words;
}
