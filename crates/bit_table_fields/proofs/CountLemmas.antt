-- How many word steps the numbers of rows take.
--
-- Of one number: `takes_within`, by `touched_few`; `takes_words`. Of a row, one field after another: `takes_field`.
use Rattle.std.proofs.Common.{◌≡◌, ℕ, zero, suc, ◌+◌, ◌*◌, ◌/◌, ◌<◌, ◌≤◌, Bool, true, false, arith, refl, add-mul}
use Rattle.std.proofs.Common.{mul-le-mul_right}
use Rattle.std.proofs.lemmas.Nat.{div-add-mod', div_below, mod_below}
use Rattle.bit_addressing_memory.specs.Memory.{touched}
use Rattle.bit_addressing_memory.proofs.TransferLemmas.{touched_last, in_order}
use Rattle.bit_slice_words.specs.Steps.{Takes}
use Rattle.bit_table_fields.specs.Windows.{most_for}

-- n bits touch no more words than they are
touched_few : (b place n : ℕ) → 0 < b → touched b place n ≤ n
touched_few b place zero some = omega arith
touched_few b place (suc n) some =
    let y = place / b in
    let split : (y + (n + 1)) * b ≡ y * b + (n + 1) * b = add-mul y (n + 1) b in
    let more : (n + 1) * b ≡ n * b + 1 * b = add-mul n 1 b in
    let many : n * 1 ≤ n * b = omega (arith, mul-le-mul_right n some) in
    let below : (place + n) / b < y + (n + 1) =
    div_below (place + n) b (y + (n + 1)) some (omega (
      arith,
      split,
      more,
      many,
      div-add-mod' place b,
      mod_below place b some,
    )) in
    omega (arith, below)

-- a number takes no more steps than it has bits
pub takes_within : (old new b place n : ℕ) (by_words : Bool) → 0 < b → Takes old new 1 (most_for by_words b place n)
    → Takes old new 1 n
takes_within old new b place n true some took = record {
  at_least = took.at_least;
  at_most = omega (arith, took.at_most, touched_few b place n some);
}
takes_within old new b place n false some took = took

-- a step for each word that a number touches, of one bit at least
pub takes_words : (old new words b place n : ℕ) → 0 < b → 1 ≤ n → words ≡ touched b place n
    → Takes old new words words → Takes old new 1 (touched b place n)
takes_words old new words b place n some any is took =
    let least : 1 ≤ touched b place n =
    omega (arith, touched_last b b place n refl any, in_order b place n some any) in
    let a = took.at_least in
    let c = took.at_most in
    record { at_least = omega arith; at_most = omega arith }

-- one field more
pub takes_field : (old now new i sum more b place n : ℕ) (by_words : Bool) → 0 < b → more ≡ sum + n
    → Takes old now i sum → Takes now new 1 (most_for by_words b place n) → Takes old new (i + 1) more
takes_field old now new i sum more b place n by_words some is had took =
    let next = takes_within now new b place n by_words some took in
    let a = had.at_least in
    let c = had.at_most in
    let d = next.at_least in
    let e = next.at_most in
    record { at_least = omega arith; at_most = omega arith }
