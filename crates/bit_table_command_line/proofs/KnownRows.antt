-- Known command lines, which pin the definitions.
use Rattle.std.proofs.Common.{◌≡◌, List, [], ◌∷◌, Some, map, codes, refl}
use Rattle.std.specs.Borrow.{Bor}
use Rattle.clap.specs.Walk.{Text, first_of}
use Rattle.clap.specs.Simple.{matches_of}
use Rattle.clap.proofs.OnLiterals.{clap_on_literals}
use Rattle.bit_table_layout.specs.declared.storage.Word.{Word}
use Rattle.bit_table_layout.specs.declared.storage.Word.TheVariants.{U8, U16, U32, U64, U128}
use Rattle.bit_table_layout.specs.declared.storage.Order.{Order}
use Rattle.bit_table_layout.specs.declared.storage.Order.TheVariants.{Lsb0, Msb0, HiLo}
use Rattle.bit_table_command_line.specs.Storages.{word_names, order_names, word_of, order_of}
use Rattle.bit_table_command_line.specs.Options.{program}

-- each name, and what it names; a name of another type is none
words-named : word_names ≡ codes "u8" ∷ codes "u16" ∷ codes "u32" ∷ codes "u64" ∷ codes "u128" ∷ []
words-named = refl

words-are : map (λ name. word_of (Some name)) word_names ≡ U8 ∷ U16 ∷ U32 ∷ U64 ∷ U128 ∷ []
words-are = refl

orders-named : order_names ≡ codes "lsb0" ∷ codes "msb0" ∷ codes "hilo" ∷ []
orders-named = refl

orders-are : map (λ name. order_of (Some name)) order_names ≡ Lsb0 ∷ Msb0 ∷ HiLo ∷ []
orders-are = refl

module _ (words orders : Bor (List (Bor Text))) where
  word_in : List Text → Word
  word_in line = word_of (first_of (codes "word") (matches_of (program words orders) line))

  order_in : List Text → Order
  order_in line = order_of (first_of (codes "order") (matches_of (program words orders) line))

  word-none : word_in [] ≡ U64
  unfolding clap_on_literals word_in
  word-none = refl

  order-none : order_in [] ≡ Lsb0
  unfolding clap_on_literals order_in
  order-none = refl

  word-both : word_in (codes "--word" ∷ codes "u8" ∷ codes "--order" ∷ codes "hilo" ∷ []) ≡ U8
  unfolding clap_on_literals word_in
  word-both = refl

  word-u128 : word_in (codes "--order" ∷ codes "msb0" ∷ codes "--word=u128" ∷ []) ≡ U128
  unfolding clap_on_literals word_in
  word-u128 = refl

  order-both : order_in (codes "--word" ∷ codes "u8" ∷ codes "--order" ∷ codes "hilo" ∷ []) ≡ HiLo
  unfolding clap_on_literals order_in
  order-both = refl
