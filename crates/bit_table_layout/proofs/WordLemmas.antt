-- The words of a line, from the front.
use Rattle.std.proofs.Common.{◌≡◌, ℕ, suc, ◌+◌, ◌-◌, ◌<◌, ◌≤◌, not, Bool, true, false, List, [], ◌∷◌, length, take}
use Rattle.std.proofs.Common.{drop, get_or, filter, Option, Some, None, arith, refl, sym, ap, ◌∙◌, inl, inr, subst}
use Rattle.std.specs.List.{slice_split, onto_first, position_or_len}
use Rattle.std.specs.Option.{unwrap_or}
use Rattle.std.proofs.lemmas.List.{length-take, drop_more, drop_all}
use Rattle.std.proofs.lemmas.List.Sums.{prefix_len-le-length, passes_at_first}
use Rattle.std.proofs.lemmas.Bool.{cases_Bool, cond-true, not-true}
use Rattle.std.proofs.lemmas.Bool.Decides.{nat_tests}
use Rattle.std.proofs.lemmas.List.Splits.{slice_split-cons_yes, slice_split-cons_no}
use Rattle.bit_table_layout.proofs.PlaceLemmas.{position-hit, position-miss, position_in, position_in-None}
use Rattle.bit_table_layout.proofs.PlaceLemmas.{position_in-Some, position_in-unwrap}
use Rattle.bit_table_layout.proofs.PlaceLemmas.{whole_rest}
use Rattle.bit_table_layout.specs.LineWords.{is_separator, has_bytes, words}

-- whether a byte belongs to a word
abbrev pub is_word_byte : ℕ → Bool
is_word_byte b = not (is_separator b)

words-separator : (b : ℕ) (line : List ℕ) → is_separator b ≡ true → words (b ∷ line) ≡ words line
words-separator b line is = ap (filter has_bytes) (slice_split-cons_yes is_separator b line is)

-- separators at the front count for nothing
pub words-skip : (line : List ℕ) → words line ≡ words (drop (position_or_len is_word_byte line) line)
words-skip [] = refl
words-skip (b ∷ line) =
    elim (cases_Bool (is_separator b)) [
      | inl is ↦
          let at : position_or_len is_word_byte (b ∷ line) ≡ suc (position_or_len is_word_byte line) =
          position-miss is_word_byte b line (ap not is) in
          words-separator b line is ∙ words-skip line ∙ ap (λ k. words (drop k (b ∷ line))) (sym at)
      | inr not' ↦
          let at : position_or_len is_word_byte (b ∷ line) ≡ 0 = position-hit is_word_byte b line (ap not not') in
          ap (λ k. words (drop k (b ∷ line))) (sym at)
    ]

-- the parts behind the first part have the words behind the first part
record PartsBehind (line : List ℕ) : Type 0 where
  behind : List (List ℕ)
  split : slice_split is_separator line ≡ take (position_or_len is_separator line) line ∷ behind
  words_of : filter has_bytes behind ≡ words (drop (position_or_len is_separator line) line)

parts_behind : (line : List ℕ) → PartsBehind line
parts_behind [] = record { behind = []; split = refl; words_of = refl }
parts_behind (b ∷ line) =
    let more = parts_behind line in
    elim (cases_Bool (is_separator b)) [
      | inl is ↦
          let at : position_or_len is_separator (b ∷ line) ≡ 0 = position-hit is_separator b line is in
          record {
            behind = slice_split is_separator line;
            split =
                slice_split-cons_yes is_separator b line is
                ∙ ap (λ k. take k (b ∷ line) ∷ slice_split is_separator line) (sym at);
            words_of = sym (words-separator b line is) ∙ ap (λ k. words (drop k (b ∷ line))) (sym at);
          }
      | inr not' ↦
          let at : position_or_len is_separator (b ∷ line) ≡ suc (position_or_len is_separator line) =
          position-miss is_separator b line not' in
          record {
            behind = more.behind;
            split =
                slice_split-cons_no is_separator b line not' ∙ ap (onto_first b) more.split
                ∙ ap (λ k. take k (b ∷ line) ∷ more.behind) (sym at);
            words_of = more.words_of ∙ ap (λ k. words (drop k (b ∷ line))) (sym at);
          }
    ]

has_bytes-take : (line : List ℕ) (n : ℕ) → 0 < n → n ≤ length line → has_bytes (take n line) ≡ true
has_bytes-take line n some within =
    let long = length-take n line in
    grind (arith, nat_tests)

-- where the first byte belongs to a word, that word ends at the first separator
pub words-front : (line : List ℕ) → 0 < position_or_len is_separator line
    → words line
    ≡ take (position_or_len is_separator line) line ∷ words (drop (position_or_len is_separator line) line)
words-front line some =
    let parts = parts_behind line in
    let first = take (position_or_len is_separator line) line in
    let full : has_bytes first ≡ true =
    has_bytes-take line (position_or_len is_separator line) some
    (prefix_len-le-length (λ b. not (is_separator b)) line) in
    ap (filter has_bytes) parts.split ∙ cond-true (has_bytes first) _ _ full ∙ ap (λ ws. first ∷ ws) parts.words_of

-- a line without a byte of a word has no words
pub words-none : (line : List ℕ) (found : Option ℕ) → found ≡ position_in is_word_byte line → found ≡ None
    → words line ≡ []
words-none line found is none =
    let past = position_in-None is_word_byte line (sym is ∙ none) in
    let empty : drop (position_or_len is_word_byte line) line ≡ [] =
    drop_all (position_or_len is_word_byte line) line past in
    words-skip line ∙ ap words empty

-- a word has a byte
word_begins : (line : List ℕ) (start : ℕ) → start ≡ position_or_len is_word_byte line → start < length line
    → 0 < position_or_len is_separator (drop start line)
word_begins line start is lt =
    let first = get_or line start 0 in
    let passes : is_word_byte (get_or line (position_or_len is_word_byte line) 0) ≡ true =
    passes_at_first is_word_byte line 0 (omega arith) in
    let in_word : is_separator first ≡ false =
    not-true (is_separator first) (ap (λ k. is_word_byte (get_or line k 0)) is ∙ passes) in
    let parts : drop start line ≡ first ∷ drop (start + 1) line = drop_more line start 0 lt in
    let miss = position-miss is_separator first (drop (start + 1) line) in_word in
    subst (λ xs. 0 < position_or_len is_separator xs) (sym parts) (omega arith)

-- the first word begins at the first byte of a word, and ends at the next separator
pub words-next : (line from : List ℕ) (found ended : Option ℕ) (start end : ℕ)
    → found ≡ position_in is_word_byte line → found ≡ Some start → from ≡ take (length line - start) (drop start line)
    → ended ≡ position_in is_separator from → end ≡ unwrap_or ended (length from)
    → words line ≡ take end from ∷ words (take (length from - end) (drop end from))
words-next line from found ended start end is some is_from is_ended is_end =
    let at = position_in-Some is_word_byte line start (sym is ∙ some) in
    let rest : from ≡ drop start line = is_from ∙ whole_rest line start in
    let ends : end ≡ position_or_len is_separator from =
    is_end ∙ ap (λ o. unwrap_or o (length from)) is_ended ∙ position_in-unwrap is_separator from in
    let some_byte : 0 < position_or_len is_separator from =
    subst (λ xs. 0 < position_or_len is_separator xs) (sym rest) (word_begins line start at.0 at.1) in
    let skipped : words line ≡ words from =
    words-skip line ∙ ap (λ k. words (drop k line)) (sym at.0) ∙ ap words (sym rest) in
    skipped ∙ words-front from some_byte ∙ ap (λ k. take k from ∷ words (drop k from)) (sym ends)
    ∙ ap (λ xs. take end from ∷ words xs) (sym (whole_rest from end))

-- fewer words are left behind the first
pub fewer-behind : (line rest : List (List ℕ)) (first : List ℕ) → line ≡ first ∷ rest → length rest < length line
fewer-behind line rest first is =
    let long = ap length is in
    omega arith
