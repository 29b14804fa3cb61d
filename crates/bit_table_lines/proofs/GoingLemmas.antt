-- A run goes on by a byte, ends, or is cut short.
use Rattle.std.proofs.Common.{◌≡◌, ℕ, ◌==◌, Bool, true, false, List, [], ◌∷◌, ◌++◌, Option, refl, sym, ap, ◌∙◌}
use Rattle.std.proofs.Common.{append_assoc, append-nil, length-append, subst, arith, rules}
use Rattle.std.specs.Io.KnownBytes.{Appends, Keeps}
use Rattle.std.proofs.KnownBytes.{Appends-nil, Appends-trans, Appends-kept}
use Rattle.bit_table_lines.specs.Lines.{IsBeginning, lines, whole_lines}
use Rattle.bit_table_lines.specs.Streams.{AppendsPart}
use Rattle.bit_table_lines.specs.Runs.{AppendsFirstLines}
use Rattle.bit_table_lines.specs.Going.{Going, HasHeld}
use Rattle.bit_table_lines.proofs.LineLemmas.{lines-end, lines-more, whole_lines-end}
use Rattle.bit_table_lines.proofs.LineLemmas.{whole_lines-more, HasLast, GrowsBy}

-- what answers lists of lines
abbrev Answers : Type 0
Answers = List (List ℕ) → List ℕ

pub going_start : (answers : Answers) (start : Option (List ℕ)) → answers [] ≡ []
    → Going answers answers start start [] [] []
going_start answers start e = record {
  cut = refl;
  follows = λ rest. sym (ap (λ l. l ++ answers rest) e);
  gone = [];
  answered = e;
  went = Appends-nil start;
}

-- the answers to the whole lines once a line end has come
answers-end : (answers next : Answers) (start now : Option (List ℕ)) (held text line : List ℕ)
    → Going answers next start now held text line
    → answers (whole_lines (text ++ 10 ∷ [])) ≡ answers (whole_lines text) ++ next (line ∷ [])
answers-end answers next start now held text line h =
    ap answers (whole_lines-end text line h.cut) ∙ h.follows (line ∷ [])

pub going_end : (answers next after : Answers) (start now : Option (List ℕ)) (held text line more : List ℕ)
    → Going answers next start now held text line → more ≡ held ++ next (line ∷ [])
    → ((rest : List (List ℕ)) → next (line ∷ rest) ≡ next (line ∷ []) ++ after rest)
    → Going answers after start now more (text ++ 10 ∷ []) []
going_end answers next after start now held text line more h a f =
    let whole : whole_lines (text ++ 10 ∷ []) ≡ whole_lines text ++ line ∷ [] = whole_lines-end text line h.cut in
    let told = answers-end answers next start now held text line h in
    record {
      cut = lines-end text ∙ ap (λ l. l ++ [] ∷ []) (h.cut ∙ sym whole);
      follows = λ rest.
          ap (λ l. answers (l ++ rest)) whole
          ∙ ap answers (append_assoc (whole_lines text) (line ∷ []) rest)
          ∙ h.follows (line ∷ rest)
          ∙ ap (λ l. answers (whole_lines text) ++ l) (f rest)
          ∙ sym (append_assoc (answers (whole_lines text)) (next (line ∷ [])) (after rest))
          ∙ ap (λ l. l ++ after rest) (sym told);
      gone = h.gone;
      answered = told ∙ ap (λ l. l ++ next (line ∷ [])) h.answered ∙ append_assoc h.gone held (next (line ∷ []))
          ∙ ap (λ l. h.gone ++ l) (sym a);
      went = h.went;
    }

pub going_more : (answers next : Answers) (start now : Option (List ℕ)) (held text line : List ℕ) (b : ℕ)
    → (b == 10) ≡ false
    → Going answers next start now held text line
    → Going answers next start now held (text ++ b ∷ []) (line ++ b ∷ [])
going_more answers next start now held text line b e h =
    let whole : whole_lines (text ++ b ∷ []) ≡ whole_lines text = whole_lines-more text line b e h.cut in
    record {
      cut = lines-more text b (whole_lines text) line e h.cut ∙ ap (λ l. l ++ (line ++ b ∷ []) ∷ []) (sym whole);
      follows = λ rest. rw whole (h.follows rest);
      gone = h.gone;
      answered = ap answers whole ∙ h.answered;
      went = h.went;
    }

-- the answers that were held went out
pub going_sent : (answers next : Answers) (start now new : Option (List ℕ)) (held none text line : List ℕ)
    → Going answers next start now held text line → Appends now new held → none ≡ []
    → Going answers next start new none text line
going_sent answers next start now new held none text line h a e = record {
  cut = h.cut;
  follows = h.follows;
  gone = h.gone ++ held;
  answered = h.answered ∙ sym (append-nil (h.gone ++ held)) ∙ ap (λ l. (h.gone ++ held) ++ l) (sym e);
  went = Appends-trans start now new h.gone held h.went a;
}

-- where none are held, all went out
pub all_went : (answers next : Answers) (start now : Option (List ℕ)) (text line : List ℕ)
    → Going answers next start now [] text line → Appends start now (answers (whole_lines text))
all_went answers next start now text line h =
    subst (Appends start now) (sym (h.answered ∙ append-nil h.gone)) h.went

-- all the answers: those to the whole lines and the one to the last
answers-last : (answers next : Answers) (start now : Option (List ℕ)) (text line : List ℕ)
    → Going answers next start now [] text line
    → answers (lines text) ≡ answers (whole_lines text) ++ next (line ∷ [])
answers-last answers next start now text line h = ap answers h.cut ∙ h.follows (line ∷ [])

pub going_last : (answers next : Answers) (start now new : Option (List ℕ)) (text line : List ℕ)
    → Going answers next start now [] text line → Appends now new (next (line ∷ []))
    → Appends start new (answers (lines text))
going_last answers next start now new text line h a =
    subst (Appends start new) (sym (answers-last answers next start now text line h))
    (Appends-trans start now new (answers (whole_lines text)) (next (line ∷ []))
    (all_went answers next start now text line h) a)

-- ---- faults of the writer

part_behind : (start now new : Option (List ℕ)) (front back whole : List ℕ) → Appends start now front
    → AppendsPart now new back → whole ≡ front ++ back → AppendsPart start new whole
part_behind start now new front back whole a p e = record {
  bytes = front ++ p.bytes;
  appended = Appends-trans start now new front p.bytes a p.appended;
  beginning = record {
    rest = p.beginning.rest;
    joined =
        e ∙ ap (λ l. front ++ l) p.beginning.joined ∙ sym (append_assoc front p.bytes p.beginning.rest);
    proper = p.beginning.proper;
  };
}

pub cut_at_last : (answers next : Answers) (start now new : Option (List ℕ)) (text line : List ℕ)
    → Going answers next start now [] text line → AppendsPart now new (next (line ∷ []))
    → AppendsPart start new (answers (lines text))
cut_at_last answers next start now new text line h p =
    part_behind start now new (answers (whole_lines text)) (next (line ∷ [])) (answers (lines text))
    (all_went answers next start now text line h) p (answers-last answers next start now text line h)

-- the answers that were held went out in part
pub cut_in_held : (answers next : Answers) (start now new : Option (List ℕ)) (held text line : List ℕ)
    → Going answers next start now held text line → AppendsPart now new held
    → AppendsPart start new (answers (whole_lines text))
cut_in_held answers next start now new held text line h p =
    part_behind start now new h.gone held (answers (whole_lines text)) h.went p h.answered

-- what is cut short of some answers is cut short of those answers and more
longer_part : (start new : Option (List ℕ)) (whole longer : List ℕ) → AppendsPart start new whole
    → IsBeginning whole longer → AppendsPart start new longer
longer_part start new whole longer p b = record {
  bytes = p.bytes;
  appended = p.appended;
  beginning = record {
    rest = p.beginning.rest ++ b.rest;
    joined = b.joined ∙ ap (λ l. l ++ b.rest) p.beginning.joined ∙ append_assoc p.bytes p.beginning.rest b.rest;
    proper = let h = p.beginning.proper in omega (arith, length-append p.beginning.rest b.rest);
  };
}

has_last-more : (text : List ℕ) (b : ℕ) (c : Bool) → (b == 10) ≡ c → HasLast text → HasLast (text ++ b ∷ [])
has_last-more text b true e h =
    let ten : b ≡ 10 = search rules in
    subst (λ n. HasLast (text ++ n ∷ [])) (sym ten) (record {
      last = [];
      cut = lines-end text ∙ ap (λ l. l ++ [] ∷ []) (h.cut ∙ sym (whole_lines-end text h.last h.cut));
    })
has_last-more text b false e h = record {
  last = h.last ++ b ∷ [];
  cut = lines-more text b (whole_lines text) h.last e h.cut
      ∙ ap (λ l. l ++ (h.last ++ b ∷ []) ∷ []) (sym (whole_lines-more text h.last b e h.cut));
}

has_last-nil : HasLast []
has_last-nil = record { last = []; cut = refl }

has_last-grown : (text more : List ℕ) → HasLast text → HasLast (text ++ more)
has_last-grown text [] h = subst HasLast (sym (append-nil text)) h
has_last-grown text (b ∷ bs) h =
    subst HasLast (append_assoc text (b ∷ []) bs)
    (has_last-grown (text ++ b ∷ []) bs (has_last-more text b (b == 10) refl h))

grows-byte : (text : List ℕ) (b : ℕ) (c : Bool) → (b == 10) ≡ c → HasLast text → GrowsBy text (text ++ b ∷ [])
grows-byte text b true e h =
    let ten : b ≡ 10 = search rules in
    subst (λ n. GrowsBy text (text ++ n ∷ [])) (sym ten)
    (record { more = h.last ∷ []; is = whole_lines-end text h.last h.cut })
grows-byte text b false e h =
    record { more = []; is = whole_lines-more text h.last b e h.cut ∙ sym (append-nil (whole_lines text)) }

grows : (text more : List ℕ) → HasLast text → GrowsBy text (text ++ more)
grows text [] h = record { more = []; is = ap whole_lines (append-nil text) ∙ sym (append-nil (whole_lines text)) }
grows text (b ∷ bs) h =
    let step = grows-byte text b (b == 10) refl h in
    let next = grows (text ++ b ∷ []) bs (has_last-more text b (b == 10) refl h) in
    record {
      more = step.more ++ next.more;
      is = ap whole_lines (sym (append_assoc text (b ∷ []) bs)) ∙ next.is ∙ ap (λ l. l ++ next.more) step.is
          ∙ append_assoc (whole_lines text) step.more next.more;
    }

-- what is cut short of the answers to a text's whole lines is cut short of those to a longer text's
pub cut_before : (answers : Answers) (start new : Option (List ℕ)) (text more : List ℕ)
    → ((front back : List (List ℕ)) → IsBeginning (answers front) (answers (front ++ back)))
    → AppendsPart start new (answers (whole_lines text))
    → AppendsPart start new (answers (whole_lines (text ++ more)))
cut_before answers start new text more f p =
    let on = grows text more (has_last-grown [] text has_last-nil) in
    subst (λ l. AppendsPart start new (answers l)) (sym on.is)
    (longer_part start new (answers (whole_lines text)) (answers (whole_lines text ++ on.more)) p
    (f (whole_lines text) on.more))

-- ---- want of memory

pub stopped : (answers next : Answers) (start now : Option (List ℕ)) (held text more line : List ℕ)
    → Going answers next start now held text line → HasHeld answers start now held (text ++ more)
stopped answers next start now held text more line h =
    record { done = text; rest = more; joined = refl; gone = h.gone; answered = h.answered; went = h.went }

pub stopped_last : (answers next : Answers) (start now new : Option (List ℕ)) (text more line : List ℕ)
    → Going answers next start now [] text line → Keeps now new → AppendsFirstLines answers start new (text ++ more)
stopped_last answers next start now new text more line h k = record {
  done = text;
  rest = more;
  joined = refl;
  appended =
      Appends-kept start now new (answers (whole_lines text)) (all_went answers next start now text line h) k;
}

pub held_sent : (answers : Answers) (start now new : Option (List ℕ)) (held text : List ℕ)
    → HasHeld answers start now held text → Appends now new held → AppendsFirstLines answers start new text
held_sent answers start now new held text h a = record {
  done = h.done;
  rest = h.rest;
  joined = h.joined;
  appended = subst (Appends start new) (sym h.answered) (Appends-trans start now new h.gone held h.went a);
}

pub held_cut : (answers : Answers) (start now new : Option (List ℕ)) (held text : List ℕ)
    → HasHeld answers start now held text → AppendsPart now new held
    → ((front back : List (List ℕ)) → IsBeginning (answers front) (answers (front ++ back)))
    → AppendsPart start new (answers (whole_lines text))
held_cut answers start now new held text h p f =
    subst (λ l. AppendsPart start new (answers (whole_lines l))) (sym h.joined)
    (cut_before answers start new h.done h.rest f
    (part_behind start now new h.gone held (answers (whole_lines h.done)) h.went p h.answered))
