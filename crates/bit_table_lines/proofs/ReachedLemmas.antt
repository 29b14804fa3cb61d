-- What the reader gave and what the writer took, as a run goes on and ends.
use Rattle.std.proofs.Common.{◌≡◌, ℕ, ◌+◌, ◌<◌, ◌≤◌, List, [], ◌∷◌, ◌++◌, length, Option, None, Some, ap, ◌∙◌}
use Rattle.std.proofs.Common.{append-nil, length-append, subst, arith, IfSome, inl, inr}
use Rattle.std.specs.Io.KnownBytes.{Appends, Keeps, Consumes, IsAtEnd}
use Rattle.std.proofs.KnownBytes.{Consumes-nil, Consumes-trans, Consumes-kept}
use Rattle.bit_table_lines.specs.Lines.{IsBeginning, whole_lines}
use Rattle.bit_table_lines.specs.Streams.{AppendsPart}
use Rattle.bit_table_lines.specs.Runs.{AppendsFirstLines, RanToEnd, StoppedByRead, StoppedByWrite}
use Rattle.bit_table_lines.specs.Runs.{StoppedByMemory}
use Rattle.bit_table_lines.specs.Going.{Going}
use Rattle.bit_table_lines.proofs.GoingLemmas.{going_start, going_last, cut_at_last, all_went, stopped_last}

abbrev Answers : Type 0
Answers = List (List ℕ) → List ℕ

-- what the reader gave and what the writer took are those of a run so far
pub record Reached (answers next : Answers) (given left start now : Option (List ℕ)) (line : List ℕ) : Type 0 where
  pub text : List ℕ
  pub consumed : Consumes given left text
  pub going : Going answers next start now [] text line

pub reached_start : (answers : Answers) (given start : Option (List ℕ)) → answers [] ≡ []
    → Reached answers answers given given start start []
reached_start answers given start e =
    record { text = []; consumed = Consumes-nil given; going = going_start answers start e }

pub reached_more : (answers next after : Answers) (given left rest start now new : Option (List ℕ))
    (piece line longer : List ℕ)
    → Reached answers next given left start now line → Consumes left rest piece
    → ((answers : Answers) (start : Option (List ℕ)) (text : List ℕ) → Going answers next start now [] text line
    → Going answers after start new [] (text ++ piece) longer)
    → Reached answers after given rest start new longer
reached_more answers next after given left rest start now new piece line longer h c f = record {
  text = h.text ++ piece;
  consumed = Consumes-trans given left rest h.text piece h.consumed c;
  going = f answers start h.text h.going;
}

-- nothing more came
consumed_none : (given left rest : Option (List ℕ)) (text none : List ℕ) → Consumes given left text
    → Consumes left rest none
    → none ≡ [] → Consumes given rest text
consumed_none given left rest text none h c e =
    subst (Consumes given rest) (ap (λ l. text ++ l) e ∙ append-nil text)
    (Consumes-trans given left rest text none h c)

pub reached_end : (answers next : Answers) (given left rest start now new : Option (List ℕ)) (none line : List ℕ)
    → Reached answers next given left start now line → Consumes left rest none → none ≡ [] → IsAtEnd rest
    → Appends now new (next (line ∷ [])) → RanToEnd answers given rest start new
reached_end answers next given left rest start now new none line h c e z a = record {
  text = h.text;
  consumed = consumed_none given left rest h.text none h.consumed c e;
  ended = z;
  answered = going_last answers next start now new h.text line h.going a;
}

pub reached_read : (answers next : Answers) (given left rest start now : Option (List ℕ)) (line : List ℕ)
    → Reached answers next given left start now line → Keeps left rest → StoppedByRead answers given rest start now
reached_read answers next given left rest start now line h k = record {
  text = h.text;
  consumed = Consumes-kept given left rest h.text h.consumed k;
  answered = all_went answers next start now h.text line h.going;
}

pub reached_write : (answers next : Answers) (given left rest start now new : Option (List ℕ)) (piece line : List ℕ)
    → Reached answers next given left start now line → Consumes left rest piece
    → ((front back : List (List ℕ)) → IsBeginning (answers front) (answers (front ++ back)))
    → ((answers : Answers) (start : Option (List ℕ)) (text : List ℕ) → Going answers next start now [] text line
    → ((front back : List (List ℕ)) → IsBeginning (answers front) (answers (front ++ back)))
    → AppendsPart start new (answers (whole_lines (text ++ piece))))
    → StoppedByWrite answers given rest start new
reached_write answers next given left rest start now new piece line h c b f = record {
  text = h.text ++ piece;
  consumed = Consumes-trans given left rest h.text piece h.consumed c;
  answered = inl (f answers start h.text h.going b);
}

pub reached_write_last : (answers next : Answers) (given left rest start now new : Option (List ℕ))
    (none line : List ℕ)
    → Reached answers next given left start now line → Consumes left rest none → none ≡ [] → IsAtEnd rest
    → AppendsPart now new (next (line ∷ [])) → StoppedByWrite answers given rest start new
reached_write_last answers next given left rest start now new none line h c e z p = record {
  text = h.text;
  consumed = consumed_none given left rest h.text none h.consumed c e;
  answered = inr (z, cut_at_last answers next start now new h.text line h.going p);
}

pub reached_memory : (answers next : Answers) (given left rest start now new : Option (List ℕ)) (piece line : List ℕ)
    → Reached answers next given left start now line → Consumes left rest piece
    → ((answers : Answers) (start : Option (List ℕ)) (text : List ℕ) → Going answers next start now [] text line
    → AppendsFirstLines answers start new (text ++ piece))
    → StoppedByMemory answers given rest start new
reached_memory answers next given left rest start now new piece line h c f = record {
  text = h.text ++ piece;
  consumed = Consumes-trans given left rest h.text piece h.consumed c;
  answered = f answers start h.text h.going;
}

pub reached_memory_last : (answers next : Answers) (given left rest start now new : Option (List ℕ))
    (none line : List ℕ)
    → Reached answers next given left start now line → Consumes left rest none → Keeps now new
    → StoppedByMemory answers given rest start new
reached_memory_last answers next given left rest start now new none line h c k =
    reached_memory answers next given left rest start now new none line h c
    (λ answers start text g. stopped_last answers next start now new text none line g k)

-- ---- how many bytes so many reads gave

-- the reader gave at least n bytes
pub record TookAtLeast (given left : Option (List ℕ)) (n : ℕ) : Type 0 where
  pub bytes : List ℕ
  pub consumed : Consumes given left bytes
  pub enough : n ≤ length bytes

pub took_none : (given : Option (List ℕ)) → TookAtLeast given given 0
took_none given = record { bytes = []; consumed = Consumes-nil given; enough = omega arith }

pub took_more : (given left rest : Option (List ℕ)) (piece : List ℕ) (n : ℕ) → TookAtLeast given left n
    → Consumes left rest piece → 0 < length piece → TookAtLeast given rest (n + 1)
took_more given left rest piece n h c p = record {
  bytes = h.bytes ++ piece;
  consumed = Consumes-trans given left rest h.bytes piece h.consumed c;
  enough = let e = h.enough in omega (arith, length-append h.bytes piece);
}

took_all : (given left : Option (List ℕ)) (n : ℕ) → TookAtLeast given left n → IfSome given (λ text. n ≤ length text)
took_all None left n h = tt
took_all (Some xs) None n h = absurd h.consumed
took_all (Some xs) (Some ys) n h =
    let e = h.enough in
    let c : xs ≡ h.bytes ++ ys = h.consumed in
    omega (arith, ap length c, length-append h.bytes ys)

if_some_weaker : (o : Option (List ℕ)) (P Q : List ℕ → Type 0) → ((xs : List ℕ) → P xs → Q xs) → IfSome o P
    → IfSome o Q
if_some_weaker None P Q f h = tt
if_some_weaker (Some xs) P Q f h = f xs h

-- fewer bytes can't last for so many reads
pub took_too_many : (given left : Option (List ℕ)) (n m : ℕ) (P : Type 0) → TookAtLeast given left n → m ≤ n
    → IfSome given (λ text. length text < m → P)
took_too_many given left n m P h e =
    if_some_weaker given (λ text. n ≤ length text) (λ text. length text < m → P) (λ xs a b. absurd (omega arith))
    (took_all given left n h)
