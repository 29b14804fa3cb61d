-- The fields that words spell, and the layouts that they make.
use Rattle.std.proofs.Common.{◌≡◌, ℕ, ◌+◌, ◌<◌, not, ◌&&◌, leb, Bool, true, false, List, [], ◌∷◌, Option, Some}
use Rattle.std.proofs.Common.{None, ◌++◌, arith, refl, sym, ap, ◌∙◌, subst}
use Rattle.std.specs.List.{list_all}
use Rattle.std.specs.Option.{option_map, option_and_then, option_map_or}
use Rattle.std.proofs.lemmas.Bool.{and_from, and_parts, and_right, lt-leb, cond-true, cond-false, false≢true}
use Rattle.std.proofs.lemmas.List.Sums.{sum_by-cons}
use Rattle.bit_table_layout.specs.declared.layout.TheConstants.{MAX_ROW_BITS}
use Rattle.bit_table_layout.specs.declared.layout.Rule.{Rule}
use Rattle.bit_table_layout.specs.LineWords.{words}
use Rattle.bit_table_layout.specs.Fields.{FieldShape, field_of}
use Rattle.bit_table_layout.specs.Layouts.{row_width, has_name, names_differ, make_layout}
use Rattle.bit_table_layout.specs.Fields.{is_field}
use Rattle.bit_table_layout.specs.Layouts.{fields_of, rule_of, layout_from, layout_in}
use Rattle.bit_table_layout.specs.Layouts.{layout_of}
use Rattle.bit_table_layout.specs.Steps.{name_number, has_number, are_new, fields_fit, words_fit, new_words_fit}
use Rattle.bit_table_layout.proofs.FieldLemmas.{IsFieldOf-from_Some}
use Rattle.bit_table_layout.proofs.NameLemmas.{are_new-more}

-- words that spell fields, cut behind the first
record FirstField (word : List ℕ) (rest : List (List ℕ)) (fields : List FieldShape) : Type 0 where
  first : FieldShape
  others : List FieldShape
  first_of : field_of word ≡ Some first
  others_of : fields_of rest ≡ Some others
  both : fields ≡ first ∷ others

first_field : (word : List ℕ) (rest : List (List ℕ)) (fields : List FieldShape)
    → fields_of (word ∷ rest) ≡ Some fields
    → FirstField word rest fields
first_field word rest fields some = go (field_of word) (fields_of rest) refl refl some
  where
    go : (f : Option FieldShape) (fs : Option (List FieldShape)) → field_of word ≡ f → fields_of rest ≡ fs
        → option_and_then (λ x. option_map (λ xs. x ∷ xs) fs) f ≡ Some fields → FirstField word rest fields
    go None fs is_f is_fs all = absurd cc
    go (Some f) None is_f is_fs all = absurd cc
    go (Some f) (Some fs) is_f is_fs all =
        record { first = f; others = fs; first_of = is_f; others_of = is_fs; both = cc }

-- each field that words spell is one
pub all_fields : (ws : List (List ℕ)) (fields : List FieldShape) → fields_of ws ≡ Some fields
    → list_all is_field fields ≡ true
all_fields [] fields some = let none : [] ≡ fields = cc in ap (list_all is_field) (sym none)
all_fields (word ∷ rest) fields some =
    let cut = first_field word rest fields some in
    let lawful = (IsFieldOf-from_Some word cut.first cut.first_of).lawful in
    ap (list_all is_field) cut.both ∙ and_from _ _ lawful (all_fields rest cut.others cut.others_of)

fits-regroup : (a b c d e : Bool) → ((a && b) && ((c && d) && e)) ≡ (a && ((b && c) && (d && e)))
fits-regroup false b c d e = refl
fits-regroup true false c d e = refl
fits-regroup true true false d e = refl
fits-regroup true true true d e = refl

-- words that begin with a field word
new_words_fit-Some : (numbers : List ℕ) (width : ℕ) (word : List ℕ) (rest : List (List ℕ)) (f : FieldShape)
    → field_of word ≡ Some f
    → new_words_fit numbers width (word ∷ rest) ≡ (not (has_number numbers (name_number f.name))
    && new_words_fit (numbers ++ name_number f.name ∷ []) (width + f.width) rest)
new_words_fit-Some numbers width word rest f some =
    let behind : FieldShape → Option (List FieldShape) = λ x. option_map (λ fs. x ∷ fs) (fields_of rest) in
    ap (λ o. option_map_or (λ fs. are_new numbers fs && fields_fit width fs) (option_and_then behind o) false) some
    ∙ go (fields_of rest) refl
  where
    now : Bool
    now = has_number numbers (name_number f.name)

    more : List ℕ
    more = numbers ++ name_number f.name ∷ []

    go : (o : Option (List FieldShape)) → fields_of rest ≡ o
        → option_map_or (λ fs. are_new numbers fs && fields_fit width fs) (option_map (λ fs. f ∷ fs) o) false
        ≡ (not now && option_map_or (λ fs. are_new more fs && fields_fit (width + f.width) fs) o false)
    go None is = sym (and_right _ _ refl)
    go (Some fs) is =
        let lawful = and_parts _ _ (IsFieldOf-from_Some word f some).lawful in
        let met = are_new-more numbers f.name fs lawful.0 (all_fields rest fs is) in
        let sum = sum_by-cons (λ g. g.width) f fs in
        let sums : width + row_width (f ∷ fs) ≡ width + f.width + row_width fs = omega arith in
        ap (λ w. are_new numbers (f ∷ fs) && ((not (has_name f.name fs) && names_differ fs)
        && (leb 1 w && leb w MAX_ROW_BITS))) sums
        ∙ fits-regroup (not now) (are_new numbers fs) (not (has_name f.name fs)) (names_differ fs) _
        ∙ ap (λ b. not now && (b && fields_fit (width + f.width) fs)) (sym met)

-- without numbers each name is new
pub new_words_fit-none : (width : ℕ) (ws : List (List ℕ)) → new_words_fit [] width ws ≡ words_fit width ws
new_words_fit-none width ws = go (fields_of ws)
  where
    all_new : (fs : List FieldShape) → are_new [] fs ≡ true
    all_new [] = refl
    all_new (f ∷ fs) = all_new fs

    go : (o : Option (List FieldShape)) → option_map_or (λ fs. are_new [] fs && fields_fit width fs) o false
        ≡ option_map_or (fields_fit width) o false
    go None = refl
    go (Some fs) = ap (λ b. b && fields_fit width fs) (all_new fs)

-- too many bits already
new_words_fit-past : (numbers : List ℕ) (width : ℕ) (ws : List (List ℕ)) → MAX_ROW_BITS < width
    → new_words_fit numbers width ws ≡ false
new_words_fit-past numbers width ws past = go (fields_of ws)
  where
    go : (o : Option (List FieldShape)) → option_map_or (λ fs. are_new numbers fs && fields_fit width fs) o false ≡ false
    go None = refl
    go (Some fs) =
        let wide = lt-leb (width + row_width fs) MAX_ROW_BITS (omega arith) in
        let sizes = and_right (leb 1 (width + row_width fs)) _ wide in
        and_right (are_new numbers fs) _ (and_right (names_differ fs) _ sizes)

-- one word further, where its name is new
pub new_words_fit-more : (numbers : List ℕ) (width number : ℕ) (left rest : List (List ℕ)) (word : List ℕ)
    (f : FieldShape) → left ≡ word ∷ rest
    → field_of word ≡ Some f → number ≡ name_number f.name → has_number numbers number ≡ false
    → new_words_fit (numbers ++ number ∷ []) (width + f.width) rest ≡ new_words_fit numbers width left
new_words_fit-more numbers width number left rest word f is some named none =
    let met = new_words_fit-Some numbers width word rest f some in
    let same = ap (λ n. not (has_number numbers n) && new_words_fit (numbers ++ n ∷ []) (width + f.width) rest) named in
    sym (ap (new_words_fit numbers width) is ∙ met ∙ sym same
    ∙ ap (λ b. not b && new_words_fit (numbers ++ number ∷ []) (width + f.width) rest) none)

-- the word has the name of one before it
pub new_words_fit-twice : (numbers : List ℕ) (width number : ℕ) (left rest : List (List ℕ)) (word : List ℕ)
    (f : FieldShape) → left ≡ word ∷ rest
    → field_of word ≡ Some f → number ≡ name_number f.name → has_number numbers number ≡ true
    → new_words_fit numbers width left ≡ false
new_words_fit-twice numbers width number left rest word f is some named again =
    let old : has_number numbers (name_number f.name) ≡ true = ap (has_number numbers) (sym named) ∙ again in
    ap (new_words_fit numbers width) is ∙ new_words_fit-Some numbers width word rest f some
    ∙ ap (λ b. not b && new_words_fit (numbers ++ name_number f.name ∷ []) (width + f.width) rest) old

-- the word has too many bits
pub new_words_fit-wide : (numbers : List ℕ) (width : ℕ) (left rest : List (List ℕ)) (word : List ℕ) (f : FieldShape)
    → left ≡ word ∷ rest → field_of word ≡ Some f → MAX_ROW_BITS < width + f.width
    → new_words_fit numbers width left ≡ false
new_words_fit-wide numbers width left rest word f is some past =
    ap (new_words_fit numbers width) is ∙ new_words_fit-Some numbers width word rest f some
    ∙ and_right _ _ (new_words_fit-past (numbers ++ name_number f.name ∷ []) (width + f.width) rest past)

-- fields make a layout if each is one and they fit with no bits before them
make_layout-fits : (fields : List FieldShape) → make_layout fields ≡ (list_all is_field fields && fields_fit 0 fields)
make_layout-fits fields =
    let sum : row_width fields ≡ 0 + row_width fields = omega arith in
    ap (λ w. list_all is_field fields && (names_differ fields && (leb 1 w && leb w MAX_ROW_BITS))) sum

-- the layout of a line by its words
pub layout_of-words : (line : List ℕ) (ws : List (List ℕ)) → words line ≡ ws → layout_of line ≡ layout_in ws
unfolding layout_of
layout_of-words line ws is = ap layout_in is

-- the layout of a line by its words behind the first, where that is the word of a rule
layout_of-rule : (line first : List ℕ) (rest : List (List ℕ)) (rule : Rule) → words line ≡ first ∷ rest
    → rule_of first ≡ Some rule
    → layout_of line ≡ option_and_then (layout_from rule) (fields_of rest)
layout_of-rule line first rest rule is named =
    layout_of-words line (first ∷ rest) is
    ∙ ap (λ r. option_and_then (λ x. option_and_then (layout_from x) (fields_of rest)) r) named

-- no word of a rule at the front
pub layout_of-no_rule : (line first : List ℕ) (rest : List (List ℕ)) → words line ≡ first ∷ rest
    → rule_of first ≡ None
    → layout_of line ≡ None
layout_of-no_rule line first rest is none =
    layout_of-words line (first ∷ rest) is
    ∙ ap (λ r. option_and_then (λ x. option_and_then (layout_from x) (fields_of rest)) r) none

-- words that do not fit behind the word of a rule
pub layout_of-no_fit : (line first : List ℕ) (rest : List (List ℕ)) (rule : Rule) → words line ≡ first ∷ rest
    → rule_of first ≡ Some rule → words_fit 0 rest ≡ false → layout_of line ≡ None
layout_of-no_fit line first rest rule is named fit = layout_of-rule line first rest rule is named
    ∙ go (fields_of rest) refl
  where
    go : (o : Option (List FieldShape)) → fields_of rest ≡ o → option_and_then (layout_from rule) o ≡ None
    go None is = refl
    go (Some fs) is =
        let fails : fields_fit 0 fs ≡ false = ap (λ o. option_map_or (fields_fit 0) o false) (sym is) ∙ fit in
        cond-false (make_layout fs) _ _ (make_layout-fits fs ∙ and_right _ _ fails)

-- what is known of a line that spells a layout
pub record MakesLayout (line : List ℕ) (rest : List (List ℕ)) (rule : Rule) (fields : List FieldShape) : Type 0 where
  pub spelled : fields_of rest ≡ Some fields
  pub lawful : make_layout fields ≡ true
  pub layout : layout_of line ≡ Some (record { rule = rule; fields = fields })

-- the word of a rule and words that fit spell a layout
pub MakesLayout-from_fit : (line first : List ℕ) (rest : List (List ℕ)) (rule : Rule) → words line ≡ first ∷ rest
    → rule_of first ≡ Some rule → words_fit 0 rest ≡ true
    → (fields : List FieldShape) × MakesLayout line rest rule fields
MakesLayout-from_fit line first rest rule is named fit = go (fields_of rest) refl
  where
    go : (o : Option (List FieldShape)) → fields_of rest ≡ o
        → (fields : List FieldShape) × MakesLayout line rest rule fields
    go None is_o = absurd (false≢true (ap (λ o. option_map_or (fields_fit 0) o false) (sym is_o) ∙ fit))
    go (Some fs) is_o =
        let fits : fields_fit 0 fs ≡ true = ap (λ o. option_map_or (fields_fit 0) o false) (sym is_o) ∙ fit in
        let lawful : make_layout fs ≡ true = make_layout-fits fs ∙ and_from _ _ (all_fields rest fs is_o) fits in (
          fs,
          record {
            spelled = is_o;
            lawful = lawful;
            layout =
                layout_of-rule line first rest rule is named ∙ ap (option_and_then (layout_from rule)) is_o
                ∙ cond-true (make_layout fs) _ _ lawful;
          },
        )

-- the same of fields that the words are known to spell
pub MakesLayout-of : (line first : List ℕ) (rest : List (List ℕ)) (rule : Rule) (fields : List FieldShape)
    → words line ≡ first ∷ rest
    → rule_of first ≡ Some rule → words_fit 0 rest ≡ true → fields_of rest ≡ Some fields
    → MakesLayout line rest rule fields
MakesLayout-of line first rest rule fields is named fit spelled =
    let made = MakesLayout-from_fit line first rest rule is named fit in
    let none : Some made.0 ≡ Some fields = sym made.1.spelled ∙ spelled in
    let same : made.0 ≡ fields = cc in
    subst (MakesLayout line rest rule) same made.1
