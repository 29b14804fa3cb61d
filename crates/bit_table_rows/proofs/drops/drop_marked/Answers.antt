use Rattle.std.proofs.Common.{◌≡◌, ◌≢◌, ℕ, ◌<◌, ◌≤◌, Bool, List, false, length, get_or, set as put}
use Rattle.std.proofs.Common.{not, replicate, sym, ap, ◌∙◌, subst, arith}
use Rattle.std.specs.List.{count_by}
use Rattle.std.proofs.lemmas.List.{get_or_default, get_or-set_same, get_or-set_other, length-set}
use Rattle.std.proofs.lemmas.List.Sums.{count_by-le-length}
use Rattle.bit_addressing_memory.specs.Memory.{read_by, touched}
use Rattle.bit_containers_vector.specs.Vector.{vec_bits, vec_head, room}
use Rattle.bit_table_rows.specs.Lists.{HasBits, IsColumn}
use Rattle.bit_table_rows.proofs.DropLemmas.{own_left}
use Rattle.bit_table_rows.proofs.WalkLemmas.{holds_goes_on, walk_changes, walk_closes, walk_skips}
use Rattle.bit_table_rows.proofs.drops.drop_marked.Goals.{then-i-letter, else-i-letter}
use Rattle.bit_table_rows.proofs.drops.drop_marked.Goals as goal
use Rattle.bit_table_rows.specs.RowsKept.{left_of}

pub drop_by-requires-clause-column : goal.drop_by-requires-clause-column
drop_by-requires-clause-column g c =
    let reading = read_by g.T.BitRegister g.O.Positions.position in
    let i = c.loop-i.i in
    λ d. subst (IsColumn reading c.args.n) (sym ((c.loop-i.invariant.walked d).rest i d (omega arith)))
    (c.requires.columns i d (omega (arith, c.loop-i-test.true)))

pub drop_by-requires-clause-left : goal.drop_by-requires-clause-left
drop_by-requires-clause-left g c d =
    let reading = read_by g.T.BitRegister g.O.Positions.position in
    c.count_zeros-left.ensures
    ∙ ap (λ u. count_by not (vec_bits reading u))
    (get_or_default c.args.lists.now c.args.letter c.index-lists-letter.result d c.requires.letter
    ∙ sym (c.loop-i.invariant.flags d))

pub returns-clause-left : goal.returns-clause-left
returns-clause-left g c d =
    let reading = read_by g.T.BitRegister g.O.Positions.position in
    c.count_zeros-left.ensures
    ∙ ap (λ u. count_by not (vec_bits reading u))
    (get_or_default c.args.lists.now c.args.letter c.index-lists-letter.result d c.requires.letter)

pub loop-i-preserved : goal.loop-i-preserved
loop-i-preserved g c =
    let reading = read_by g.T.BitRegister g.O.Positions.position in
    let x = c.args.letter in
    let old = c.args.lists.now in
    let lists = c.loop-i.lists in
    let writes = c.loop-i.writes in
    let i = c.loop-i.i in
    let h = c.loop-i.invariant in
    let low : i < length old = omega (arith, c.loop-i-test.true) in
    let inside : i < length writes = omega (arith, low, h.count, c.requires.count) in
    let left_is : (d : _) → c.count_zeros-left.result ≡ count_by not (vec_bits reading (get_or old x d)) =
    (λ d. c.count_zeros-left.ensures
    ∙ ap (λ u. count_by not (vec_bits reading u))
    (get_or_default old x c.index-lists-letter.result d c.requires.letter)) in
    let Few : ℕ → List Bool → Type 0 =
    (λ k off. k ≤ touched g.T.BitRegister.BITS 0 (count_by not off)) in
    elim c.if-i-letter.branch [
      | then-i-letter w ↦
          let same : i ≡ x = w.if-i-letter.true in
          rw (w.lists-is, w.writes-is) (record {
            walked = λ d. walk_skips
                (λ k v u. k ≢ x → HasBits reading (left_of (vec_bits reading (get_or old x d))) v u)
                i old lists (h.walked d) (λ v u apart. absurd (apart same));
            flags = h.flags;
            count = length-set writes i 0 ∙ h.count;
            writes = λ k e d below.
                holds_goes_on (λ v. Few v (vec_bits reading (get_or old x d))) i writes 0 inside
                (λ j b under. h.writes j b d under) (omega arith) k e below;
            own = λ below. subst (λ j. get_or (put writes i 0) j 0 ≡ 0) same (get_or-set_same writes i 0 0 inside);
          })
      | else-i-letter w ↦
          let apart : x ≢ i = omega (arith, w.if-i-letter.false) in
          let ch = w.drop_by.ensures.changed in
          rw (w.lists-is, w.writes-is) (record {
            walked = λ d. walk_changes
                (λ k v u. k ≢ x → HasBits reading (left_of (vec_bits reading (get_or old x d))) v u)
                i old lists w.drop_by.new.lists (h.walked d) low
                (record {
                  now = ch.now;
                  is = ch.is;
                  by = λ e _. subst (λ v. HasBits reading (left_of (vec_bits reading v)) (get_or lists i e) ch.now)
                      (h.flags d) (ch.by e d);
                });
            flags = λ d. ap (λ l. get_or l x d) ch.is ∙ get_or-set_other lists i x ch.now d apart ∙ h.flags d;
            count = length-set writes i w.drop_by.result ∙ h.count;
            writes = λ k e d below.
                holds_goes_on (λ v. Few v (vec_bits reading (get_or old x d))) i writes w.drop_by.result inside
                (λ j b under. h.writes j b d under)
                (subst (λ m. w.drop_by.result ≤ touched g.T.BitRegister.BITS 0 m) (left_is d) w.drop_by.ensures.writes)
                k e below;
            own = λ below. get_or-set_other writes i x w.drop_by.result 0 apart ∙ h.own (omega (arith, below, apart));
          })
    ]

-- of the letter's own list only zeros stay
pub returns-clause-dropped : goal.returns-clause-dropped
returns-clause-dropped g c =
    let reading = read_by g.T.BitRegister g.O.Positions.position in
    let x = c.args.letter in
    let old = c.args.lists.now in
    let v = c.index-lists-letter-2.result in
    let h = c.loop-i.invariant in
    let here : (e : _) → get_or c.loop-i.lists x v ≡ get_or old x e =
    (λ e. h.flags v ∙ get_or_default old x v e c.requires.letter) in
    λ d. walk_closes (HasBits reading (left_of (vec_bits reading (get_or old x d)))) x c.loop-i.i old c.loop-i.lists
    c.leave_zeros.new.list (h.walked d) (omega (arith, c.loop-i-test.false, (h.walked d).len))
    (λ e. record {
      bits =
          c.leave_zeros.ensures.bits
          ∙ ap (λ n. replicate n false) (returns-clause-left g c d)
          ∙ sym (own_left (vec_bits reading (get_or old x d)))
          ∙ ap (λ u. left_of (vec_bits reading (get_or old x d)) (vec_bits reading u)) (sym (here d) ∙ here e);
      head = c.leave_zeros.ensures.head ∙ ap vec_head (here e);
      room = subst (λ u. room reading u ≤ room reading c.leave_zeros.new.list) (here e) c.leave_zeros.ensures.room;
    })

pub leave_zeros-requires : goal.leave_zeros-requires
leave_zeros-requires g c =
    let reading = read_by g.T.BitRegister g.O.Positions.position in
    let x = c.args.letter in
    let old = c.args.lists.now in
    let v = c.index-lists-letter.result in
    let d = c.index-lists-letter-2.result in
    let same : get_or old x v ≡ get_or c.loop-i.lists x d =
    get_or_default old x v d c.requires.letter ∙ sym (c.loop-i.invariant.flags d) in
    let few = count_by-le-length not (vec_bits reading (get_or old x v)) in
    omega (arith, few, c.count_zeros-left.ensures, ap (λ u. length (vec_bits reading u)) same)
