use Rattle.std.proofs.Common.{◌≡◌, Some, None, sym, refl, rules, arith}
use Rattle.bit_table_commands.specs.Causes.{cause_in}
use Rattle.bit_table_commands.proofs.CallerLemmas.{accepted}
use Rattle.bit_table_script.proofs.TableLemmas.{is_table_of, only_numbers}
use Rattle.bit_table_script.proofs.table.Table.apply.Goals as goal

pub returns-in-Some-clause-cause : goal.returns-in-Some-clause-cause
returns-in-Some-clause-cause g c =
    let t = c.self.inside in
    let h = c.self.invariant in
    let e : cause_in c.args.self.now.shape c.args.command.now ≡ Some c.in-Some.cause =
    sym (c.in-Some.ensures _ (is_table_of _ t.layout _ _ _
    c.self.view_is h.0 h.1 h.2 _ c.is_some.ensures)) in
    rw e refl

pub returns-in-Some-clause-succeeds : goal.returns-in-Some-clause-succeeds
returns-in-Some-clause-succeeds g c sure none =
    let t = c.self.inside in
    let h = c.self.invariant in
    let e : cause_in c.args.self.now.shape c.args.command.now ≡ Some c.in-Some.cause =
    sym (c.in-Some.ensures _ (is_table_of _ t.layout _ _ _
    c.self.view_is h.0 h.1 h.2 _ c.is_some.ensures)) in
    absurd cc

pub returns-in-Some-clause-within : goal.returns-in-Some-clause-within
returns-in-Some-clause-within g c sure none =
    let t = c.self.inside in
    let h = c.self.invariant in
    let e : cause_in c.args.self.now.shape c.args.command.now ≡ Some c.in-Some.cause =
    sym (c.in-Some.ensures _ (is_table_of _ t.layout _ _ _
    c.self.view_is h.0 h.1 h.2 _ c.is_some.ensures)) in
    absurd cc

pub returns-in-Some-clause-image : goal.returns-in-Some-clause-image
returns-in-Some-clause-image g c =
    let t = c.self.inside in
    let h = c.self.invariant in
    only_numbers _ t.layout _ _ _ c.self.view_is h.0 h.1 h.2

pub carry_out-requires : goal.carry_out-requires
carry_out-requires g c =
    let t = c.self.inside in
    let h = c.self.invariant in (
      omega arith,
      accepted c.args.self.now.shape c.args.command.now (sym (c.in_default.ensures _ (is_table_of _ t.layout _ _ _
          c.self.view_is h.0 h.1 h.2 _ c.is_some.ensures))),
    )

pub returns-in-Ok-clause-cause : goal.returns-in-Ok-clause-cause
returns-in-Ok-clause-cause g c =
    let t = c.self.inside in
    let h = c.self.invariant in
    let e : cause_in c.args.self.now.shape c.args.command.now ≡ None =
    sym (c.in_default.ensures _ (is_table_of _ t.layout _ _ _
    c.self.view_is h.0 h.1 h.2 _ c.is_some.ensures)) in
    rw e (search rules)

pub returns-in-Ok-clause-image : goal.returns-in-Ok-clause-image
returns-in-Ok-clause-image g c =
    let t = c.self.inside in
    let h = c.self.invariant in
    only_numbers _ t.layout _ _ _ c.self.view_is h.0 h.1 h.2

pub returns-in-Err-clause-cause : goal.returns-in-Err-clause-cause
returns-in-Err-clause-cause g c =
    let t = c.self.inside in
    let h = c.self.invariant in
    let e : cause_in c.args.self.now.shape c.args.command.now ≡ None =
    sym (c.in_default.ensures _ (is_table_of _ t.layout _ _ _
    c.self.view_is h.0 h.1 h.2 _ c.is_some.ensures)) in
    rw e (search rules)

pub returns-in-Err-clause-image : goal.returns-in-Err-clause-image
returns-in-Err-clause-image g c =
    let t = c.self.inside in
    let h = c.self.invariant in
    only_numbers _ t.layout _ _ _ c.self.view_is h.0 h.1 h.2
