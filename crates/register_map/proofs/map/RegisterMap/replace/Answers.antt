use Rattle.std.proofs.Common.{refl}
use Rattle.register_map.proofs.RegisterLemmas.{flag_written, kept_run}
use Rattle.register_map.proofs.map.RegisterMap.replace.Goals as goal

pub returns-clause-own : goal.returns-clause-own
returns-clause-own g c =
    let has = c.in_ok-was.ensures.ok.0 refl in
    flag_written c.args.self.now c.args.memory.now c.run.new.memory c.args.device c.args.flag c.args.bit c.run.new.replies
    c.run.ensures.map c.requires.memory has.0 has.1 c.run.ensures.run

pub returns-clause-others : goal.returns-clause-others
returns-clause-others g c =
    let has = c.in_ok-was.ensures.ok.0 refl in
    kept_run c.args.self.now c.args.memory.now c.run.new.memory c.args.device _ c.run.new.replies has.0 c.run.ensures.run
