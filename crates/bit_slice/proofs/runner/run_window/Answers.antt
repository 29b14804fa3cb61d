use Rattle.std.proofs.Common.{◌≡◌, ◌+◌, ◌<◌, ◌++◌, ℕ, [], ◌∷◌, take, length, refl, sym, ap, ◌∙◌, arith, rules}
use Rattle.std.proofs.lemmas.List.{take_more, take_all}
use Rattle.bit_addressing_memory.specs.Memory.{read_by}
use Rattle.bit_slice_views.specs.View.{view_bits}
use Rattle.bit_slice.specs.Commands.{list_after, lists_after, replies_to, reply_to}
use Rattle.bit_slice.proofs.RunLemmas.{lists_more, replies_more}
use Rattle.bit_slice.proofs.runner.run_window.Goals as goal

pub loop-command-init : goal.loop-command-init
unfolding lists_after replies_to
loop-command-init g c =
    let made = c.in_ok-replies.ensures in
    (refl, made.items, refl, refl, made.len, made.capacity)

pub loop-command-preserved : goal.loop-command-preserved
loop-command-preserved g c =
    let bits_of = view_bits (read_by g.V.Store.BitRegister g.V.Order.Positions.position) in
    let k : ℕ = c.loop-command.command-index in
    let commands = c.args.commands.now in
    let bits = g.V.Bits.bits c.args.view.now in
    let item = c.command-item in
    let within : k < length commands = omega arith in
    let more : take (k + 1) commands ≡ take k commands ++ item.result ∷ [] =
    take_more commands k item.result within ∙ ap (λ x. take k commands ++ x ∷ []) (search (rules, item.is)) in
    let was = c.loop-command.invariant in
    let ran = c.run_one.ensures in
    let pushed = c.push_reserved.ensures in
    rw more (
      ran.list ∙ ap (list_after bits_of item.result) was.0
          ∙ sym (lists_more bits_of (take k commands) item.result bits),
      pushed.items ∙ ap (λ replies. replies ++ c.run_one.result ∷ []) was.1
          ∙ ap (λ reply. replies_to bits_of (take k commands) bits ++ reply ∷ [])
          (ran.reply ∙ ap (reply_to bits_of item.result) was.0)
          ∙ sym (replies_more bits_of (take k commands) item.result bits),
      ran.len ∙ was.2,
      ran.frame ∙ was.3,
      omega arith,
      omega arith,
    )

pub returns-clause-replies : goal.returns-clause-replies
returns-clause-replies g c =
    let all : take c.loop-command.command-index c.args.commands.now ≡ c.args.commands.now =
    take_all c.loop-command.command-index c.args.commands.now (omega arith) in
    rw all at c.loop-command.invariant.1

pub returns-clause-list : goal.returns-clause-list
returns-clause-list g c _ =
    let all : take c.loop-command.command-index c.args.commands.now ≡ c.args.commands.now =
    take_all c.loop-command.command-index c.args.commands.now (omega arith) in
    rw all at c.loop-command.invariant.0
