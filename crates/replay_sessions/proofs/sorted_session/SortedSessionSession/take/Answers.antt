use Rattle.std.proofs.Common.{◌++◌, ◌∷◌, [], refl, sym, ◌∙◌, ap, inl, inr}
use Rattle.std.specs.Option.{option_map}
use Rattle.std.proofs.lemmas.List.{append-nil}
use Rattle.std.proofs.lemmas.Result.{err_from_is_err_and}
use Rattle.cordyceps_commands.specs.Replies.{lines_of}
use Rattle.cordyceps_tables.specs.Sorteds.{order_of}
use Rattle.cordyceps_tables.proofs.Ordered.{own}
use Rattle.replay_lines.specs.ReplyText.{text_of}
use Rattle.replay_lines.specs.SortedScript.{entry_for, entry_of}
use Rattle.replay_sessions.specs.SortedMachine.{step_entry}
use Rattle.replay_sessions.specs.Tens.{by_tens}
use Rattle.replay_sessions.proofs.Lines.{taken, taken_as, ran}
use Rattle.replay_sessions.proofs.SortedLines.{some_entry, stepped}
use Rattle.replay_sessions.proofs.sorted_session.SortedSessionSession.take.Goals as goal

pub returns-in_err-command-clause-taken : goal.returns-in_err-command-clause-taken
returns-in_err-command-clause-taken g c =
    let p = err_from_is_err_and c.from_residual.result c.from_residual.ensures.1 in
    let (entry, is) = some_entry (entry_of c.args.line.now) c.in_err-command.ensures.err in
    rw p.1 (_, _, [], taken entry_of (step_entry (order_of own by_tens)) c.args.self.now.sorteds.0 c.args.line.now entry is, (0, inl refl, refl), sym (append-nil c.args.text.now.items), inl refl)

pub returns-in_err-reply-clause-taken : goal.returns-in_err-reply-clause-taken
returns-in_err-reply-clause-taken g c =
    let p = err_from_is_err_and c.from_residual-in_err-reply.result c.from_residual-in_err-reply.ensures.1 in
    let is = ap (option_map entry_for) (sym c.in-Some.is) ∙ c.in_ok-command.ensures.value in
    rw p.1 (_, _, [], taken entry_of (step_entry (order_of own by_tens)) c.args.self.now.sorteds.0 c.args.line.now (entry_for c.in-Some.command) is, (0, inl refl, refl), sym (append-nil c.args.text.now.items), inl c.in_err-reply.ensures.err)

pub returns-in_err-reply-clause-ready : goal.returns-in_err-reply-clause-ready
returns-in_err-reply-clause-ready g c = rw c.in_err-reply.ensures.function (c.requires.0, c.requires.1, c.in_err-reply.ensures.in_order)

pub returns-in_err-push_reply-clause-taken : goal.returns-in_err-push_reply-clause-taken
returns-in_err-push_reply-clause-taken g c =
    let p = err_from_is_err_and c.from_residual-in_err-push_reply.result c.from_residual-in_err-push_reply.ensures.1 in
    let is = ap (option_map entry_for) (sym c.in-Some.is) ∙ c.in_ok-command.ensures.value in
    rw p.1 (
      _,
      _,
      [],
      taken entry_of (step_entry (order_of own by_tens)) c.args.self.now.sorteds.0 c.args.line.now (entry_for c.in-Some.command) is,
      (0, inl refl, refl),
      c.in_err-push_reply.ensures.err ∙ sym (append-nil c.args.text.now.items),
      inr (ran (step_entry (order_of own by_tens) c.args.self.now.sorteds.0 (entry_for c.in-Some.command)) c.play.new.self.sorteds.0 (lines_of c.in_ok-reply.reply) (c.in_ok-reply.ensures.reply ∙ sym (stepped (order_of own by_tens) c.args.self.now.sorteds.0 c.in-Some.command))),
    )

pub returns-in_err-push_reply-clause-ready : goal.returns-in_err-push_reply-clause-ready
returns-in_err-push_reply-clause-ready g c = rw c.in_ok-reply.ensures.function (c.requires.0, c.requires.1, c.in_ok-reply.ensures.in_order)

pub returns-clause-taken : goal.returns-clause-taken
returns-clause-taken g c =
    let reply = c.in_ok-reply.reply in
    let old = c.args.self.now.sorteds.0 in
    let order = order_of own by_tens in
    let is = ap (option_map entry_for) (sym c.in-Some.is) ∙ c.in_ok-command.ensures.value in (
      text_of (lines_of reply) ∷ [],
      taken_as entry_of (step_entry order) old c.play.new.self.sorteds.0 c.args.line.now (entry_for c.in-Some.command) (lines_of reply) is (c.in_ok-reply.ensures.reply ∙ sym (stepped order old c.in-Some.command)),
      c.in_ok-push_reply.ensures.ok ∙ ap (λ xs. c.args.text.now.items ++ xs) (sym (append-nil (text_of (lines_of reply)))),
    )

pub returns-clause-ready : goal.returns-clause-ready
returns-clause-ready g c = rw c.in_ok-reply.ensures.function (c.requires.0, c.requires.1, c.in_ok-reply.ensures.in_order)
