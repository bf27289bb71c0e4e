use Rattle.std.proofs.Common.{◌++◌, ◌∷◌, [], refl, sym, ◌∙◌, ap, inl, inr}
use Rattle.std.proofs.lemmas.List.{append-nil}
use Rattle.std.proofs.lemmas.Result.{err_from_is_err_and}
use Rattle.replay_lines.specs.CoreReplies.{line_of_reply, core_text}
use Rattle.replay_cores.proofs.Lines.{core_taken, core_taken_as, core_ran}
use Rattle.replay_cores.proofs.core_session.CoreSessionSession.take.Goals as goal

pub returns-in_err-reply-clause-taken : goal.returns-in_err-reply-clause-taken
returns-in_err-reply-clause-taken g c =
    let p = err_from_is_err_and c.from_residual.result c.from_residual.ensures.1 in
    rw p.1 (_, _, [], core_taken g.C.ScriptedCore.command_of g.C.ScriptedCore.step c.args.self.now.core c.args.line.now c.in-Some.command c.in-Some.ensures, (0, inl refl, refl), sym (append-nil c.args.text.now.items), inl c.in_err-reply.ensures.err)

pub returns-in_err-push_core_reply-clause-taken : goal.returns-in_err-push_core_reply-clause-taken
returns-in_err-push_core_reply-clause-taken g c =
    let p = err_from_is_err_and c.from_residual-in_err-push_core_reply.result c.from_residual-in_err-push_core_reply.ensures.1 in
    rw p.1 (
      _,
      _,
      [],
      core_taken g.C.ScriptedCore.command_of g.C.ScriptedCore.step c.args.self.now.core c.args.line.now c.in-Some.command c.in-Some.ensures,
      (0, inl refl, refl),
      c.in_err-push_core_reply.ensures.err ∙ sym (append-nil c.args.text.now.items),
      inr (core_ran (g.C.ScriptedCore.step c.args.self.now.core c.in-Some.command) c.play.new.self (line_of_reply c.in_ok-reply.reply) c.in_ok-reply.ensures.ok),
    )

pub returns-clause-taken : goal.returns-clause-taken
returns-clause-taken g c =
    let reply = c.in_ok-reply.reply in (
      core_text (line_of_reply reply) ∷ [],
      core_taken_as g.C.ScriptedCore.command_of g.C.ScriptedCore.step c.args.self.now.core c.play.new.self c.args.line.now c.in-Some.command (line_of_reply reply) c.in-Some.ensures c.in_ok-reply.ensures.ok,
      c.in_ok-push_core_reply.ensures.ok ∙ ap (λ xs. c.args.text.now.items ++ xs) (sym (append-nil (core_text (line_of_reply reply)))),
    )
