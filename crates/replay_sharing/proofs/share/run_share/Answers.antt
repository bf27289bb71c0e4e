use Rattle.std.proofs.Common.{sym, ap, ◌∙◌, subst, append-nil}
use Rattle.replay_sharing.specs.Sharing.{line_of_numbers}
use Rattle.replay_sharing.proofs.share.run_share.Goals as goal

pub returns-in-Ok-flush : goal.returns-in-Ok-flush
returns-in-Ok-flush g c =
    let line = c.in-Ok-line_of.ensures ∙ ap (λ z. line_of_numbers z) (c.deref.ensures.value ∙ c.in_ok-values.ensures.ok.answer) in
    let wrote = c.in-Ok-flush.ensures.wrote in
    subst (λ z. g.O.Sink.takes c.args.output.now c.flush.new.output z) (sym (append-nil wrote.0) ∙ (sym wrote.2 ∙ (append-nil c.in-Ok-line_of.line.items ∙ line))) wrote.1

pub returns : goal.returns
returns g c =
    let line = c.in-Ok-line_of.ensures ∙ ap (λ z. line_of_numbers z) (c.deref.ensures.value ∙ c.in_ok-values.ensures.ok.answer) in
    let front = c.in-Err.ensures.front in
    (c.in-Err.ensures.fails, front.1.0, front.0, sym line ∙ (sym (append-nil c.in-Ok-line_of.line.items) ∙ front.1.2), front.1.1)
