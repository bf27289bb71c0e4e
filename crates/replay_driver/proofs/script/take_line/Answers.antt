use Rattle.std.proofs.Common.{[], sym, ◌∙◌, arith}
use Rattle.replay_driver.proofs.Leads.{short_line}
use Rattle.replay_driver.proofs.script.take_line.Goals as goal

pub returns-in-Err-clause-taken : goal.returns-in-Err-clause-taken
returns-in-Err-clause-taken g c =
    let (next, texts, front, step, among, after, moved) = c.in-Err.ensures.taken in
    let short = short_line g.S.Session.machine (g.S.Session.state c.args.session.now) c.args.line.now (omega arith) in
    (next, texts, front, short ∙ step, among, ([], g.met.O.Sink.takes_nothing c.args.output.now, sym after), moved)
