use Rattle.std.proofs.Common.{◌/◌, ap}
use Rattle.std.proofs.lemmas.Result.{IfOk-weaker, on_err_weaker}
use Rattle.cordyceps_tables.specs.Sorteds.{order_of}
use Rattle.cordyceps_tables.proofs.Keys.{computes_by}
use Rattle.cordyceps_tables.proofs.Ordered.{own, each_is_preorder, stays_in_order_if}
use Rattle.replay_sessions.specs.Tens.{by_tens}
use Rattle.replay_sessions.proofs.sorted_session.SortedSession.play.Goals as goal

pub run-requires-clause-total : goal.run-requires-clause-total
run-requires-clause-total g c = (by_tens, computes_by (λ x. x.value / 10) g.F.Fn c.args.self.now.sorteds.1 c.requires.tens)

pub returns-clause-reply : goal.returns-clause-reply
returns-clause-reply g c =
    let computes = computes_by (λ x. x.value / 10) g.F.Fn c.args.self.now.sorteds.1 c.requires.tens in
    IfOk-weaker c.run.result _ _ (λ reply ran. ran by_tens computes c.requires.in_order) c.run.ensures.ok

pub returns-clause-in_order : goal.returns-clause-in_order
returns-clause-in_order g c =
    let computes = computes_by (λ x. x.value / 10) g.F.Fn c.args.self.now.sorteds.1 c.requires.tens in
    stays_in_order_if (order_of own by_tens) (each_is_preorder by_tens computes.lawful) c.args.self.now.sorteds.0 c.run.new.self.0 c.args.command c.run.result
    (returns-clause-reply g c) (on_err_weaker c.run.result (λ same. ap (λ s. s.0) same) c.run.ensures.err) c.requires.in_order
