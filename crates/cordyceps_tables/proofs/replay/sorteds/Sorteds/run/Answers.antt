use Rattle.std.proofs.Common.{ap}
use Rattle.std.proofs.lemmas.Result.{IfOk-weaker, on_err_weaker}
use Rattle.cordyceps_tables.specs.Sorteds.{order_of}
use Rattle.cordyceps_tables.proofs.Ordered.{own, each_is_preorder, stays_in_order_if}
use Rattle.cordyceps_tables.proofs.replay.sorteds.Sorteds.run.Goals as goal

pub returns-clause-in_order : goal.returns-clause-in_order
returns-clause-in_order g c =
    λ cmp by sorted. stays_in_order_if (order_of own cmp) (each_is_preorder cmp by.lawful) c.args.self.now.0 c.run_named.new.self.0 c.args.command.now c.run_named.result
    (IfOk-weaker c.run_named.result _ _ (λ reply ran. ran cmp by sorted) c.run_named.ensures.ok) (on_err_weaker c.run_named.result (λ same. ap (λ s. s.0) same) c.run_named.ensures.err) sorted
