use Rattle.std.proofs.Common.{length, sym, ap, ◌∙◌, ◌==◌}
use Rattle.std.proofs.lemmas.List.{length-map}
use Rattle.cordyceps_queue.proofs.shared.batch.Batch.is_empty.Goals as goal

pub returns : goal.returns
returns g c = ap (λ n. n == 0) (c.self.invariant ∙ (sym (length-map c.self.inside.chain _) ∙ ap length c.self.view_is))
