use Rattle.std.proofs.Common.{◌≡◌, length, Some, sym, ap, ◌∙◌}
use Rattle.std.proofs.lemmas.List.{length-map}
use Rattle.cordyceps_queue.proofs.shared.batch.BatchIterator.size_hint.Goals as goal

pub returns-clause-exact : goal.returns-clause-exact
returns-clause-exact g c =
    let e : c.self.inside.len ≡ length c.args.self.now = c.self.invariant ∙ (sym (length-map c.self.inside.chain _) ∙ ap length c.self.view_is) in
    λ i. (e i, Some (e i))
