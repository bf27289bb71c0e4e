use Rattle.std.proofs.Common.{length, ap, sym, ◌∙◌}
use Rattle.cordyceps_c_timers.specs.Timers.{Running, due_of}
use Rattle.cordyceps_c_timers.proofs.Arranging.{as_long}
use Rattle.cordyceps_c_timers.proofs.timers.Timers.len.Goals as goal

pub returns : goal.returns
returns c =
    let was = c.self.inside.queue in
    c.len.ensures ∙ sym (as_long due_of was.nodes) ∙ ap (λ (t : Running). length t.nodes) c.self.view_is
