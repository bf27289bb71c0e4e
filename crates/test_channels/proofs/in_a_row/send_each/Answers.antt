use Rattle.std.proofs.Common.{◌∙◌}
use Rattle.test_channels.proofs.in_a_row.send_each.Goals as goal

pub loop-number-preserved : goal.loop-number-preserved
loop-number-preserved g c =
    let sends = c.in-Ok.ensures in
    (sends.acts.table ∙ c.loop-number.invariant.0, sends.acts.share ∙ c.loop-number.invariant.1)
