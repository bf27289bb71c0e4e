use Rattle.std.proofs.Common.{rules, ap, sym, ◌∙◌}
use mathlib.Core.Option.{none}
use Rattle.atomic_table.specs.Table.{step}
use Rattle.cordyceps_shared_uses.specs.Accounts.{Books}
use Rattle.cordyceps_shared_uses.proofs.Accounting.{learns}
use Rattle.cordyceps_shared_uses.proofs.scheduler.accounts.Accounts.learn.Goals as goal

pub load-requires : goal.load-requires
load-requires g c = (search rules, search rules, learns c.self.inside.table.shared.key g.B.Chosen.parts _ c.args.seat.now.id c.args.seat.now.me (step 0 0 0 0 none) c.requires.rest.other (c.requires.parts ∙ sym (ap (λ (b : Books). b.parts) c.self.view_is)))
