use Rattle.std.proofs.Common.{◌≡◌, subst}
use Rattle.cordyceps_single.specs.Arrangement.{put}
use Rattle.cordyceps_tables.proofs.replay.sorteds.insert.Goals as goal

pub returns-clause-put : goal.returns-clause-put
returns-clause-put g c =
    λ cmp by sorted. subst (λ e. c.insert.new.self.elements ≡ put cmp c.args.list.now.elements e) c.in_ok-node_of.ensures (c.insert.ensures.placed cmp by sorted)
