use Rattle.std.proofs.Common.{None, sym, ap, ◌∙◌, subst, slice_set}
use Rattle.std.proofs.lemmas.List.{get_or_default}
use Rattle.cordyceps_map.specs.Chains.{IsRedirected}
use Rattle.cordyceps_map.proofs.Nulls.{comparable_at}
use Rattle.cordyceps_map.proofs.chains.enter.Goals as goal

pub to-requires : goal.to-requires
to-requires g c = comparable_at c.args.nodes.now.nodes c.args.at c.lists_agree.ensures.comparable c.requires.there

pub returns-clause-entered : goal.returns-clause-entered
returns-clause-entered g c =
    let hs = c.args.buckets.now in let b = c.args.bucket in
    record {
      within = c.requires.within;
      nodes = subst (λ h. IsRedirected c.args.nodes.now.nodes c.args.at h c.redirect.new.nodes.nodes) (sym (get_or_default hs b None c.index-buckets-bucket.result c.requires.within ∙ sym c.index-buckets-bucket.is)) c.redirect.ensures.nodes;
      heads = ap (slice_set hs b) c.to.ensures;
    }
