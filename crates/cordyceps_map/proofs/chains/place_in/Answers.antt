use Rattle.std.proofs.Common.{◌<◌, ◌++◌, length, Some, None, sym, ◌∙◌, subst}
use Rattle.std.proofs.lemmas.List.{get_or_default}
use Rattle.cordyceps_base.specs.Nodes.{spots}
use Rattle.cordyceps_base.specs.Spots.{AreDistinct}
use Rattle.cordyceps_many.specs.Entries.{value_at}
use Rattle.cordyceps_many.proofs.Members.{in_has}
use Rattle.cordyceps_map.specs.Chains.{head_in, IsChain}
use Rattle.cordyceps_map.specs.Shown.{pair_of, shown}
use Rattle.cordyceps_map.proofs.Finding.{no_some}
use Rattle.cordyceps_map.proofs.Looking.{absent, present}
use Rattle.cordyceps_map.proofs.ShownNodes.{spots_shown, value_shown}
use Rattle.cordyceps_many.proofs.ValueAt.{held_value, value_in}
use Rattle.cordyceps_map.proofs.Walking.{IsOnWay, steps, begun, met, gone_on, fewer, bounded, nowhere}
use Rattle.cordyceps_map.proofs.chains.place_in.Goals as goal

pub loop-at-init : goal.loop-at-init
loop-at-init g c =
    let r = c.requires in let eq = g.K.PartialEq.eq in let ns = c.args.nodes.now.nodes in let hs = c.args.buckets.now in let k = c.args.key.now in let b = c.args.bucket in
    subst (λ h. IsOnWay eq ns (head_in hs b) k None h) (get_or_default hs b None c.index-buckets-bucket.result r.within ∙ sym c.index-buckets-bucket.is ∙ sym c.spot-at.ensures) (begun eq ns (head_in hs b) k (r.map.chained.chains b) (r.map.chained.heads b))

pub get-entry-requires : goal.get-entry-requires
get-entry-requires g c =
    let eq = g.K.PartialEq.eq in let ns = c.args.nodes.now.nodes in let h = head_in c.args.buckets.now c.args.bucket in let k = c.args.key.now in let p = c.in-Some.spot in
    let w = subst (λ o. IsOnWay eq ns h k c.loop-at.before o) c.in-Some.is c.loop-at.invariant in
    let m = met eq ns h k c.loop-at.before p w in in_has ns p (value_in ns p m.there.entry m.there.says)

pub returns-then-eq : goal.returns-then-eq
returns-then-eq g c =
    let eq = g.K.PartialEq.eq in let ns = c.args.nodes.now.nodes in let h = head_in c.args.buckets.now c.args.bucket in let k = c.args.key.now in let p = c.in-Some.spot in
    let w = subst (λ o. IsOnWay eq ns h k c.loop-at.before o) c.in-Some.is c.loop-at.invariant in
    let m = met eq ns h k c.loop-at.before p w in let e = c.get-entry.result.now in
    let says = held_value ns p e c.lists_agree.ensures.distinct c.get-entry.ensures in
    let seen = value_shown ns p e says in let same = sym c.if-eq.ensures in
    record {
      within = c.requires.within;
      front = w.front;
      back = m.after;
      entry = e;
      says = says;
      same = same;
      found = present eq k (shown ns) (subst AreDistinct (sym (spots_shown ns)) c.lists_agree.ensures.distinct) p (pair_of e) seen same
          (λ q y v yes. c.requires.map.apart q p y (pair_of e) v seen (sym (g.met.K.Eq.laws.congr k y.0 e.key yes) ∙ same));
      chain = subst (λ z. IsChain (value_at ns) h (w.front ++ z)) m.is w.whole;
      last = w.last;
    }

pub loop-at-smaller : goal.loop-at-smaller
loop-at-smaller g c =
    let eq = g.K.PartialEq.eq in let ns = c.args.nodes.now.nodes in let hs = c.args.buckets.now in let h = head_in hs c.args.bucket in let k = c.args.key.now in let p = c.in-Some.spot in
    let r = c.requires in
    let w = subst (λ o. IsOnWay eq ns h k c.loop-at.before o) c.in-Some.is c.loop-at.invariant in
    let e = c.get-entry.result.now in let says = held_value ns p e c.lists_agree.ensures.distinct c.get-entry.ensures in let n = length (spots ns) in
    subst (λ o. steps (value_at ns) n c.spot-at-in-Some.result < steps (value_at ns) n o) (sym c.in-Some.is)
    (subst (λ o. steps (value_at ns) n o < steps (value_at ns) n (Some p)) (sym c.spot-at-in-Some.ensures)
    (fewer eq ns h k n c.loop-at.before p w e says (bounded eq r.hash ns hs r.map k r.alike c.args.bucket r.number c.loop-at.before (Some p) w)))

pub loop-at-preserved : goal.loop-at-preserved
loop-at-preserved g c =
    let eq = g.K.PartialEq.eq in let ns = c.args.nodes.now.nodes in let h = head_in c.args.buckets.now c.args.bucket in let k = c.args.key.now in let p = c.in-Some.spot in
    let w = subst (λ o. IsOnWay eq ns h k c.loop-at.before o) c.in-Some.is c.loop-at.invariant in
    let e = c.get-entry.result.now in let says = held_value ns p e c.lists_agree.ensures.distinct c.get-entry.ensures in
    subst (IsOnWay eq ns h k (Some p)) (sym c.spot-at-in-Some.ensures) (gone_on eq ns h k c.loop-at.before p w e says (sym c.if-eq.ensures))

pub returns : goal.returns
returns g c =
    let eq = g.K.PartialEq.eq in let ns = c.args.nodes.now.nodes in let hs = c.args.buckets.now in let h = head_in hs c.args.bucket in let k = c.args.key.now in
    let r = c.requires in
    let w = subst (λ o. IsOnWay eq ns h k c.loop-at.before o) (no_some c.loop-at.at c.in_default.not-Some) c.loop-at.invariant in
    absent eq k (shown ns) (subst AreDistinct (sym (spots_shown ns)) c.lists_agree.ensures.distinct)
    (nowhere eq r.hash ns hs r.map k r.alike c.args.bucket r.number c.loop-at.before w)
