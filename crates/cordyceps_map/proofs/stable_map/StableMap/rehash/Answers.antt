use Rattle.std.proofs.Common.{ℕ, length, sym, ap, ◌∙◌, subst}
use Rattle.std.specs.Int.{IsPowerOfTwo, IsNextPowerOfTwo}
use Rattle.cordyceps_many.specs.MultiList.{list_at}
use Rattle.cordyceps_map.specs.Chains.{hash_of, IsMap}
use Rattle.cordyceps_map.proofs.Filling.{refilled}
use Rattle.cordyceps_map.proofs.Lent.{lent_items}
use Rattle.cordyceps_map.proofs.stable_map.StableMap.rehash.Goals as goal

pub invariant_of-self : goal.invariant_of-self
invariant_of-self g c =
    let eq = g.K.PartialEq.eq in let hash : g.row.K.Denot → ℕ = (λ (x : g.row.K.Denot). hash_of g.S.BuildHasher g.S.Hasher.Hasher c.self.inside.hasher (g.K.Hash.hash_input x)) in let d = c.fill.new.nodes.nodes in let ms = c.fill.new.buckets in
    let power = subst IsPowerOfTwo (sym (c.fill.ensures.long ∙ ap length c.as_mut_slice.ensures.value)) c.in_ok-buckets.ensures.empty.power in
    subst (λ z. IsMap eq hash d z) (sym (lent_items c.in_ok-buckets.buckets.len ms _ (c.fill.ensures.long ∙ c.as_mut_slice.ensures.len)))
    (refilled eq hash c.self.inside.nodes.nodes c.self.inside.buckets.items c.self.invariant d ms (list_at 0 c.fill.new.nodes.lists) c.fill.ensures.shows power c.fill.ensures.chained (c.lists_agree.ensures.inside 0) c.lists_agree.ensures.all)

pub returns-clause-buckets : goal.returns-clause-buckets
returns-clause-buckets g c =
    let ms = c.fill.new.buckets in let long = c.fill.ensures.long in
    subst (IsNextPowerOfTwo c.args.capacity) (sym (ap length (lent_items c.in_ok-buckets.buckets.len ms _ (long ∙ c.as_mut_slice.ensures.len)) ∙ long ∙ ap length c.as_mut_slice.ensures.value)) c.in_ok-buckets.ensures.count
