use Rattle.std.proofs.Common.{ℕ, length, refl, sym, ap, ◌∙◌, rules, subst}
use Rattle.cordyceps_map.specs.Chains.{hash_of, IsMap}
use Rattle.cordyceps_map.specs.Shown.{seen}
use Rattle.cordyceps_map.specs.StableMap.{Mapped, IsFound}
use Rattle.cordyceps_map.proofs.Added.{retold}
use Rattle.cordyceps_map.proofs.Finding.{bucket_said}
use Rattle.cordyceps_map.proofs.Lent.{lent_items}
use Rattle.cordyceps_map.proofs.Seen.{inner_has}
use Rattle.cordyceps_map.proofs.ShownNodes.{shown_has}
use Rattle.cordyceps_map.proofs.Powers.{positive}
use Rattle.cordyceps_map.proofs.stable_map.StableMap.remove.Goals as goal

pub bucket_of-bucket-requires : goal.bucket_of-bucket-requires
bucket_of-bucket-requires g c = let some = positive (length c.self.inside.buckets.items) c.self.invariant.power in search rules

pub take_out-requires : goal.take_out-requires
take_out-requires g c =
    let eq = g.K.PartialEq.eq in let hash : g.row.K.Denot → ℕ = (λ (x : g.row.K.Denot). hash_of g.S.BuildHasher g.S.Hasher.Hasher c.self.inside.hasher (g.K.Hash.hash_input x)) in let ns = c.self.inside.nodes.nodes in
    bucket_said eq hash ns c.self.inside.buckets.items c.as_mut_slice.result.now c.args.key.now c.len.result c.bucket_of-bucket.result c.self.invariant c.as_mut_slice.ensures.value (c.len.ensures ∙ sym c.as_mut_slice.ensures.len)
    (λ x same. ap (hash_of g.S.BuildHasher g.S.Hasher.Hasher c.self.inside.hasher) (g.met.K.Hash.respects_eq c.args.key.now x same)) c.bucket_of-bucket.ensures.bucket c.bucket_of-bucket.ensures.within

pub invariant_of-self : goal.invariant_of-self
invariant_of-self g c =
    let eq = g.K.PartialEq.eq in let hash : g.row.K.Denot → ℕ = (λ (x : g.row.K.Denot). hash_of g.S.BuildHasher g.S.Hasher.Hasher c.self.inside.hasher (g.K.Hash.hash_input x)) in let ns = c.self.inside.nodes.nodes in
    subst (IsMap eq hash c.take_out.new.nodes.nodes) (sym (lent_items c.self.inside.buckets.len c.take_out.new.buckets _ (c.take_out.ensures.long ∙ c.as_mut_slice.ensures.len)))
    (c.take_out.ensures.map hash (subst (IsMap eq hash ns) (sym c.as_mut_slice.ensures.value) c.self.invariant))

pub returns-clause-removed : goal.returns-clause-removed
returns-clause-removed g c =
    let s = c.self.inside.nodes in let ms = c.take_out.new.buckets in let t = c.take_out.new.nodes in let k = c.args.key.now in
    retold g.K.PartialEq.eq g.H.Rows.count (seen s (length c.as_mut_slice.result.now)) c.args.self.now k k c.take_out.result (seen t (length ms)) _
    (ap (λ hs. seen s (length hs)) c.as_mut_slice.ensures.value ∙ c.self.view_is) refl
    (ap (λ hs. seen t (length hs)) (sym (lent_items c.self.inside.buckets.len ms _ (c.take_out.ensures.long ∙ c.as_mut_slice.ensures.len)))) c.take_out.ensures.removed

pub returns-clause-kept : goal.returns-clause-kept
returns-clause-kept g c =
    let eq = g.K.PartialEq.eq in let ns = c.self.inside.nodes.nodes in let ls = c.self.inside.nodes.lists in let v = c.args.self.now in
    λ p h other. shown_has c.take_out.new.nodes.nodes p (c.take_out.ensures.kept p (inner_has ns ls v c.self.view_is p h) (λ found. other (subst (λ (z : Mapped (g.row.K.Denot × g.row.V.Denot)). IsFound eq z.nodes c.args.key.now p) c.self.view_is found)))
