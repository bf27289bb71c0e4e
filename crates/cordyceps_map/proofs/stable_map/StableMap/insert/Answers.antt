use Rattle.std.proofs.Common.{◌≡◌, ◌<◌, ℕ, length, None, refl, sym, ap, ◌∙◌, rules, subst, arith}
use Rattle.std.specs.Int.{IsPowerOfTwo}
use Rattle.std.specs.Map.{lookup, lookup_entry}
use Rattle.cordyceps_base.specs.Element.{Element}
use Rattle.cordyceps_many.specs.MultiList.{list_at}
use Rattle.cordyceps_many.specs.Threads.{is_in}
use Rattle.cordyceps_map.specs.Chains.{hash_of, bucket_in, IsMap}
use Rattle.cordyceps_map.specs.Shown.{shown, seen}
use Rattle.cordyceps_map.specs.StableMap.{Mapped, pairs, IsFound}
use Rattle.cordyceps_map.proofs.Added.{retold, no_more, added, added_has, added_keeps, long}
use Rattle.cordyceps_map.proofs.Finding.{bucket_said}
use Rattle.cordyceps_map.proofs.Inserting.{inserted}
use Rattle.cordyceps_map.proofs.Lent.{lent_items}
use Rattle.cordyceps_map.proofs.Looking.{entry_of_none, found_joined}
use Rattle.cordyceps_map.proofs.Seen.{inner_has}
use Rattle.cordyceps_map.proofs.ShownNodes.{shown_has}
use Rattle.cordyceps_map.proofs.Powers.{positive}
use Rattle.cordyceps_map.proofs.stable_map.StableMap.insert.Goals as goal

pub bucket_of-bucket-requires : goal.bucket_of-bucket-requires
bucket_of-bucket-requires g c = let some = positive (length c.self.inside.buckets.items) c.self.invariant.power in search rules

pub take_out-replaced-requires : goal.take_out-replaced-requires
take_out-replaced-requires g c =
    let eq = g.K.PartialEq.eq in let hash : g.row.K.Denot → ℕ = (λ (x : g.row.K.Denot). hash_of g.S.BuildHasher g.S.Hasher.Hasher c.self.inside.hasher (g.K.Hash.hash_input x)) in let ns = c.self.inside.nodes.nodes in let k = c.key-key.result.now in
    bucket_said eq hash ns c.self.inside.buckets.items c.as_mut_slice.result.now k c.len.result c.bucket_of-bucket.result c.self.invariant c.as_mut_slice.ensures.value (c.len.ensures ∙ sym c.as_mut_slice.ensures.len)
    (λ x same. ap (hash_of g.S.BuildHasher g.S.Hasher.Hasher c.self.inside.hasher) (g.met.K.Hash.respects_eq k x same)) c.bucket_of-bucket.ensures.bucket c.bucket_of-bucket.ensures.within

pub insert-spot-requires : goal.insert-spot-requires
insert-spot-requires g c =
    let eq = g.K.PartialEq.eq in let ns = c.self.inside.nodes.nodes in let v = c.args.self.now in let k = c.args.node.value.0 in let rest = c.take_out-replaced.new.nodes in let w = seen rest (length c.take_out-replaced.new.buckets) in
    let told = retold eq g.H.Rows.count (seen c.self.inside.nodes (length c.as_mut_slice.result.now)) v c.key-key.result.now k c.take_out-replaced.result w w (ap (λ s. seen c.self.inside.nodes (length s)) c.as_mut_slice.ensures.value ∙ c.self.view_is) c.key-key.ensures refl c.take_out-replaced.ensures.removed in
    let le = no_more eq g.H.Rows.count v k c.take_out-replaced.result w 0 g.met.H.Rows.some told in let fits = c.requires.fits in
    record { fits = omega (arith, le, fits) }

pub enter-requires-clause-within : goal.enter-requires-clause-within
enter-requires-clause-within g c = subst (λ z. c.bucket_of-bucket.result < z) (c.len.ensures ∙ sym c.as_mut_slice-2.ensures.len) c.bucket_of-bucket.ensures.within

pub invariant_of-self : goal.invariant_of-self
invariant_of-self g c =
    let eq = g.K.PartialEq.eq in let ns = c.self.inside.nodes.nodes in let v = c.args.self.now in let k = c.args.node.value.0 in let rest = c.take_out-replaced.new.nodes in let w = seen rest (length c.take_out-replaced.new.buckets) in
    let hash : g.row.K.Denot → ℕ = (λ (x : g.row.K.Denot). hash_of g.S.BuildHasher g.S.Hasher.Hasher c.self.inside.hasher (g.K.Hash.hash_input x)) in
    let n = c.node.inside.node in let p = c.insert-spot.result in let j = c.insert-spot.new.self.nodes in let joined = c.insert-spot.ensures.nodes in let hs = c.as_mut_slice-2.result.now in let d = c.enter.new.nodes.nodes in let ms = c.enter.new.buckets in let b = c.bucket_of-bucket.result in let r = c.enter.ensures.entered in
    let first : IsMap eq hash rest.nodes c.take_out-replaced.new.buckets = c.take_out-replaced.ensures.map hash (subst (IsMap eq hash ns) (sym c.as_mut_slice.ensures.value) c.self.invariant) in
    let same_slice = c.as_mut_slice-2.ensures.value ∙ lent_items c.self.inside.buckets.len c.take_out-replaced.new.buckets _ (c.take_out-replaced.ensures.long ∙ c.as_mut_slice.ensures.len) in
    let was = subst (IsMap eq hash rest.nodes) (sym same_slice) first in
    let same : c.key-key.result.now ≡ n.value.key = c.key-key.ensures ∙ ap (λ (z : Element (g.row.K.Denot × g.row.V.Denot)). z.value.0) (sym c.node.view_is) in
    let none : lookup_entry (eq n.value.key) (pairs (shown rest.nodes)) ≡ None = entry_of_none eq n.value.key (pairs (shown rest.nodes)) (subst (λ z. lookup (eq z) (pairs (shown rest.nodes)) ≡ None) same c.take_out-replaced.ensures.gone) in
    let number : b ≡ bucket_in (length hs) (hash n.value.key) = c.bucket_of-bucket.ensures.bucket ∙ ap (λ z. bucket_in z (hash c.key-key.result.now)) (c.len.ensures ∙ sym c.as_mut_slice-2.ensures.len) ∙ ap (λ z. bucket_in (length hs) (hash z)) same in
    let len = long rest.nodes rest.lists w refl p n c.args.node c.node.view_is j joined hs d ms b r in
    subst (IsMap eq hash d) (sym (lent_items c.self.inside.buckets.len ms _ (len ∙ c.as_mut_slice-2.ensures.len)))
    (inserted eq g.met.K.Eq.laws hash rest.nodes hs was p n c.insert-spot.ensures.apart none j joined d ms b r number (subst IsPowerOfTwo (sym len) was.power))

pub returns-clause-inserted : goal.returns-clause-inserted
returns-clause-inserted g c =
    let eq = g.K.PartialEq.eq in let ns = c.self.inside.nodes.nodes in let v = c.args.self.now in let k = c.args.node.value.0 in let rest = c.take_out-replaced.new.nodes in let w = seen rest (length c.take_out-replaced.new.buckets) in
    let told = retold eq g.H.Rows.count (seen c.self.inside.nodes (length c.as_mut_slice.result.now)) v c.key-key.result.now k c.take_out-replaced.result w w (ap (λ s. seen c.self.inside.nodes (length s)) c.as_mut_slice.ensures.value ∙ c.self.view_is) c.key-key.ensures refl c.take_out-replaced.ensures.removed in
    let n = c.node.inside.node in let p = c.insert-spot.result in let j = c.insert-spot.new.self.nodes in let joined = c.insert-spot.ensures.nodes in let hs = c.as_mut_slice-2.result.now in let d = c.enter.new.nodes.nodes in let ms = c.enter.new.buckets in let b = c.bucket_of-bucket.result in let r = c.enter.ensures.entered in
    let same_slice = c.as_mut_slice-2.ensures.value ∙ lent_items c.self.inside.buckets.len c.take_out-replaced.new.buckets _ (c.take_out-replaced.ensures.long ∙ c.as_mut_slice.ensures.len) in
    let len = long rest.nodes rest.lists w refl p n c.args.node c.node.view_is j joined hs d ms b r in
    record {
      rest = w;
      replaced = told;
      added = added rest.nodes rest.lists w refl p n c.args.node c.node.view_is j joined hs d ms b r c.enter.new.nodes.lists (ap (list_at 0) c.enter.ensures.lists ∙ c.insert-spot.ensures.list) (λ i not. ap (list_at i) c.enter.ensures.lists ∙ c.insert-spot.ensures.others i not) _
          (ap length (lent_items c.self.inside.buckets.len ms _ (len ∙ c.as_mut_slice-2.ensures.len)) ∙ len ∙ ap length same_slice);
    }

pub returns-clause-there : goal.returns-clause-there
returns-clause-there g c =
    let eq = g.K.PartialEq.eq in let ns = c.self.inside.nodes.nodes in let v = c.args.self.now in let k = c.args.node.value.0 in let rest = c.take_out-replaced.new.nodes in let w = seen rest (length c.take_out-replaced.new.buckets) in
    let n = c.node.inside.node in let p = c.insert-spot.result in let j = c.insert-spot.new.self.nodes in let joined = c.insert-spot.ensures.nodes in let hs = c.as_mut_slice-2.result.now in let d = c.enter.new.nodes.nodes in let ms = c.enter.new.buckets in let b = c.bucket_of-bucket.result in let r = c.enter.ensures.entered in
    added_has rest.nodes rest.lists w refl p n c.args.node c.node.view_is j joined hs d ms b r c.insert-spot.ensures.there

pub returns-clause-not_in : goal.returns-clause-not_in
returns-clause-not_in g c =
    λ i more. ap (λ z. is_in c.insert-spot.result (list_at i z)) c.enter.ensures.lists ∙ c.insert-spot.ensures.not_in i more

pub returns-clause-kept : goal.returns-clause-kept
returns-clause-kept g c =
    let eq = g.K.PartialEq.eq in let ns = c.self.inside.nodes.nodes in let v = c.args.self.now in let k = c.args.node.value.0 in let rest = c.take_out-replaced.new.nodes in let w = seen rest (length c.take_out-replaced.new.buckets) in
    let n = c.node.inside.node in let p = c.insert-spot.result in let j = c.insert-spot.new.self.nodes in let joined = c.insert-spot.ensures.nodes in let hs = c.as_mut_slice-2.result.now in let d = c.enter.new.nodes.nodes in let ms = c.enter.new.buckets in let b = c.bucket_of-bucket.result in let r = c.enter.ensures.entered in
    λ q h other.
    let left = c.take_out-replaced.ensures.kept q (inner_has ns c.self.inside.nodes.lists v c.self.view_is q h)
    (λ found. other (subst (λ (z : Mapped (g.row.K.Denot × g.row.V.Denot)). IsFound eq z.nodes k q) c.self.view_is (subst (λ z. IsFound eq (shown ns) z q) c.key-key.ensures found))) in
    added_keeps rest.nodes rest.lists w refl p n c.args.node c.node.view_is j joined hs d ms b r q (c.insert-spot.ensures.kept q) (shown_has rest.nodes q left)

pub returns-clause-found : goal.returns-clause-found
returns-clause-found g c =
    let eq = g.K.PartialEq.eq in let ns = c.self.inside.nodes.nodes in let v = c.args.self.now in let k = c.args.node.value.0 in let rest = c.take_out-replaced.new.nodes in let w = seen rest (length c.take_out-replaced.new.buckets) in
    let n = c.node.inside.node in let p = c.insert-spot.result in let j = c.insert-spot.new.self.nodes in let joined = c.insert-spot.ensures.nodes in let hs = c.as_mut_slice-2.result.now in let d = c.enter.new.nodes.nodes in let ms = c.enter.new.buckets in let b = c.bucket_of-bucket.result in let r = c.enter.ensures.entered in
    let nodes = (added rest.nodes rest.lists w refl p n c.args.node c.node.view_is j joined hs d ms b r c.enter.new.nodes.lists (ap (list_at 0) c.enter.ensures.lists ∙ c.insert-spot.ensures.list) (λ i not. ap (list_at i) c.enter.ensures.lists ∙ c.insert-spot.ensures.others i not) (length c.take_out-replaced.new.buckets) refl).nodes in
    ap (λ z. lookup (eq k) (pairs z)) nodes ∙ found_joined eq k w.nodes p c.args.node (subst (λ z. lookup (eq z) (pairs w.nodes) ≡ None) c.key-key.ensures c.take_out-replaced.ensures.gone) (g.met.K.Eq.laws.refl k)

pub returns-clause-no_longer : goal.returns-clause-no_longer
returns-clause-no_longer g c =
    let eq = g.K.PartialEq.eq in let ns = c.self.inside.nodes.nodes in let v = c.args.self.now in let k = c.args.node.value.0 in let rest = c.take_out-replaced.new.nodes in let w = seen rest (length c.take_out-replaced.new.buckets) in
    let told = retold eq g.H.Rows.count (seen c.self.inside.nodes (length c.as_mut_slice.result.now)) v c.key-key.result.now k c.take_out-replaced.result w w (ap (λ s. seen c.self.inside.nodes (length s)) c.as_mut_slice.ensures.value ∙ c.self.view_is) c.key-key.ensures refl c.take_out-replaced.ensures.removed in
    let n = c.node.inside.node in let p = c.insert-spot.result in let j = c.insert-spot.new.self.nodes in let joined = c.insert-spot.ensures.nodes in let hs = c.as_mut_slice-2.result.now in let d = c.enter.new.nodes.nodes in let ms = c.enter.new.buckets in let b = c.bucket_of-bucket.result in let r = c.enter.ensures.entered in
    λ i more less.
    let le = no_more eq g.H.Rows.count v k c.take_out-replaced.result w i less told in
    let others = (added rest.nodes rest.lists w refl p n c.args.node c.node.view_is j joined hs d ms b r c.enter.new.nodes.lists (ap (list_at 0) c.enter.ensures.lists ∙ c.insert-spot.ensures.list) (λ i not. ap (list_at i) c.enter.ensures.lists ∙ c.insert-spot.ensures.others i not) (length c.take_out-replaced.new.buckets) refl).others.lists in
    let e = ap length (others i (λ z. omega (arith, z, more))) in omega (arith, le, e)
