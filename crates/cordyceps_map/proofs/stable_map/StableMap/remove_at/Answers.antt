use Rattle.std.proofs.Common.{◌≡◌, ℕ, length, None, MatchOption, sym, ap, ◌∙◌, subst}
use Rattle.std.specs.Map.{lookup_entry}
use Rattle.cordyceps_base.specs.BySpot.{IsTaken}
use Rattle.cordyceps_base.specs.Nodes.{Nodes}
use Rattle.cordyceps_map.specs.Shown.{shown, shown_element}
use Rattle.cordyceps_map.specs.StableMap.{Mapped, pairs}
use Rattle.cordyceps_map.specs.Chains.{hash_of, IsMap, IsPlace, IsCut}
use Rattle.cordyceps_map.proofs.Finding.{no_some, placed_has, before_has, cut_has, never_none, same_place}
use Rattle.cordyceps_map.proofs.Leaving.{cut_long, cut_shows, left}
use Rattle.cordyceps_map.proofs.Lent.{lent_items}
use Rattle.cordyceps_map.proofs.Seen.{inner_has}
use Rattle.cordyceps_map.proofs.ShownNodes.{shown_has, shown_taken}
use Rattle.cordyceps_many.proofs.ValueAt.{held_value}
use Rattle.cordyceps_map.proofs.stable_map.StableMap.remove_at.Goals as goal

pub get-requires : goal.get-requires
get-requires g c = inner_has c.self.inside.nodes.nodes c.self.inside.nodes.lists c.args.self.now c.self.view_is c.args.at c.requires

pub place_of-requires : goal.place_of-requires
place_of-requires g c =
    subst (λ h. IsMap g.K.PartialEq.eq (λ (x : g.row.K.Denot). hash_of g.S.BuildHasher g.S.Hasher.Hasher c.self.inside.hasher (g.K.Hash.hash_input x)) c.self.inside.nodes.nodes h) (sym c.as_slice.ensures.value) c.self.invariant

pub unreachable-requires : goal.unreachable-requires
unreachable-requires g c =
    let eq = g.K.PartialEq.eq in let hash : g.row.K.Denot → ℕ = (λ (x : g.row.K.Denot). hash_of g.S.BuildHasher g.S.Hasher.Hasher c.self.inside.hasher (g.K.Hash.hash_input x)) in let ns = c.self.inside.nodes.nodes in let ls = c.self.inside.nodes.lists in let v = c.args.self.now in let seen = c.self.view_is in
    let hs = c.self.inside.buckets.items in let at = c.args.at in let e = c.get.result.now in let k = e.key in let says = held_value ns at e c.lists_agree.ensures.distinct c.get.ensures in
    let told : MatchOption c.place_of.result (lookup_entry (eq k) (pairs (shown ns)) ≡ None) (λ z. IsPlace eq ns c.as_slice.result.now k z.bucket z.before z.at) = c.place_of.ensures in
    never_none eq g.met.K.Eq.laws hash ns hs c.self.invariant at e says
    (subst (λ o. MatchOption o (lookup_entry (eq k) (pairs (shown ns)) ≡ None) (λ z. IsPlace eq ns c.as_slice.result.now k z.bucket z.before z.at)) (no_some c.place_of.result c.in_default.not-Some) told)

pub leave-requires-clause-there : goal.leave-requires-clause-there
leave-requires-clause-there g c =
    let eq = g.K.PartialEq.eq in let hash : g.row.K.Denot → ℕ = (λ (x : g.row.K.Denot). hash_of g.S.BuildHasher g.S.Hasher.Hasher c.self.inside.hasher (g.K.Hash.hash_input x)) in let ns = c.self.inside.nodes.nodes in let ls = c.self.inside.nodes.lists in let v = c.args.self.now in let seen = c.self.view_is in
    let hs = c.self.inside.buckets.items in let at = c.args.at in let e = c.get.result.now in let k = e.key in let says = held_value ns at e c.lists_agree.ensures.distinct c.get.ensures in
    let told : MatchOption c.place_of.result (lookup_entry (eq k) (pairs (shown ns)) ≡ None) (λ z. IsPlace eq ns c.as_slice.result.now k z.bucket z.before z.at) = c.place_of.ensures in
    let place = c.in-Some.place in let j = place.bucket in let before = place.before in
    let w = subst (λ h. IsPlace eq ns h k j before place.at) c.as_slice.ensures.value (subst (λ o. MatchOption o (lookup_entry (eq k) (pairs (shown ns)) ≡ None) (λ z. IsPlace eq ns c.as_slice.result.now k z.bucket z.before z.at)) c.in-Some.is told) in
    placed_has eq ns hs k j before place.at w

pub leave-requires-clause-before : goal.leave-requires-clause-before
leave-requires-clause-before g c =
    let eq = g.K.PartialEq.eq in let hash : g.row.K.Denot → ℕ = (λ (x : g.row.K.Denot). hash_of g.S.BuildHasher g.S.Hasher.Hasher c.self.inside.hasher (g.K.Hash.hash_input x)) in let ns = c.self.inside.nodes.nodes in let ls = c.self.inside.nodes.lists in let v = c.args.self.now in let seen = c.self.view_is in
    let hs = c.self.inside.buckets.items in let at = c.args.at in let e = c.get.result.now in let k = e.key in let says = held_value ns at e c.lists_agree.ensures.distinct c.get.ensures in
    let told : MatchOption c.place_of.result (lookup_entry (eq k) (pairs (shown ns)) ≡ None) (λ z. IsPlace eq ns c.as_slice.result.now k z.bucket z.before z.at) = c.place_of.ensures in
    let place = c.in-Some.place in let j = place.bucket in let before = place.before in
    let w = subst (λ h. IsPlace eq ns h k j before place.at) c.as_slice.ensures.value (subst (λ o. MatchOption o (lookup_entry (eq k) (pairs (shown ns)) ≡ None) (λ z. IsPlace eq ns c.as_slice.result.now k z.bucket z.before z.at)) c.in-Some.is told) in
    before_has eq ns hs k j before place.at w

pub remove-requires : goal.remove-requires
remove-requires g c =
    let eq = g.K.PartialEq.eq in let hash : g.row.K.Denot → ℕ = (λ (x : g.row.K.Denot). hash_of g.S.BuildHasher g.S.Hasher.Hasher c.self.inside.hasher (g.K.Hash.hash_input x)) in let ns = c.self.inside.nodes.nodes in let ls = c.self.inside.nodes.lists in let v = c.args.self.now in let seen = c.self.view_is in
    let hs = c.self.inside.buckets.items in let at = c.args.at in let e = c.get.result.now in let k = e.key in let says = held_value ns at e c.lists_agree.ensures.distinct c.get.ensures in
    let told : MatchOption c.place_of.result (lookup_entry (eq k) (pairs (shown ns)) ≡ None) (λ z. IsPlace eq ns c.as_slice.result.now k z.bucket z.before z.at) = c.place_of.ensures in
    let place = c.in-Some.place in let j = place.bucket in let before = place.before in
    let w = subst (λ h. IsPlace eq ns h k j before place.at) c.as_slice.ensures.value (subst (λ o. MatchOption o (lookup_entry (eq k) (pairs (shown ns)) ≡ None) (λ z. IsPlace eq ns c.as_slice.result.now k z.bucket z.before z.at)) c.in-Some.is told) in
    let same = same_place eq g.met.K.Eq.laws hash ns hs c.self.invariant at e says j before place.at w in let here = subst (λ z. IsPlace eq ns hs k j before z) same w in
    let d = c.leave.new.nodes.nodes in let ms = c.leave.new.buckets in
    let u = subst (λ h. IsCut ns h j before at d ms) c.as_mut_slice.ensures.value (subst (λ z. IsCut ns c.as_mut_slice.result.now j before z d ms) same c.leave.ensures.cut) in
    cut_has eq ns hs k j before at d ms u at (placed_has eq ns hs k j before at here)

pub invariant_of-self : goal.invariant_of-self
invariant_of-self g c =
    let eq = g.K.PartialEq.eq in let hash : g.row.K.Denot → ℕ = (λ (x : g.row.K.Denot). hash_of g.S.BuildHasher g.S.Hasher.Hasher c.self.inside.hasher (g.K.Hash.hash_input x)) in let ns = c.self.inside.nodes.nodes in let ls = c.self.inside.nodes.lists in let v = c.args.self.now in let seen = c.self.view_is in
    let hs = c.self.inside.buckets.items in let at = c.args.at in let e = c.get.result.now in let k = e.key in let says = held_value ns at e c.lists_agree.ensures.distinct c.get.ensures in
    let told : MatchOption c.place_of.result (lookup_entry (eq k) (pairs (shown ns)) ≡ None) (λ z. IsPlace eq ns c.as_slice.result.now k z.bucket z.before z.at) = c.place_of.ensures in
    let place = c.in-Some.place in let j = place.bucket in let before = place.before in
    let w = subst (λ h. IsPlace eq ns h k j before place.at) c.as_slice.ensures.value (subst (λ o. MatchOption o (lookup_entry (eq k) (pairs (shown ns)) ≡ None) (λ z. IsPlace eq ns c.as_slice.result.now k z.bucket z.before z.at)) c.in-Some.is told) in
    let same = same_place eq g.met.K.Eq.laws hash ns hs c.self.invariant at e says j before place.at w in let here = subst (λ z. IsPlace eq ns hs k j before z) same w in
    let d = c.leave.new.nodes.nodes in let ms = c.leave.new.buckets in
    let u = subst (λ h. IsCut ns h j before at d ms) c.as_mut_slice.ensures.value (subst (λ z. IsCut ns c.as_mut_slice.result.now j before z d ms) same c.leave.ensures.cut) in
    let (b, a, was, is_left) = c.remove.ensures.taken in
    subst (λ z. IsMap eq hash c.remove.new.self.nodes z) (sym (lent_items c.self.inside.buckets.len ms _ (cut_long ns c.as_mut_slice.result.now j place.at d ms before c.leave.ensures.cut ∙ c.as_mut_slice.ensures.len)))
    (left eq hash ns hs c.self.invariant k j at d ms before here u c.lists_agree.ensures.distinct c.remove.result c.remove.new.self.nodes b a was is_left)

pub returns-clause-taken : goal.returns-clause-taken
returns-clause-taken g c =
    let eq = g.K.PartialEq.eq in let hash : g.row.K.Denot → ℕ = (λ (x : g.row.K.Denot). hash_of g.S.BuildHasher g.S.Hasher.Hasher c.self.inside.hasher (g.K.Hash.hash_input x)) in let ns = c.self.inside.nodes.nodes in let ls = c.self.inside.nodes.lists in let v = c.args.self.now in let seen = c.self.view_is in
    let hs = c.self.inside.buckets.items in let at = c.args.at in let e = c.get.result.now in let k = e.key in let says = held_value ns at e c.lists_agree.ensures.distinct c.get.ensures in
    let told : MatchOption c.place_of.result (lookup_entry (eq k) (pairs (shown ns)) ≡ None) (λ z. IsPlace eq ns c.as_slice.result.now k z.bucket z.before z.at) = c.place_of.ensures in
    let place = c.in-Some.place in let j = place.bucket in let before = place.before in
    let w = subst (λ h. IsPlace eq ns h k j before place.at) c.as_slice.ensures.value (subst (λ o. MatchOption o (lookup_entry (eq k) (pairs (shown ns)) ≡ None) (λ z. IsPlace eq ns c.as_slice.result.now k z.bucket z.before z.at)) c.in-Some.is told) in
    let same = same_place eq g.met.K.Eq.laws hash ns hs c.self.invariant at e says j before place.at w in let here = subst (λ z. IsPlace eq ns hs k j before z) same w in
    let d = c.leave.new.nodes.nodes in let ms = c.leave.new.buckets in
    let u = subst (λ h. IsCut ns h j before at d ms) c.as_mut_slice.ensures.value (subst (λ z. IsCut ns c.as_mut_slice.result.now j before z d ms) same c.leave.ensures.cut) in
    subst (λ (z : Nodes (g.row.K.Denot × g.row.V.Denot)). IsTaken z at (shown_element c.remove.result) (shown c.remove.new.self.nodes))
    (cut_shows ns hs j at d ms before u ∙ ap (λ (z : Mapped (g.row.K.Denot × g.row.V.Denot)). z.nodes) seen)
    (shown_taken d at c.remove.result c.remove.new.self.nodes c.remove.ensures.taken)

pub returns-clause-kept : goal.returns-clause-kept
returns-clause-kept g c =
    let eq = g.K.PartialEq.eq in let hash : g.row.K.Denot → ℕ = (λ (x : g.row.K.Denot). hash_of g.S.BuildHasher g.S.Hasher.Hasher c.self.inside.hasher (g.K.Hash.hash_input x)) in let ns = c.self.inside.nodes.nodes in let ls = c.self.inside.nodes.lists in let v = c.args.self.now in let seen = c.self.view_is in
    let hs = c.self.inside.buckets.items in let at = c.args.at in let e = c.get.result.now in let k = e.key in let says = held_value ns at e c.lists_agree.ensures.distinct c.get.ensures in
    let told : MatchOption c.place_of.result (lookup_entry (eq k) (pairs (shown ns)) ≡ None) (λ z. IsPlace eq ns c.as_slice.result.now k z.bucket z.before z.at) = c.place_of.ensures in
    let place = c.in-Some.place in let j = place.bucket in let before = place.before in
    let w = subst (λ h. IsPlace eq ns h k j before place.at) c.as_slice.ensures.value (subst (λ o. MatchOption o (lookup_entry (eq k) (pairs (shown ns)) ≡ None) (λ z. IsPlace eq ns c.as_slice.result.now k z.bucket z.before z.at)) c.in-Some.is told) in
    let same = same_place eq g.met.K.Eq.laws hash ns hs c.self.invariant at e says j before place.at w in let here = subst (λ z. IsPlace eq ns hs k j before z) same w in
    let d = c.leave.new.nodes.nodes in let ms = c.leave.new.buckets in
    let u = subst (λ h. IsCut ns h j before at d ms) c.as_mut_slice.ensures.value (subst (λ z. IsCut ns c.as_mut_slice.result.now j before z d ms) same c.leave.ensures.cut) in
    λ p h other. shown_has c.remove.new.self.nodes p (c.remove.ensures.kept p (cut_has eq ns hs k j before at d ms u p (inner_has ns ls v seen p h)) other)

pub returns-clause-buckets : goal.returns-clause-buckets
returns-clause-buckets g c =
    let ms = c.leave.new.buckets in
    let long = cut_long c.self.inside.nodes.nodes c.as_mut_slice.result.now c.in-Some.place.bucket c.in-Some.place.at c.leave.new.nodes.nodes ms c.in-Some.place.before c.leave.ensures.cut in
    ap length (lent_items c.self.inside.buckets.len ms _ (long ∙ c.as_mut_slice.ensures.len)) ∙ long ∙ ap length c.as_mut_slice.ensures.value ∙ ap (λ (z : Mapped (g.row.K.Denot × g.row.V.Denot)). z.buckets) c.self.view_is
