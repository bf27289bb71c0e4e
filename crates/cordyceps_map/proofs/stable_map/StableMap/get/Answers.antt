use Rattle.std.proofs.Common.{◌≡◌, ℕ, Some, sym, ap, ◌∙◌, subst}
use Rattle.std.specs.Prelude.{option_copied}
use Rattle.std.specs.Map.{lookup}
use Rattle.cordyceps_map.specs.Chains.{hash_of, IsMap}
use Rattle.cordyceps_map.specs.Shown.{pair_of, shown}
use Rattle.cordyceps_map.specs.StableMap.{Mapped, pairs}
use Rattle.cordyceps_map.proofs.Finding.{placed_has, not_found}
use Rattle.cordyceps_map.proofs.Looking.{value_of_entry}
use Rattle.cordyceps_many.proofs.ValueAt.{held_value}
use Rattle.cordyceps_map.proofs.stable_map.StableMap.get.Goals as goal

pub place_of-requires : goal.place_of-requires
place_of-requires g c =
    subst (λ h. IsMap g.K.PartialEq.eq (λ (x : g.row.K.Denot). hash_of g.S.BuildHasher g.S.Hasher.Hasher c.self.inside.hasher (g.K.Hash.hash_input x)) c.self.inside.nodes.nodes h) (sym c.as_slice.ensures.value) c.self.invariant

pub get-requires : goal.get-requires
get-requires g c =
    let eq = g.K.PartialEq.eq in let hash : g.row.K.Denot → ℕ = (λ (x : g.row.K.Denot). hash_of g.S.BuildHasher g.S.Hasher.Hasher c.self.inside.hasher (g.K.Hash.hash_input x)) in let ns = c.self.inside.nodes.nodes in let ls = c.self.inside.nodes.lists in let v = c.args.self.now in let seen = c.self.view_is in let k = c.args.key.now in
    placed_has eq ns c.as_slice.result.now k c.in_ok-place.place.bucket c.in_ok-place.place.before c.in_ok-place.place.at c.in_ok-place.ensures

pub returns-in_err-place : goal.returns-in_err-place
returns-in_err-place g c =
    let eq = g.K.PartialEq.eq in let hash : g.row.K.Denot → ℕ = (λ (x : g.row.K.Denot). hash_of g.S.BuildHasher g.S.Hasher.Hasher c.self.inside.hasher (g.K.Hash.hash_input x)) in let ns = c.self.inside.nodes.nodes in let ls = c.self.inside.nodes.lists in let v = c.args.self.now in let seen = c.self.view_is in let k = c.args.key.now in
    ap option_copied c.from_residual.ensures ∙ sym (not_found eq ns c.as_slice.result.now k 0 ls v seen c.in_err-place.ensures)

pub returns : goal.returns
returns g c =
    let eq = g.K.PartialEq.eq in let hash : g.row.K.Denot → ℕ = (λ (x : g.row.K.Denot). hash_of g.S.BuildHasher g.S.Hasher.Hasher c.self.inside.hasher (g.K.Hash.hash_input x)) in let ns = c.self.inside.nodes.nodes in let ls = c.self.inside.nodes.lists in let v = c.args.self.now in let seen = c.self.view_is in let k = c.args.key.now in
    let w = c.in_ok-place.ensures in let e = c.get.result.now in
    let same : w.entry ≡ e = let t = sym w.says ∙ held_value ns c.in_ok-place.place.at e c.lists_agree.ensures.distinct c.get.ensures in cc in
    sym (ap (λ (z : Mapped (g.row.K.Denot × g.row.V.Denot)). lookup (eq k) (pairs z.nodes)) (sym seen) ∙ value_of_entry eq k (pairs (shown ns)) (pair_of w.entry) w.found ∙ (λ i. Some (same i).value))
