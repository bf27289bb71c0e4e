use Rattle.std.proofs.Common.{ℕ, Some, sym, subst}
use Rattle.cordyceps_map.specs.StableMap.{IsFound}
use Rattle.cordyceps_map.specs.Chains.{hash_of, IsMap}
use Rattle.cordyceps_map.proofs.Finding.{when_none, placed_has, placed_found, not_found}
use Rattle.cordyceps_map.proofs.Seen.{some_outer}
use Rattle.cordyceps_map.proofs.stable_map.StableMap.find.Goals as goal

pub place_of-requires : goal.place_of-requires
place_of-requires g c =
    subst (λ h. IsMap g.K.PartialEq.eq (λ (x : g.row.K.Denot). hash_of g.S.BuildHasher g.S.Hasher.Hasher c.self.inside.hasher (g.K.Hash.hash_input x)) c.self.inside.nodes.nodes h) (sym c.as_slice.ensures.value) c.self.invariant

pub returns-in_err-place-clause-found : goal.returns-in_err-place-clause-found
returns-in_err-place-clause-found g c =
    let eq = g.K.PartialEq.eq in let hash : g.row.K.Denot → ℕ = (λ (x : g.row.K.Denot). hash_of g.S.BuildHasher g.S.Hasher.Hasher c.self.inside.hasher (g.K.Hash.hash_input x)) in let ns = c.self.inside.nodes.nodes in let ls = c.self.inside.nodes.lists in let v = c.args.self.now in let seen = c.self.view_is in let k = c.args.key.now in
    when_none (IsFound eq v.nodes k) c.from_residual.result c.from_residual.ensures (not_found eq ns c.as_slice.result.now k 0 ls v seen (c.in_err-place.ensures))

pub returns-clause-found : goal.returns-clause-found
returns-clause-found g c =
    let eq = g.K.PartialEq.eq in let hash : g.row.K.Denot → ℕ = (λ (x : g.row.K.Denot). hash_of g.S.BuildHasher g.S.Hasher.Hasher c.self.inside.hasher (g.K.Hash.hash_input x)) in let ns = c.self.inside.nodes.nodes in let ls = c.self.inside.nodes.lists in let v = c.args.self.now in let seen = c.self.view_is in let k = c.args.key.now in
    placed_found eq ns c.as_slice.result.now k c.in_ok-place.place.bucket ls v seen c.in_ok-place.place.before c.in_ok-place.place.at (c.in_ok-place.ensures)

pub returns-clause-there : goal.returns-clause-there
returns-clause-there g c =
    let eq = g.K.PartialEq.eq in let hash : g.row.K.Denot → ℕ = (λ (x : g.row.K.Denot). hash_of g.S.BuildHasher g.S.Hasher.Hasher c.self.inside.hasher (g.K.Hash.hash_input x)) in let ns = c.self.inside.nodes.nodes in let ls = c.self.inside.nodes.lists in let v = c.args.self.now in let seen = c.self.view_is in let k = c.args.key.now in
    some_outer ns ls v seen (Some c.in_ok-place.place.at) (placed_has eq ns c.as_slice.result.now k c.in_ok-place.place.bucket c.in_ok-place.place.before c.in_ok-place.place.at (c.in_ok-place.ensures))
