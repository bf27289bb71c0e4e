use Rattle.std.proofs.Common.{ℕ, refl}
use Rattle.cordyceps_map.specs.Chains.{hash_of}
use Rattle.cordyceps_map.proofs.Revalued.{revalued, seen_written, seen_held, seen_kept}
use Rattle.cordyceps_map.proofs.Seen.{inner_has}
use Rattle.cordyceps_many.proofs.ValueAt.{index_value}
use Rattle.cordyceps_map.proofs.stable_map.StableMap.value_at_mut.Goals as goal

pub get_mut-entry-requires : goal.get_mut-entry-requires
get_mut-entry-requires g c = inner_has c.self.inside.nodes.nodes c.self.inside.nodes.lists c.args.self.now c.self.view_is c.args.at c.requires

pub invariant_of-self-lent : goal.invariant_of-self-lent
invariant_of-self-lent g c =
    let hash : g.row.K.Denot → ℕ = (λ (x : g.row.K.Denot). hash_of g.S.BuildHasher g.S.Hasher.Hasher c.self.inside.hasher (g.K.Hash.hash_input x)) in let ns = c.self.inside.nodes.nodes in let e = c.get_mut-entry.result.now in
    λ w. revalued ns c.args.at e (index_value ns c.args.at e c.get_mut-entry.ensures.value) w g.K.PartialEq.eq hash c.self.inside.buckets.items c.self.invariant

pub returns : goal.returns
returns g c =
    let ns = c.self.inside.nodes.nodes in let ls = c.self.inside.nodes.lists in let v = c.args.self.now in let p = c.args.at in let e = c.get_mut-entry.result.now in
    let says = index_value ns p e c.get_mut-entry.ensures.value in (
      (refl, λ w. seen_written ns p e says w ls v c.self.view_is),
      record { writes_back = tt; value = (e.key, seen_held ns p e says ls v c.self.view_is); kept = λ w q h. seen_kept v p w q h },
    )
