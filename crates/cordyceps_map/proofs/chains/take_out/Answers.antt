use Rattle.std.proofs.Common.{length, refl, sym, ap, ◌∙◌, subst}
use Rattle.cordyceps_many.specs.MultiList.{list_at}
use Rattle.cordyceps_many.specs.Threads.{without}
use Rattle.cordyceps_map.specs.Shown.{shown, seen}
use Rattle.cordyceps_map.specs.StableMap.{IsFound, IsRemoved, pairs}
use Rattle.cordyceps_map.proofs.Finding.{when_none, placed_has, before_has, cut_has, placed_found, removed}
use Rattle.cordyceps_map.proofs.Leaving.{cut_long, left, gone}
use Rattle.cordyceps_map.proofs.Looking.{none_of_entry}
use Rattle.cordyceps_map.proofs.chains.take_out.Goals as goal

pub leave-requires-clause-there : goal.leave-requires-clause-there
leave-requires-clause-there g c =
    let place = c.in_ok-place.place in
    placed_has g.K.PartialEq.eq c.args.nodes.now.nodes c.args.buckets.now c.args.key.now place.bucket place.before place.at c.in_ok-place.ensures

pub leave-requires-clause-before : goal.leave-requires-clause-before
leave-requires-clause-before g c =
    let place = c.in_ok-place.place in
    before_has g.K.PartialEq.eq c.args.nodes.now.nodes c.args.buckets.now c.args.key.now place.bucket place.before place.at c.in_ok-place.ensures

pub remove-requires : goal.remove-requires
remove-requires g c =
    let eq = g.K.PartialEq.eq in let ns = c.args.nodes.now.nodes in let hs = c.args.buckets.now in let k = c.args.key.now in
    let place = c.in_ok-place.place in let j = place.bucket in let before = place.before in let p = place.at in
    cut_has eq ns hs k j before p c.leave.new.nodes.nodes c.leave.new.buckets c.leave.ensures.cut p (placed_has eq ns hs k j before p c.in_ok-place.ensures)

pub returns-in_err-place : goal.returns-in_err-place
returns-in_err-place g c =
    let eq = g.K.PartialEq.eq in let v = seen c.args.nodes.now (length c.args.buckets.now) in let k = c.args.key.now in
    let none = none_of_entry eq k (pairs v.nodes) c.in_err-place.ensures in
    record {
      removed = when_none (λ n. IsRemoved eq g.H.Rows.count v k n v) c.from_residual.result c.from_residual.ensures (none, refl);
      gone = none;
      kept = λ p h other. h;
      map = λ hash m. m;
      long = refl;
    }

pub returns : goal.returns
returns g c =
    let eq = g.K.PartialEq.eq in let ns = c.args.nodes.now.nodes in let ls = c.args.nodes.now.lists in let hs = c.args.buckets.now in let k = c.args.key.now in
    let place = c.in_ok-place.place in let j = place.bucket in let before = place.before in let p = place.at in let w = c.in_ok-place.ensures in
    let d = c.leave.new.nodes.nodes in let ms = c.leave.new.buckets in let u = c.leave.ensures.cut in
    let n = c.remove.result in let e = c.remove.new.self.nodes in let (b, a, was, is_left) = c.remove.ensures.taken in
    let distinct = c.lists_agree.ensures.distinct in
    record {
      removed = removed eq ns hs k j ls (seen c.args.nodes.now (length hs)) refl before p w d ms u n e c.remove.ensures.taken g.H.Rows.count c.remove.new.self.lists
          (λ i less. c.remove.ensures.lists i less ∙ ap (λ z. without p (list_at i z)) c.leave.ensures.lists) (length ms) (cut_long ns hs j p d ms before u);
      gone = none_of_entry eq k (pairs (shown e)) (gone eq c.requires.hash ns hs c.requires.map k j p d ms before w u distinct n e b a was is_left g.met.K.Eq.laws);
      kept = λ q h other. c.remove.ensures.kept q (cut_has eq ns hs k j before p d ms u q h) (λ same. other (subst (IsFound eq (shown ns) k) (sym same) (placed_found eq ns hs k j ls (seen c.args.nodes.now (length hs)) refl before p w)));
      map = λ hash m. left eq hash ns hs m k j p d ms before w u distinct n e b a was is_left;
      long = cut_long ns hs j p d ms before u;
    }
