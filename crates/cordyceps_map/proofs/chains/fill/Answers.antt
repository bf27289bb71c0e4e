use Rattle.std.proofs.Common.{◌<◌, ℕ, length, Some, MatchOption, refl, sym, ap, ◌∙◌, subst}
use Rattle.std.proofs.lemmas.List.{length-set}
use Rattle.cordyceps_many.specs.Entries.{from_place}
use Rattle.cordyceps_many.specs.MultiList.{list_at, IsLastOf, AreNextIn}
use Rattle.cordyceps_many.specs.Threads.{is_in}
use Rattle.cordyceps_map.specs.Chains.{hash_of}
use Rattle.cordyceps_map.proofs.Filling.{IsFilling, begun, gone_on, fewer, among, filled}
use Rattle.cordyceps_map.proofs.Finding.{no_some}
use Rattle.cordyceps_many.proofs.ValueAt.{held_value}
use Rattle.cordyceps_map.proofs.Powers.{positive}
use Rattle.cordyceps_map.proofs.chains.fill.Goals as goal

pub loop-at-init : goal.loop-at-init
loop-at-init g c =
    let hash : g.row.K.Denot → ℕ = (λ (x : g.row.K.Denot). hash_of g.S.BuildHasher g.S.Hasher.Hasher c.args.hasher.now (g.K.Hash.hash_input x)) in
    record { way = begun hash c.args.nodes.now.nodes c.args.buckets.now (list_at 0 c.args.nodes.now.lists) c.front-at.result c.requires c.front-at.ensures.first; long = refl; shows = refl; lists = refl }

pub get-requires : goal.get-requires
get-requires g c =
    let hash : g.row.K.Denot → ℕ = (λ (x : g.row.K.Denot). hash_of g.S.BuildHasher g.S.Hasher.Hasher c.args.hasher.now (g.K.Hash.hash_input x)) in let ns = c.loop-at.nodes.nodes in let hs = c.loop-at.buckets in let s = list_at 0 c.loop-at.nodes.lists in let p = c.in-Some.spot in
    let w = subst (λ o. IsFilling hash ns hs s o) c.in-Some.is c.loop-at.invariant.way in let once = c.lists_agree.ensures.once 0 in
    c.lists_agree.ensures.inside 0 p (among hash ns hs s p w once)

pub bucket_of-bucket-requires : goal.bucket_of-bucket-requires
bucket_of-bucket-requires g c = subst (λ n. 0 < n) (sym c.loop-at.invariant.long) (positive (length c.args.buckets.now) c.requires.power)

pub enter-requires-clause-there : goal.enter-requires-clause-there
enter-requires-clause-there g c =
    let hash : g.row.K.Denot → ℕ = (λ (x : g.row.K.Denot). hash_of g.S.BuildHasher g.S.Hasher.Hasher c.args.hasher.now (g.K.Hash.hash_input x)) in let ns = c.loop-at.nodes.nodes in let hs = c.loop-at.buckets in let s = list_at 0 c.loop-at.nodes.lists in let p = c.in-Some.spot in
    let w = subst (λ o. IsFilling hash ns hs s o) c.in-Some.is c.loop-at.invariant.way in let once = c.lists_agree.ensures.once 0 in
    c.lists_agree.ensures.inside 0 p (among hash ns hs s p w once)

pub next-at-requires-clause-in_list : goal.next-at-requires-clause-in_list
next-at-requires-clause-in_list g c =
    let hash : g.row.K.Denot → ℕ = (λ (x : g.row.K.Denot). hash_of g.S.BuildHasher g.S.Hasher.Hasher c.args.hasher.now (g.K.Hash.hash_input x)) in let ns = c.loop-at.nodes.nodes in let hs = c.loop-at.buckets in let s = list_at 0 c.loop-at.nodes.lists in let p = c.in-Some.spot in
    let w = subst (λ o. IsFilling hash ns hs s o) c.in-Some.is c.loop-at.invariant.way in let once = c.lists_agree.ensures.once 0 in
    ap (λ z. is_in p (list_at 0 z)) c.enter.ensures.lists ∙ among hash ns hs s p w once

pub loop-at-smaller : goal.loop-at-smaller
loop-at-smaller g c =
    let hash : g.row.K.Denot → ℕ = (λ (x : g.row.K.Denot). hash_of g.S.BuildHasher g.S.Hasher.Hasher c.args.hasher.now (g.K.Hash.hash_input x)) in let ns = c.loop-at.nodes.nodes in let hs = c.loop-at.buckets in let s = list_at 0 c.loop-at.nodes.lists in let p = c.in-Some.spot in
    let w = subst (λ o. IsFilling hash ns hs s o) c.in-Some.is c.loop-at.invariant.way in let once = c.lists_agree.ensures.once 0 in
    let d = c.enter.new.nodes.nodes in let ms = c.enter.new.buckets in let r = c.enter.ensures.entered in let o = c.next-at.result in
    let same = ap (list_at 0) c.enter.ensures.lists in
    let n = subst (λ z. MatchOption o (IsLastOf z p) (λ q. AreNextIn z p q)) same c.next-at.ensures.step in
    subst (λ a. length (from_place o (list_at 0 c.enter.new.nodes.lists)) < length (from_place a s)) (sym c.in-Some.is)
    (subst (λ z. length (from_place o z) < length (from_place (Some p) s)) (sym same) (fewer hash ns hs s p w once o n))

pub loop-at-preserved : goal.loop-at-preserved
loop-at-preserved g c =
    let hash : g.row.K.Denot → ℕ = (λ (x : g.row.K.Denot). hash_of g.S.BuildHasher g.S.Hasher.Hasher c.args.hasher.now (g.K.Hash.hash_input x)) in let ns = c.loop-at.nodes.nodes in let hs = c.loop-at.buckets in let s = list_at 0 c.loop-at.nodes.lists in let p = c.in-Some.spot in
    let w = subst (λ o. IsFilling hash ns hs s o) c.in-Some.is c.loop-at.invariant.way in let once = c.lists_agree.ensures.once 0 in
    let d = c.enter.new.nodes.nodes in let ms = c.enter.new.buckets in let r = c.enter.ensures.entered in let o = c.next-at.result in
    let same = ap (list_at 0) c.enter.ensures.lists in
    let n = subst (λ z. MatchOption o (IsLastOf z p) (λ q. AreNextIn z p q)) same c.next-at.ensures.step in
    record {
      way = subst (λ z. IsFilling hash d ms z o) (sym same) (gone_on hash ns hs s p w once d ms c.bucket_of-bucket.result r c.get.result.now (held_value ns p c.get.result.now c.lists_agree.ensures.distinct c.get.ensures) c.bucket_of-bucket.ensures.bucket o n);
      long = ap length r.heads ∙ length-set hs _ (Some p) ∙ c.loop-at.invariant.long;
      shows = r.nodes.shows ∙ c.loop-at.invariant.shows;
      lists = c.enter.ensures.lists ∙ c.loop-at.invariant.lists;
    }

pub returns-clause-chained : goal.returns-clause-chained
returns-clause-chained g c =
    let hash : g.row.K.Denot → ℕ = (λ (x : g.row.K.Denot). hash_of g.S.BuildHasher g.S.Hasher.Hasher c.args.hasher.now (g.K.Hash.hash_input x)) in
    filled hash c.loop-at.nodes.nodes c.loop-at.buckets (list_at 0 c.loop-at.nodes.lists) (subst (λ o. IsFilling hash c.loop-at.nodes.nodes c.loop-at.buckets (list_at 0 c.loop-at.nodes.lists) o) (no_some c.loop-at.at c.in_default.not-Some) c.loop-at.invariant.way)
