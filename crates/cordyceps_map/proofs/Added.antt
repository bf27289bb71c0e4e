-- What a contract sees of a map that a node came into.
use Rattle.std.proofs.Common.{◌≡◌, ◌<◌, ◌≤◌, ℕ, Bool, List, [], ◌∷◌, ◌++◌, length, Option, Some, None, MatchOption, sym, ap, ◌∙◌, subst, arith}
use Rattle.std.specs.Map.{lookup}
use Rattle.std.proofs.lemmas.List.{length-set}
use denote.RawPtr.{Ptr}
use Rattle.cordyceps_base.specs.BySpot.{HasSpot}
use Rattle.cordyceps_base.specs.Element.{Element}
use Rattle.cordyceps_base.specs.Nodes.{Nodes}
use Rattle.cordyceps_many.specs.MultiList.{list_at, SameBut}
use Rattle.cordyceps_many.specs.Threads.{is_in, without}
use Rattle.cordyceps_many.proofs.Threads.{split, length_without, without_none}
use Rattle.cordyceps_map.specs.declared.entry.Entry.{Entry}
use Rattle.cordyceps_map.specs.Shown.{shown_element, shown}
use Rattle.cordyceps_map.specs.StableMap.{Mapped, pairs, IsRemoved, IsAdded}
use Rattle.cordyceps_map.specs.Chains.{IsEntered}
use Rattle.cordyceps_map.proofs.ShownNodes.{shown_has, has_shown, shown_joined}

without_shorter : (p : Ptr) (s : List Ptr) → length (without p s) ≤ length s
without_shorter p s = split (is_in p s)
    (λ there. let e = length_without p s there in omega (arith, e))
    (λ missing. let e = ap length (without_none p s missing) in omega (arith, e))

module _ {K V : Type 0} where
  -- the key may be told by another name, and the maps before and after as another sees them
  pub retold : (eq : K → K → Bool) (count : ℕ) (u v : Mapped (K × V)) (k x : K) (o : Option (Element (K × V))) (w z : Mapped (K × V)) → u ≡ v → k ≡ x → w ≡ z
      → MatchOption o ((lookup (eq k) (pairs u.nodes) ≡ None) × (w ≡ u)) (λ n. IsRemoved eq count u k n w)
      → MatchOption o ((lookup (eq x) (pairs v.nodes) ≡ None) × (z ≡ v)) (λ n. IsRemoved eq count v x n z)
  retold eq count u v k x o w z seen same left m =
      subst (λ (y : Mapped (K × V)). MatchOption o ((lookup (eq x) (pairs v.nodes) ≡ None) × (y ≡ v)) (λ n. IsRemoved eq count v x n y)) left
      (subst (λ y. MatchOption o ((lookup (eq y) (pairs v.nodes) ≡ None) × (w ≡ v)) (λ n. IsRemoved eq count v y n w)) same
      (subst (λ (y : Mapped (K × V)). MatchOption o ((lookup (eq k) (pairs y.nodes) ≡ None) × (w ≡ y)) (λ n. IsRemoved eq count y k n w)) seen m))

  -- a map of which a node may have been taken out has no more
  pub no_more : (eq : K → K → Bool) (count : ℕ) (v : Mapped (K × V)) (k : K) (o : Option (Element (K × V))) (w : Mapped (K × V)) (j : ℕ) → j < count
      → MatchOption o ((lookup (eq k) (pairs v.nodes) ≡ None) × (w ≡ v)) (λ n. IsRemoved eq count v k n w) → length (list_at j w.lists) ≤ length (list_at j v.lists)
  no_more eq count v k None w j less (none, same) = let e = ap (λ (z : Mapped (K × V)). length (list_at j z.lists)) same in omega (arith, e)
  no_more eq count v k (Some n) w j less r = let e = ap length (r.lists j less) in let le = without_shorter r.spot (list_at j v.lists) in omega (arith, e, le)

  module _ (c : Nodes (Entry K V)) (ls : List (List Ptr)) {size : ℕ} (v : Mapped (K × V)) (seen : record { nodes = shown c; lists = ls; buckets = size } ≡ v) (p : Ptr) (n : Element (Entry K V)) (m : Element (K × V)) (is : shown_element n ≡ m)
      (j : Nodes (Entry K V)) (joined : j ≡ c ++ (p, n) ∷ []) (hs : List (Option Ptr)) (d : Nodes (Entry K V)) (ms : List (Option Ptr)) (b : ℕ) (r : IsEntered j hs b p d ms) where
    pub added : (ns : List (List Ptr)) → list_at 0 ns ≡ list_at 0 ls ++ p ∷ [] → SameBut 0 ls ns → (now : ℕ) → now ≡ size → IsAdded v p m (record { nodes = shown d; lists = ns; buckets = now })
    added ns back others now same = record {
      nodes = r.nodes.shows ∙ ap shown joined ∙ shown_joined c ((p, n) ∷ []) ∙ (λ i. (seen i).nodes ++ (p, is i) ∷ []);
      list = back ∙ ap (λ (z : Mapped (K × V)). list_at 0 z.lists ++ p ∷ []) seen;
      others = record {
        lists = λ i not. others i not ∙ ap (λ (z : Mapped (K × V)). list_at i z.lists) seen;
        buckets = same ∙ ap (λ (z : Mapped (K × V)). z.buckets) seen;
      };
    }

    pub added_has : HasSpot j p → HasSpot (shown d) p
    added_has h = subst (λ z. HasSpot z p) (sym r.nodes.shows) (shown_has j p h)

    pub added_keeps : (q : Ptr) → (HasSpot c q → HasSpot j q) → HasSpot v.nodes q → HasSpot (shown d) q
    added_keeps q keeps h = subst (λ z. HasSpot z q) (sym r.nodes.shows) (shown_has j q (keeps (has_shown c q (subst (λ (z : Mapped (K × V)). HasSpot z.nodes q) (sym seen) h))))

    pub long : length ms ≡ length hs
    long = ap length r.heads ∙ length-set hs _ (Some p)
