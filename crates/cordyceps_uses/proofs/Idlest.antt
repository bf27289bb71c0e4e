-- What the calls of a sorted list leave of connections in order.
use Rattle.std.proofs.Common.{◌≡◌, ℕ, ◌≤◌, ◌<◌, List, [], ◌∷◌, Option, Some, None, length, ap, sym, ◌∙◌, subst, arith}
use Rattle.std.specs.Prelude.{MatchOption}
use denote.RawPtr.{Ptr}
use Rattle.cordyceps.specs.Elements.Element.{Element, values}
use Rattle.cordyceps.specs.Elements.Nodes.{Nodes, elements, spots}
use Rattle.cordyceps.specs.Orders.ByKey.{AscendsBy}
use Rattle.cordyceps.specs.Spots.Spots.{AreDistinct}
use Rattle.cordyceps.proofs.Orders.Keys.{below_all, first_least}
use Rattle.cordyceps_uses.specs.declared.connections.Connection.{Connection}
use Rattle.cordyceps_uses.specs.Connections.{active, AllActiveSince, IsKept, OpenConnections, TakesIdlest}

module _ {K : Type 0} where
  -- a table after a call
  pub keeps : (was new : Nodes (Connection K)) (k : ℕ) → IsKept was k → AscendsBy active new → AreDistinct (spots new) → length new ≤ k → IsKept new k
  keeps was new k h in_order distinct fits = record { in_order = in_order; distinct = distinct; fits = fits; some = h.some }

  -- after `pop_front`, by its clause `taken`: the first was idle longest, and there was one
  pub popped : (Q : Element (Connection K) → Ptr → Type 0) (P : Element (Connection K) → Type 0) (A : Type 0) (r : Option (Element (Connection K))) (was new : Nodes (Connection K)) (k : ℕ) (t : OpenConnections K) → ◌≡◌ {A = OpenConnections K} (record { nodes = was; capacity = k }) t
      → MatchOption r ((was ≡ []) × (new ≡ [])) (λ e. (p : Ptr) × (was ≡ (p, e) ∷ new) × Q e p) → IsKept was k → (was ≡ [] → ⊥) → AreDistinct (spots new) → ((e : Element (Connection K)) → TakesIdlest was e new → P e)
      → IsKept new k × MatchOption r A (λ e. TakesIdlest t.nodes e new × P e)
  popped Q P A None was new k t view (none, _) h some distinct says = absurd (some none)
  popped Q P A (Some e) was new k t view (p, is, _) h some distinct says =
      let (least, rest) = first_least active (p, e) was new is h.in_order in
      let takes : TakesIdlest was e new = record { spot = p; first = is; idlest = least } in
      (keeps was new k h rest distinct (omega (arith, ap length is, h.fits)), (subst (λ (o : OpenConnections K). TakesIdlest o.nodes e new) view takes, says e takes))

  -- what was read of the first holds of all, and of the one that comes out
  pub none_since : (since : ℕ) (s : Nodes (Connection K)) → values (elements s) ≡ [] → AllActiveSince since s
  none_since since [] e = tt
  none_since since (n ∷ s) e = absurd cc

  pub some_there : (s : Nodes (Connection K)) (x : Connection K) (rest : List (Connection K)) → values (elements s) ≡ x ∷ rest → s ≡ [] → ⊥
  some_there s x rest v none = let no : ◌≡◌ {A = List (Connection K)} [] (x ∷ rest) = ap (λ n. values (elements n)) (sym none) ∙ v in cc

  pub all_since : (since : ℕ) (s : Nodes (Connection K)) (x : Connection K) (rest : List (Connection K)) → values (elements s) ≡ x ∷ rest → since ≤ x.last_active → AscendsBy active s → AllActiveSince since s
  all_since since [] x rest e h o = tt
  all_since since (n ∷ s) x rest e h o = let same : n.1.value ≡ x = cc in below_all active since n s (subst (λ (c : Connection K). since ≤ c.last_active) (sym same) h) o

  pub first_read : (since : ℕ) (s left : Nodes (Connection K)) (out : Element (Connection K)) (x : Connection K) (rest : List (Connection K)) → values (elements s) ≡ x ∷ rest → TakesIdlest s out left → x.last_active < since → out.value.last_active < since
  first_read since s left out x rest v t h =
      let both : out.value ∷ values (elements left) ≡ x ∷ rest = ap (λ n. values (elements n)) (sym t.first) ∙ v in let same : out.value ≡ x = cc in
      subst (λ (c : Connection K). c.last_active < since) (sym same) h
