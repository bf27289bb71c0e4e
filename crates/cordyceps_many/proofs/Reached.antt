-- Which nodes the ends of a list, and the neighbours of a node, lead to.
use Rattle.std.proofs.Common.{◌≡◌, ℕ, Bool, true, if◌then◌else◌, List, [], ◌∷◌, ◌++◌, sym, ap, ◌∙◌, subst}
use denote.RawPtr.{Ptr, null_ptr, InBlock, Testable}
use Rattle.cordyceps_base.specs.Boxes.{box_addresses}
use Rattle.cordyceps_base.specs.Spots.{same_ptr, AreNullComparable}
use Rattle.cordyceps_base.proofs.SpotsMemory.{same_ptr_refl}
use Rattle.cordyceps_many.specs.declared.hook.Hook.{Hook}
use Rattle.cordyceps_many.specs.declared.hook.Ends.{Ends}
use Rattle.cordyceps_many.specs.Threads.{is_in, Chain, IsParted}
use Rattle.cordyceps_many.specs.Rows.{Held, hook_at, Reaches}
use Rattle.cordyceps_many.proofs.HookRows.{comparable_at, marked_in}
use Rattle.cordyceps_many.proofs.Threads.{Goes, null_Testable, in_here, in_append, in_more, split, Parts, parts, last_in, chain_front, chain_back}

module _ {X Y A E : Type 0} where
  pub reach_moved : (p : Ptr) (ns ms : List (Held X Y A E)) → box_addresses ms ≡ box_addresses ns → Reaches p ns → Reaches p ms
  reach_moved p ns ms e r = record { testable = r.testable; there = λ b. subst (λ s. is_in p s ≡ true) (sym e) (r.there b) }

  module _ (ns : List (Held X Y A E)) (a : AreNullComparable (box_addresses ns)) where
    module _ (f : Ptr → Hook) where
      pub reach_last : (h : Ptr) (s : List Ptr) (t q : Ptr) → Chain f null_ptr h s t q → ((x : Ptr) → is_in x s ≡ true → is_in x (box_addresses ns) ≡ true) → Reaches t ns
      reach_last h [] t q c all = record { testable = subst Testable (sym c.1) null_Testable; there = λ b. absurd (subst InBlock c.1 b) }
      reach_last h (x ∷ s) t q c all = let i = all t (last_in f null_ptr h x s t q c) in record { testable = (comparable_at (box_addresses ns) t a i).1; there = λ b. i }

      pub reach_first : (p h : Ptr) (s : List Ptr) (t : Ptr) → Chain f p h s t null_ptr → ((x : Ptr) → is_in x s ≡ true → is_in x (box_addresses ns) ≡ true) → Reaches h ns
      reach_first p h [] t c all = record { testable = subst Testable (sym c.0) null_Testable; there = λ b. absurd (subst InBlock c.0 b) }
      reach_first p h (x ∷ s) t c all = let i = all h (in_here h x s (subst (λ z. same_ptr h z ≡ true) c.0.0 (same_ptr_refl h))) in record { testable = (comparable_at (box_addresses ns) h a i).1; there = λ b. i }

    module _ (i : ℕ) (e : Ends) (s : List Ptr) (w : Goes (hook_at ns i) e s) where
      pub all_in : (x : Ptr) → is_in x s ≡ true → is_in x (box_addresses ns) ≡ true
      all_in x m = marked_in ns i x (w.marked x m)

      pub solid : (x : Ptr) → is_in x s ≡ true → InBlock x
      solid x m = (comparable_at (box_addresses ns) x a (all_in x m)).0

      pub last_reached : Reaches e.last.ptr ns
      last_reached = reach_last (hook_at ns i) e.first.ptr s e.last.ptr null_ptr w.chain all_in

      pub first_reached : Reaches e.first.ptr ns
      first_reached = reach_first (hook_at ns i) null_ptr e.first.ptr s e.last.ptr w.chain all_in

      module _ (p : Ptr) (there : is_in p s ≡ true) where
        u : Parts p s
        u = parts p s there

        chained : Chain (hook_at ns i) null_ptr e.first.ptr (u.front ++ p ∷ u.back) e.last.ptr null_ptr
        chained = subst (λ l. Chain (hook_at ns i) null_ptr e.first.ptr l e.last.ptr null_ptr) u.whole w.chain

        pub prev_reached : Reaches (hook_at ns i p).prev.ptr ns
        prev_reached = reach_last (hook_at ns i) e.first.ptr u.front (hook_at ns i p).prev.ptr p (chain_front (hook_at ns i) null_ptr e.first.ptr u.front p u.back e.last.ptr null_ptr chained)
            (λ x m. all_in x (ap (is_in x) u.whole ∙ in_append x u.front (p ∷ u.back) ∙ ap (λ (b : Bool). if b then true else is_in x (p ∷ u.back)) m))

        pub next_reached : Reaches (hook_at ns i p).next.ptr ns
        next_reached = reach_first (hook_at ns i) p (hook_at ns i p).next.ptr u.back e.last.ptr (chain_back (hook_at ns i) null_ptr e.first.ptr u.front p u.back e.last.ptr null_ptr chained)
            (λ x m. all_in x (ap (is_in x) u.whole ∙ in_append x u.front (p ∷ u.back) ∙ split (is_in x u.front) (λ yes. ap (λ (b : Bool). if b then true else is_in x (p ∷ u.back)) yes) (λ no. ap (λ (b : Bool). if b then true else is_in x (p ∷ u.back)) no ∙ in_more x p u.back m)))

    module _ (i : ℕ) (e : Ends) (s t : List Ptr) (prev next : Ptr) (w : Goes (hook_at ns i) e (s ++ t)) (d : IsParted (hook_at ns i) e s prev next t) where
      pub before_reached : Reaches prev ns
      before_reached = reach_last (hook_at ns i) e.first.ptr s prev next d.front (λ x m. all_in i e (s ++ t) w x (in_append x s t ∙ ap (λ (b : Bool). if b then true else is_in x t) m))

      pub after_reached : Reaches next ns
      after_reached = reach_first (hook_at ns i) prev next t e.last.ptr d.back (λ x m. all_in i e (s ++ t) w x (in_append x s t ∙ split (is_in x s) (λ yes. ap (λ (b : Bool). if b then true else is_in x t) yes) (λ no. ap (λ (b : Bool). if b then true else is_in x t) no ∙ m)))
