-- Sequences of entries: which is found, in which order they are, and what the values at spots make of it.
use Rattle.std.proofs.Common.{◌≡◌, ◌≤◌, ℕ, zero, suc, Bool, true, false, if◌then◌else◌, cond, List, [], ◌∷◌, ◌++◌, length, Option, Some, None, refl, sym, ap, ◌∙◌, subst, arith, length-append}
use Rattle.std.specs.List.{All}
use Rattle.std.specs.Map.{lookup, lookup_entry, remove_entry}
use Rattle.std.proofs.lemmas.List.Elements.{All-nil, All-cons, All-head, All-tail}
use denote.RawPtr.{Ptr}
use Rattle.cordyceps.specs.Spots.BySpot.{HasSpot}
use Rattle.cordyceps.specs.Elements.Nodes.{Nodes}
use Rattle.cordyceps.specs.Spots.Spots.{same_ptr, index_of}
use Rattle.cordyceps.proofs.Spots.{same_ptr_refl}
use Rattle.cordyceps.specs.Spots.Entries.{value_at}
use Rattle.cordyceps.specs.Spots.Threads.{is_in, with_after}
use Rattle.cordyceps.proofs.Spots.Members.{in_self, has_in}
use Rattle.cordyceps.proofs.Spots.Threads.{split, in_more, not_in}
use Rattle.cordyceps.proofs.Spots.ValueAt.{value_here, value_there, in_value}
use Rattle.cordyceps.specs.Spots.StableMap.{pairs}
use Rattle.cordyceps_uses.specs.Keyed.{moved_back, IsOut, with_value, in_order, AreFrom}

-- ---- which entry is found
module _ {K X : Type 0} (t : K → Bool) where
  not_first : (x : K × X) (f : List (K × X)) → lookup_entry t (x ∷ f) ≡ None → (t x.0 ≡ false) × (lookup_entry t f ≡ None)
  not_first x f e = split (t x.0)
      (λ yes. let u = sym (ap (λ (b : Bool). cond b (Some x) (lookup_entry t f)) yes) ∙ e in absurd cc)
      (λ no. (no, sym (ap (λ (b : Bool). cond b (Some x) (lookup_entry t f)) no) ∙ e))

  pub none_passes : (f : List (K × X)) → All (λ x. t x.0 ≡ false) f → lookup_entry t f ≡ None
  none_passes [] a = refl
  none_passes (x ∷ f) a = ap (λ (b : Bool). cond b (Some x) (lookup_entry t f)) (All-head (λ y. t y.0 ≡ false) x f a) ∙ none_passes f (All-tail (λ y. t y.0 ≡ false) x f a)

  -- an entry that passes, behind others that do not
  pub found_past : (f b : List (K × X)) (x : K × X) → lookup_entry t f ≡ None → t x.0 ≡ true → lookup_entry t (f ++ x ∷ b) ≡ Some x
  found_past [] b x e here = ap (λ (z : Bool). cond z (Some x) (lookup_entry t b)) here
  found_past (y ∷ f) b x e here = let n = not_first y f e in ap (λ (z : Bool). cond z (Some y) (lookup_entry t (f ++ x ∷ b))) n.0 ∙ found_past f b x n.1 here

  pub cut_past : (f b : List (K × X)) (x : K × X) → lookup_entry t f ≡ None → t x.0 ≡ true → remove_entry t (f ++ x ∷ b) ≡ f ++ b
  cut_past [] b x e here = ap (λ (z : Bool). cond z b (x ∷ remove_entry t b)) here
  cut_past (y ∷ f) b x e here = let n = not_first y f e in
      ap (λ (z : Bool). cond z (f ++ x ∷ b) (y ∷ remove_entry t (f ++ x ∷ b))) n.0 ∙ ap (λ s. y ∷ s) (cut_past f b x n.1 here)

  pub none_both : (f b : List (K × X)) → lookup_entry t f ≡ None → lookup_entry t b ≡ None → lookup_entry t (f ++ b) ≡ None
  none_both [] b e h = h
  none_both (y ∷ f) b e h = let n = not_first y f e in ap (λ (z : Bool). cond z (Some y) (lookup_entry t (f ++ b))) n.0 ∙ none_both f b n.1 h

  pub none_mid : (f b : List (K × X)) (x : K × X) → lookup_entry t (f ++ x ∷ b) ≡ None → t x.0 ≡ false
  none_mid [] b x e = (not_first x b e).0
  none_mid (y ∷ f) b x e = none_mid f b x (not_first y (f ++ x ∷ b) e).1

  pub none_left : (u : K → Bool) (s : List (K × X)) → lookup_entry t s ≡ None → lookup_entry t (remove_entry u s) ≡ None
  none_left u [] e = refl
  none_left u (x ∷ s) e = let n = not_first x s e in split (u x.0)
      (λ yes. ap (λ (b : Bool). lookup_entry t (cond b s (x ∷ remove_entry u s))) yes ∙ n.1)
      (λ no. ap (λ (b : Bool). lookup_entry t (cond b s (x ∷ remove_entry u s))) no ∙ ap (λ (b : Bool). cond b (Some x) (lookup_entry t (remove_entry u s))) n.0 ∙ none_left u s n.1)

  pub none_cut : (s : List (K × X)) → lookup_entry t s ≡ None → remove_entry t s ≡ s
  none_cut [] e = refl
  none_cut (x ∷ s) e = let n = not_first x s e in ap (λ (b : Bool). cond b s (x ∷ remove_entry t s)) n.0 ∙ ap (λ z. x ∷ z) (none_cut s n.1)

  pub passes : (s : List (K × X)) (x : K × X) → lookup_entry t s ≡ Some x → t x.0 ≡ true
  passes [] x e = absurd cc
  passes (y ∷ s) x e = split (t y.0)
      (λ yes. let u = sym (ap (λ (b : Bool). cond b (Some y) (lookup_entry t s)) yes) ∙ e in let is : y ≡ x = cc in subst (λ (z : K × X). t z.0 ≡ true) is yes)
      (λ no. passes s x (sym (ap (λ (b : Bool). cond b (Some y) (lookup_entry t s)) no) ∙ e))

  pub shorter : (s : List (K × X)) (x : K × X) → lookup_entry t s ≡ Some x → length s ≡ suc (length (remove_entry t s))
  shorter [] x e = absurd cc
  shorter (y ∷ s) x e = split (t y.0)
      (λ yes. sym (ap (λ (b : Bool). suc (length (cond b s (y ∷ remove_entry t s)))) yes))
      (λ no. ap suc (shorter s x (sym (ap (λ (b : Bool). cond b (Some y) (lookup_entry t s)) no) ∙ e)) ∙ sym (ap (λ (b : Bool). suc (length (cond b s (y ∷ remove_entry t s)))) no))

  -- where no pair of the nodes is found, none passes
  pub unlike : (c : Nodes (K × X)) → lookup t (pairs c) ≡ None → (q : Ptr) (x : K × X) → value_at c q ≡ Some x → t x.0 ≡ false
  unlike [] e q x v = absurd cc
  unlike (n ∷ c) e q x v = split (t n.1.value.0)
      (λ yes. let u = sym (ap (λ (b : Bool). cond b (Some n.1.value.1) (lookup t (pairs c))) yes) ∙ e in absurd cc)
      (λ no. split (same_ptr q n.0)
      (λ same. let is : n.1.value ≡ x = let u = sym (value_here n c q same) ∙ v in cc in subst (λ (z : K × X). t z.0 ≡ false) is no)
      (λ other. unlike c (sym (ap (λ (b : Bool). cond b (Some n.1.value.1) (lookup t (pairs c))) no) ∙ e) q x (sym (value_there n c q other) ∙ v)))

module _ {K X : Type 0} where
  -- what moving the entry of a key makes
  pub moved_here : (t : K → Bool) (s : List (K × X)) (x : K × X) → lookup_entry t s ≡ Some x → moved_back t s ≡ remove_entry t s ++ x ∷ []
  moved_here t s x e = let f : Option (K × X) → List (K × X) = λ o. elim o [ Some y ↦ remove_entry t s ++ y ∷ [] | None ↦ s ] in ap f e

  pub moved_long : (t : K → Bool) (s : List (K × X)) (x : K × X) → lookup_entry t s ≡ Some x → length (moved_back t s) ≡ length s
  moved_long t s x e = ap length (moved_here t s x e) ∙ (let a = length-append (remove_entry t s) (x ∷ []) in let b = shorter t s x e in omega (arith, a, b))

  -- where one went
  pub shrunk : (eq : K → K → Bool) (s : List (K × X)) (x : K × X) (rest : List (K × X)) → IsOut eq s x rest → length s ≡ suc (length rest)
  shrunk eq s x rest o = shorter (eq x.0) s x o.found ∙ ap suc (sym (ap length o.left))

-- ---- the order of ranks
module _ {K X : Type 0} (rank : X → ℕ) where
  pub from_less : (u v : ℕ) (s : List (K × X)) → v ≤ u → AreFrom rank u s → AreFrom rank v s
  from_less u v [] le h = tt
  from_less u v (x ∷ s) le h = (let a = h.0 in omega (arith, le, a), h.1)

  pub from_mid : (u : ℕ) (f b : List (K × X)) (x : K × X) → AreFrom rank u (f ++ x ∷ b) → (u ≤ rank x.1) × AreFrom rank (rank x.1) b
  from_mid u [] b x h = h
  from_mid u (y ∷ f) b x h = let r = from_mid (rank y.1) f b x h.1 in (let a = h.0 in let l = r.0 in omega (arith, a, l), r.1)

  pub from_cut : (t : K → Bool) (u : ℕ) (s : List (K × X)) → AreFrom rank u s → AreFrom rank u (remove_entry t s)
  from_cut t u [] h = tt
  from_cut t u (x ∷ s) h = split (t x.0)
      (λ yes. subst (AreFrom rank u) (sym (ap (λ (b : Bool). cond b s (x ∷ remove_entry t s)) yes)) (from_less (rank x.1) u s h.0 h.1))
      (λ no. subst (AreFrom rank u) (sym (ap (λ (b : Bool). cond b s (x ∷ remove_entry t s)) no)) (h.0, from_cut t (rank x.1) s h.1))

  pub from_put : (u : ℕ) (f b : List (K × X)) (x y : K × X) → AreFrom rank u (f ++ x ∷ b) → rank x.1 ≤ rank y.1 → AreFrom rank (rank y.1) b → AreFrom rank u (f ++ x ∷ y ∷ b)
  from_put u [] b x y h le l = (h.0, (le, l))
  from_put u (z ∷ f) b x y h le l = (h.0, from_put (rank z.1) f b x y h.1 le l)

  pub all_from : (u : ℕ) (s : List (K × X)) → AreFrom rank u s → All (λ y. u ≤ rank y.1) s
  all_from u [] h = All-nil (λ y. u ≤ rank y.1)
  all_from u (x ∷ s) h = All-cons (λ y. u ≤ rank y.1) x s h.0 (all_from u s (from_less (rank x.1) u s h.0 h.1))

  pub all_before : (u v : ℕ) (f b : List (K × X)) (x : K × X) → AreFrom rank u (f ++ x ∷ b) → rank x.1 ≤ v → All (λ y. rank y.1 ≤ v) (f ++ x ∷ [])
  all_before u v [] b x h le = All-cons (λ y. rank y.1 ≤ v) x [] le (All-nil (λ y. rank y.1 ≤ v))
  all_before u v (z ∷ f) b x h le =
      let r = (from_mid (rank z.1) f b x h.1).0 in
      All-cons (λ y. rank y.1 ≤ v) z (f ++ x ∷ []) (omega (arith, r, le)) (all_before (rank z.1) v f b x h.1 le)

-- ---- the values at spots
with_joined : {X : Type 0} (o : Option X) (a b : List X) → with_value o (a ++ b) ≡ with_value o a ++ b
with_joined None a b = refl
with_joined (Some x) a b = refl

with_all : {X : Type 0} (P : X → Type 0) (o : Option X) (s : List X) → ((x : X) → o ≡ Some x → P x) → All P s → All P (with_value o s)
with_all P None s k a = a
with_all P (Some x) s k a = All-cons P x s (k x refl) a

pub after_mid : (p n : Ptr) (f b : List Ptr) → is_in p f ≡ false → with_after p n (f ++ p ∷ b) ≡ f ++ p ∷ n ∷ b
after_mid p n [] b o = ap (λ (z : Bool). if z then p ∷ n ∷ b else p ∷ with_after p n b) (same_ptr_refl p)
after_mid p n (x ∷ f) b o = let m = not_in p x f o in
    ap (λ (z : Bool). if z then x ∷ n ∷ (f ++ p ∷ b) else x ∷ with_after p n (f ++ p ∷ b)) m.0 ∙ ap (λ s. x ∷ s) (after_mid p n f b m.1)

pub index_mid : (p : Ptr) (f b : List Ptr) → is_in p f ≡ false → index_of p (f ++ p ∷ b) ≡ length f
index_mid p [] b o = ap (λ (z : Bool). if z then zero else suc (index_of p b)) (same_ptr_refl p)
index_mid p (x ∷ f) b o = let m = not_in p x f o in ap (λ (z : Bool). if z then zero else suc (index_of p (f ++ p ∷ b))) m.0 ∙ ap suc (index_mid p f b m.1)

module _ {X : Type 0} (c : Nodes X) where
  pub order_here : (p : Ptr) (s : List Ptr) (x : X) → value_at c p ≡ Some x → in_order c (p ∷ s) ≡ x ∷ in_order c s
  order_here p s x v = ap (λ o. with_value o (in_order c s)) v

  pub order_joined : (s t : List Ptr) → in_order c (s ++ t) ≡ in_order c s ++ in_order c t
  order_joined [] t = refl
  order_joined (p ∷ s) t = ap (with_value (value_at c p)) (order_joined s t) ∙ with_joined (value_at c p) (in_order c s) (in_order c t)

  pub order_mid : (f b : List Ptr) (p : Ptr) (x : X) → value_at c p ≡ Some x → in_order c (f ++ p ∷ b) ≡ in_order c f ++ x ∷ in_order c b
  order_mid f b p x v = order_joined f (p ∷ b) ∙ ap (λ s. in_order c f ++ s) (order_here p b x v)

  pub order_long : (s : List Ptr) → ((q : Ptr) → is_in q s ≡ true → HasSpot c q) → length (in_order c s) ≡ length s
  order_long [] i = refl
  order_long (p ∷ s) i =
      let r = in_value c p (has_in c p (i p (in_self p s))) in ap length (order_here p s r.0 r.1) ∙ ap suc (order_long s (λ q h. i q (in_more q p s h)))

  pub framed : (d : Nodes X) (s : List Ptr) → ((q : Ptr) → is_in q s ≡ true → value_at d q ≡ value_at c q) → in_order d s ≡ in_order c s
  framed d [] k = refl
  framed d (p ∷ s) k = ap (λ o. with_value o (in_order d s)) (k p (in_self p s)) ∙ ap (with_value (value_at c p)) (framed d s (λ q h. k q (in_more q p s h)))

  pub all_of : (P : X → Type 0) (s : List Ptr) → ((q : Ptr) (x : X) → is_in q s ≡ true → value_at c q ≡ Some x → P x) → All P (in_order c s)
  all_of P [] k = All-nil P
  all_of P (p ∷ s) k = with_all P (value_at c p) (in_order c s) (λ x v. k p x (in_self p s) v) (all_of P s (λ q x h v. k q x (in_more q p s h) v))
