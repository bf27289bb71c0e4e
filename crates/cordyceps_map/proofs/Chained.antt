-- Chains through nodes, where what is said of a spot changes.
use Rattle.std.proofs.Common.{◌≡◌, ◌⊎◌, inl, inr, true, false, List, [], ◌∷◌, ◌++◌, Option, Some, None, refl, sym, ap, ◌∙◌, subst}
use denote.RawPtr.{Ptr}
use Rattle.cordyceps_base.specs.Spots.{same_ptr}
use Rattle.cordyceps_base.proofs.SpotsMemory.{same_ptr_eq}
use Rattle.cordyceps_many.specs.Threads.{is_in, Once}
use Rattle.cordyceps_many.proofs.Members.{in_self}
use Rattle.cordyceps_many.proofs.Threads.{split, in_more, differ, not_in, not_in_append}
use Rattle.cordyceps_map.specs.declared.entry.Entry.{Entry}
use Rattle.cordyceps_map.specs.Chains.{last_spot, Leads, IsChain, SaysElse}

-- the last of some spots is one of them
pub last_in : (o : Option Ptr) (s : List Ptr) (q : Ptr) → last_spot o s ≡ Some q → (o ≡ Some q) ⊎ (is_in q s ≡ true)
last_in o [] q e = inl e
last_in o (x ∷ s) q e = split_sum (last_in (Some x) s q e) where
  split_sum : (Some x ≡ Some q) ⊎ (is_in q s ≡ true) → (o ≡ Some q) ⊎ (is_in q (x ∷ s) ≡ true)
  split_sum (inl same) = let here : x ≡ q = cc in inr (subst (λ z. is_in z (x ∷ s) ≡ true) here (in_self x s))
  split_sum (inr more) = inr (in_more q x s more)

pub last_among : (s : List Ptr) (q : Ptr) → last_spot None s ≡ Some q → is_in q s ≡ true
last_among s q e = from (last_in None s q e) where
  from : (None ≡ Some q) ⊎ (is_in q s ≡ true) → is_in q s ≡ true
  from (inl wrong) = absurd cc
  from (inr there) = there

some_last : (x : Ptr) (s : List Ptr) → last_spot (Some x) s ≡ None → ⊥
some_last x [] e = cc
some_last x (y ∷ s) e = some_last y s e

pub no_last : (s : List Ptr) → last_spot None s ≡ None → s ≡ []
no_last [] e = refl
no_last (x ∷ s) e = absurd (some_last x s e)

-- what is said of each spot
abbrev pub Says : Type 0 → Type 0 → Type 0
Says K V = Ptr → Option (Entry K V)

module _ {K V : Type 0} where
  -- a chain stays where nothing else is said of its spots
  pub framed : (f g : Says K V) (h : Option Ptr) (s : List Ptr) → ((q : Ptr) → is_in q s ≡ true → g q ≡ f q) → IsChain f h s → IsChain g h s
  framed f g h [] same c = c
  framed f g h (p ∷ s) same (at, l) = (at, record { entry = l.entry; says = same p (in_self p s) ∙ l.says; on = framed f g l.entry.next s (λ q i. same q (in_more q p s i)) l.on })

  -- there is one chain from a spot
  pub unique : (f : Says K V) (h : Option Ptr) (s t : List Ptr) → IsChain f h s → IsChain f h t → s ≡ t
  unique f h [] [] c d = refl
  unique f h [] (q ∷ t) c d = absurd cc
  unique f h (p ∷ s) [] c d = absurd cc
  unique f h (p ∷ s) (q ∷ t) (at, l) (here, m) =
      let same : p ≡ q = let e = sym at ∙ here in cc in
      let entries : l.entry ≡ m.entry = let e = sym l.says ∙ ap f same ∙ m.says in cc in
      let rest = unique f m.entry.next s t (subst (λ (z : Entry K V). IsChain f z.next s) entries l.on) m.on in
      λ i. same i ∷ rest i

  -- what a spot in a chain leads to
  pub leads : (f : Says K V) (h : Option Ptr) (front : List Ptr) (p : Ptr) (back : List Ptr) → IsChain f h (front ++ p ∷ back) → Leads f p (λ n. IsChain f n back)
  leads f h [] p back (at, l) = l
  leads f h (x ∷ front) p back (at, l) = leads f l.entry.next front p back l.on

  pub leads_on : (f : Says K V) (h : Option Ptr) (front : List Ptr) (p : Ptr) (back : List Ptr) (e : Entry K V) → IsChain f h (front ++ p ∷ back) → f p ≡ Some e → IsChain f e.next back
  leads_on f h front p back e c says = let l = leads f h front p back c in let same : l.entry ≡ e = let t = sym l.says ∙ says in cc in subst (λ (z : Entry K V). IsChain f z.next back) same l.on

  -- a chain without the spot p, where the spot before it leads to where p led
  module _ (f g : Says K V) (p : Ptr) (back : List Ptr) (e : Entry K V) (says : f p ≡ Some e) (q : Ptr) (o : Entry K V) (was : f q ≡ Some o) (now : g q ≡ Some (record o { next = e.next })) (others : SaysElse f q g) where
    pub cut : (h : Option Ptr) (front : List Ptr) → last_spot None front ≡ Some q → Once (front ++ p ∷ back) → IsChain f h (front ++ p ∷ back) → IsChain g h (front ++ back)
    cut h [] last once c = absurd cc
    cut h (x ∷ []) last once (at, l) =
        let here : x ≡ q = cc in let out : is_in q (p ∷ back) ≡ false = subst (λ z. is_in z (p ∷ back) ≡ false) here once.0 in
        let on : IsChain f e.next back = leads_on f l.entry.next [] p back e l.on says in
        (at, record { entry = record o { next = e.next }; says = ap g here ∙ now; on = framed f g e.next back (λ z i. others z (differ z q back i (not_in q p back out).1)) on })
    cut h (x ∷ y ∷ front) last once (at, l) =
        let rest = cut l.entry.next (y ∷ front) last once.1 l.on in let among = last_among (y ∷ front) q last in
        let apart : same_ptr x q ≡ false = split (same_ptr x q) (λ same. let t : is_in q (y ∷ front) ≡ false = subst (λ z. is_in z (y ∷ front) ≡ false) (same_ptr_eq x q same) (not_in_append x (y ∷ front) (p ∷ back) once.0).0 in absurd cc) (λ no. no) in
        (at, record { entry = l.entry; says = others x apart ∙ l.says; on = rest })
