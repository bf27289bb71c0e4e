-- How a history goes on.
use Rattle.std.proofs.Common.{◌≡◌, List, [], ◌∷◌, ◌++◌, reverse, map, refl, ap, sym, ◌∙◌, subst, inl, inr, ◌⊎◌, append_assoc}
use Rattle.cordyceps_stack.specs.History.{Event, Load, Push, Taken, held, held_from, held_after, Legal, NoLoad, NoTaken, IsByAnother, SomeByAnother, LastLoad, LastBatch, pushes, taken_elements, IsChange, SomeChange}
use Rattle.std.proofs.lemmas.List.{append-nil, reverse-reverse}

module _ {A : Type 0} where
  -- a list of which nothing is left in reverse
  pub none_from_reversed : (xs : List A) → reverse xs ≡ [] → xs ≡ []
  none_from_reversed xs e = sym (reverse-reverse xs) ∙ ap reverse e

  -- where a list with one more item at its end has the item t
  pub split_push : (h before after : List A) (v t : A) → h ++ v ∷ [] ≡ before ++ t ∷ after
      → ((h ≡ before) × (v ≡ t)) ⊎ ((rest : List A) × (h ≡ before ++ t ∷ rest))
  split_push [] [] after v t e = let same : v ≡ t = cc in inl (refl, same)
  split_push [] (b ∷ []) after v t e = let none : ⊥ = cc in absurd none
  split_push [] (b ∷ c ∷ bs) after v t e = let none : ⊥ = cc in absurd none
  split_push (x ∷ xs) [] after v t e = let same : x ≡ t = cc in inr (xs, ap (λ y. y ∷ xs) same)
  split_push (x ∷ xs) (b ∷ bs) after v t e =
      let first : x ≡ b = cc in
      let tail : xs ++ v ∷ [] ≡ bs ++ t ∷ after = cc in
      elim (split_push xs bs after v t tail) [
        | inl s ↦ let whole : x ∷ xs ≡ b ∷ bs = cc in inl (whole, s.1)
        | inr s ↦ let whole : x ∷ xs ≡ b ∷ (bs ++ t ∷ s.0) = cc in inr (s.0, whole)
      ]

module _ {P E : Type 0} where
  pub held_from-append : (es : List E) (h k : List (Event P E)) → held_from es (h ++ k) ≡ held_from (held_from es h) k
  held_from-append es [] k = refl
  held_from-append es (v ∷ h) k = held_from-append (held_after es v) h k

  pub held_more : (h : List (Event P E)) (v : Event P E) → held (h ++ v ∷ []) ≡ held_after (held h) v
  held_more h v = held_from-append [] h (v ∷ [])

  pub legal_none : Legal {P = P} {E = E} []
  legal_none [] after p batch e = let none : ⊥ = cc in absurd none
  legal_none (b ∷ bs) after p batch e = let none : ⊥ = cc in absurd none

  -- what an event owes for the history to stay legal
  abbrev pub MayFollow : List (Event P E) → Event P E → Type 0
  MayFollow h (Load p) = Unit {0}
  MayFollow h (Push p e) = Unit {0}
  MayFollow h (Taken p batch) = batch ≡ reverse (held h)

  allowed_batch : (h : List (Event P E)) (v : Event P E) (p : P) (batch : List E) → MayFollow h v → v ≡ Taken p batch
      → batch ≡ reverse (held h)
  allowed_batch h (Load q) p batch a e = let none : ⊥ = cc in absurd none
  allowed_batch h (Push q x) p batch a e = let none : ⊥ = cc in absurd none
  allowed_batch h (Taken q b) p batch a e = let same : b ≡ batch = cc in sym same ∙ a

  pub legal_more : (h : List (Event P E)) (v : Event P E) → Legal h → MayFollow h v → Legal (h ++ v ∷ [])
  legal_more h v l a before after p batch e = elim (split_push h before after v (Taken p batch) e) [
    | inl s ↦ allowed_batch h v p batch a s.1 ∙ ap (λ k. reverse (held k)) s.0
    | inr s ↦ l before s.0 p batch s.1
  ]

  pub NoLoad-more : (p : P) (h : List (Event P E)) (v : Event P E) → NoLoad p h → NoLoad p (v ∷ []) → NoLoad p (h ++ v ∷ [])
  NoLoad-more p [] v n m = m
  NoLoad-more p (Load q ∷ h) v n m = (n.0, NoLoad-more p h v n.1 m)
  NoLoad-more p (Push q e ∷ h) v n m = NoLoad-more p h v n m
  NoLoad-more p (Taken q b ∷ h) v n m = NoLoad-more p h v n m

  pub NoTaken-more : (p : P) (h : List (Event P E)) (v : Event P E) → NoTaken p h → NoTaken p (v ∷ []) → NoTaken p (h ++ v ∷ [])
  NoTaken-more p [] v n m = m
  NoTaken-more p (Load q ∷ h) v n m = NoTaken-more p h v n m
  NoTaken-more p (Push q e ∷ h) v n m = NoTaken-more p h v n m
  NoTaken-more p (Taken q b ∷ h) v n m = (n.0, NoTaken-more p h v n.1 m)

  pub loaded_now : (p : P) (h : List (Event P E)) → LastLoad p (h ++ Load p ∷ []) []
  loaded_now p h = record { before = h; splits = refl; last = tt }

  pub loaded_more : (p : P) (h since : List (Event P E)) (v : Event P E) → LastLoad p h since → NoLoad p (v ∷ [])
      → LastLoad p (h ++ v ∷ []) (since ++ v ∷ [])
  loaded_more p h since v l n =
      record {
        before = l.before;
        splits = ap (λ k. k ++ v ∷ []) l.splits ∙ append_assoc l.before (Load p ∷ since) (v ∷ []);
        last = NoLoad-more p since v l.last n;
      }

  pub batch_now : (p : P) (h : List (Event P E)) (batch : List E) → LastBatch p (h ++ Taken p batch ∷ []) batch
  batch_now p h batch = record { before = h; since = []; splits = refl; last = tt }

  pub batch_more : (p : P) (h : List (Event P E)) (batch : List E) (v : Event P E) → LastBatch p h batch → NoTaken p (v ∷ [])
      → LastBatch p (h ++ v ∷ []) batch
  batch_more p h batch v l n =
      record {
        before = l.before;
        since = l.since ++ v ∷ [];
        splits = ap (λ k. k ++ v ∷ []) l.splits ∙ append_assoc l.before (Taken p batch ∷ l.since) (v ∷ []);
        last = NoTaken-more p l.since v l.last n;
      }

  pub another_more : (p : P) (h k : List (Event P E)) → SomeByAnother p h → SomeByAnother p (h ++ k)
  another_more p [] k s = absurd s
  another_more p (v ∷ h) k (inl s) = inl s
  another_more p (v ∷ h) k (inr s) = inr (another_more p h k s)

  pub another_last : (p : P) (h : List (Event P E)) (v : Event P E) → IsByAnother p v → SomeByAnother p (h ++ v ∷ [])
  another_last p [] v s = inl s
  another_last p (w ∷ h) v s = inr (another_last p h v s)

  moved_on : (before h : List (Event P E)) (v : Event P E) → Legal (before ++ v ∷ h) → Legal ((before ++ v ∷ []) ++ h)
  moved_on before h v l = subst (λ k. Legal k) (sym (append_assoc before (v ∷ []) h)) l

  -- what was held, then what was pushed after, is what was taken after, and then what is held
  lost_from : (before h : List (Event P E)) → Legal (before ++ h) → taken_elements h ++ held_from (held before) h ≡ held before ++ pushes h
  lost_from before [] l = sym (append-nil (held before))
  lost_from before (Load p ∷ h) l =
      let more = lost_from (before ++ Load p ∷ []) h (moved_on before h (Load p) l) in
      rw (held_more before (Load p)) at more
  lost_from before (Push p e ∷ h) l =
      let more = lost_from (before ++ Push p e ∷ []) h (moved_on before h (Push p e) l) in
      (rw (held_more before (Push p e)) at more) ∙ append_assoc (held before) (e ∷ []) (pushes h)
  lost_from before (Taken p b ∷ h) l =
      let more = lost_from (before ++ Taken p b ∷ []) h (moved_on before h (Taken p b) l) in
      let same : reverse b ≡ held before = ap reverse (l before h p b refl) ∙ reverse-reverse (held before) in
      append_assoc (reverse b) (taken_elements h) (held_from [] h) ∙ (ap (λ xs. reverse b ++ xs) (rw (held_more before (Taken p b)) at more) ∙ ap (λ xs. xs ++ pushes h) same)

  -- the batches, each oldest first, and then what is held, are the pushes
  pub nothing_lost : (h : List (Event P E)) → Legal h → taken_elements h ++ held h ≡ pushes h
  nothing_lost h l = lost_from [] h l

  pub change_more : (h k : List (Event P E)) → SomeChange h → SomeChange (h ++ k)
  change_more [] k s = absurd s
  change_more (v ∷ h) k (inl s) = inl s
  change_more (v ∷ h) k (inr s) = inr (change_more h k s)

  pub change_after : (h k : List (Event P E)) → SomeChange k → SomeChange (h ++ k)
  change_after [] k s = s
  change_after (v ∷ h) k s = inr (change_after h k s)

  -- ---- several pushes one after another
  pub held_pushes : (p : P) (es held : List E) → held_from held (map (Push p) es) ≡ held ++ es
  held_pushes p [] held = sym (append-nil held)
  held_pushes p (e ∷ es) held = held_pushes p es (held ++ e ∷ []) ∙ append_assoc held (e ∷ []) es

  pub legal_pushes : (h : List (Event P E)) (p : P) (es : List E) → Legal h → Legal (h ++ map (Push p) es)
  legal_pushes h p [] l = subst (λ k. Legal k) (sym (append-nil h)) l
  legal_pushes h p (e ∷ es) l =
      subst (λ k. Legal k) (append_assoc h (Push p e ∷ []) (map (Push p) es)) (legal_pushes (h ++ Push p e ∷ []) p es (legal_more h (Push p e) l tt))

  pub change_last : (h : List (Event P E)) (v : Event P E) → IsChange v → SomeChange (h ++ v ∷ [])
  change_last [] v s = inl s
  change_last (w ∷ h) v s = inr (change_last h v s)
