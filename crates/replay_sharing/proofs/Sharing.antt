-- Two parties that were split off a whole one, and absorbed again.
use Rattle.std.proofs.Common.{◌≡◌, ℕ, zero, suc, List, [], ◌∷◌, ◌++◌, replicate, Bool, true, false, cond, ◌||◌, refl, sym, ap, ◌∙◌, subst, inl, inr, append_assoc, append-nil}
use Rattle.cordyceps_shared.specs.Histories.{plain, own, AllOwn}
use Rattle.cordyceps_shared.proofs.Adding.{plain_own}
use Rattle.cordyceps_shared.proofs.Interleaving.{all_left, all_right}
use Rattle.cordyceps_shared.specs.Interleaving.{Interleaves}
use Rattle.cordyceps_shared.specs.Knowing.{merge_marks}
use Rattle.cordyceps_stack.specs.History.{Event, Load, Push, Taken, pushes, held_from}
use Rattle.cordyceps_stack.proofs.Histories.{held_from-append}
use Rattle.replay_sharing.specs.Sharing.{NoBatch}

-- each item is one of these
abbrev pub Every : {A : Type 0} → (A → Type 0) → List A → Type 0
Every These [] = Unit {0}
Every These (x ∷ xs) = These x × Every These xs

-- none of these
abbrev pub Other : {A : Type 0} → (A → Type 0) → A → Type 0
Other These x = These x → ⊥

module _ {P E : Type 0} (Mine : E → Type 0) where
  -- the events of a history that are marked, where this one is, or is not
  abbrev marked : Bool → Event P E → List (Event P E) → List (Event P E)
  marked b v h = cond b (v ∷ h) h

  one_more : (v : Event P E) (mine theirs : Bool) (xs ys zs : List (Event P E)) → (mine || theirs) ≡ true
      → Every Mine (pushes (marked mine v xs)) → Every (Other Mine) (pushes (marked theirs v ys)) → (Every Mine (pushes xs) → Every (Other Mine) (pushes ys) → Interleaves (pushes xs) (pushes ys) (pushes zs))
      → Interleaves (pushes (marked mine v xs)) (pushes (marked theirs v ys)) (pushes (v ∷ zs))
  one_more v false false xs ys zs a m n more = absurd (cc)
  one_more (Load p) true true xs ys zs a m n more = more m n
  one_more (Load p) true false xs ys zs a m n more = more m n
  one_more (Load p) false true xs ys zs a m n more = more m n
  one_more (Taken p b) true true xs ys zs a m n more = more m n
  one_more (Taken p b) true false xs ys zs a m n more = more m n
  one_more (Taken p b) false true xs ys zs a m n more = more m n
  one_more (Push p e) true true xs ys zs a m n more = absurd (n.0 m.0)
  one_more (Push p e) true false xs ys zs a m n more = inl (pushes xs, refl, more m.1 n)
  one_more (Push p e) false true xs ys zs a m n more = inr (pushes ys, refl, more m n.1)

  -- two parties saw prefixes of one history, each event of which is one's or the other's, and what the one pushed the
  -- other did not: what was pushed is what each pushed, in its order
  pub pushed_by_both : (xs ys : List (Bool × Event P E)) (rest : List (Event P E)) → AllOwn (merge_marks xs ys) → plain (merge_marks xs ys) ≡ plain ys ++ rest
      → Every Mine (pushes (own xs)) → Every (Other Mine) (pushes (own ys)) → Interleaves (pushes (own xs)) (pushes (own ys)) (pushes (plain (merge_marks xs ys)))
  pushed_by_both [] ys rest a e m n = subst (λ z. Interleaves [] (pushes z) (pushes (plain ys))) (plain_own ys a) (all_right (pushes (plain ys)))
  pushed_by_both (x ∷ xs) [] rest a e m n = subst (λ z. Interleaves (pushes z) [] (pushes (plain (x ∷ xs)))) (plain_own (x ∷ xs) a) (all_left (pushes (plain (x ∷ xs))))
  pushed_by_both (x ∷ xs) (y ∷ ys) rest a e m n =
      let same : y.1 ≡ x.1 = cc in
      let more : plain (merge_marks xs ys) ≡ plain ys ++ rest = cc in
      let n' = subst (λ v. Every (Other Mine) (pushes (marked y.0 v (own ys)))) same n in
      subst (λ v. Interleaves (pushes (marked x.0 x.1 (own xs))) (pushes (marked y.0 v (own ys))) (pushes (x.1 ∷ plain (merge_marks xs ys)))) (sym same)
      (one_more x.1 x.0 y.0 (own xs) (own ys) (plain (merge_marks xs ys)) a.0 m n' (pushed_by_both xs ys rest a.1 more))

module _ {P E : Type 0} where
  no_more : (v : Event P E) (mine theirs : Bool) (xs ys zs : List (Event P E)) → (mine || theirs) ≡ true → NoBatch (cond mine (v ∷ xs) xs) → NoBatch (cond theirs (v ∷ ys) ys)
      → (NoBatch xs → NoBatch ys → NoBatch zs) → NoBatch (v ∷ zs)
  no_more v false false xs ys zs a m n more = absurd (cc)
  no_more (Load p) true true xs ys zs a m n more = more m n
  no_more (Load p) true false xs ys zs a m n more = more m n
  no_more (Load p) false true xs ys zs a m n more = more m n
  no_more (Push p e) true true xs ys zs a m n more = more m n
  no_more (Push p e) true false xs ys zs a m n more = more m n
  no_more (Push p e) false true xs ys zs a m n more = more m n
  no_more (Taken p b) true theirs xs ys zs a m n more = absurd m
  no_more (Taken p b) false true xs ys zs a m n more = absurd n

  -- neither took, so nothing was taken
  pub none_taken : (xs ys : List (Bool × Event P E)) (rest : List (Event P E)) → AllOwn (merge_marks xs ys) → plain (merge_marks xs ys) ≡ plain ys ++ rest → NoBatch (own xs) → NoBatch (own ys) → NoBatch (plain (merge_marks xs ys))
  none_taken [] ys rest a e m n = subst (λ z. NoBatch z) (sym (plain_own ys a)) n
  none_taken (x ∷ xs) [] rest a e m n = subst (λ z. NoBatch z) (sym (plain_own (x ∷ xs) a)) m
  none_taken (x ∷ xs) (y ∷ ys) rest a e m n =
      let same : y.1 ≡ x.1 = cc in
      let more : plain (merge_marks xs ys) ≡ plain ys ++ rest = cc in
      no_more x.1 x.0 y.0 (own xs) (own ys) (plain (merge_marks xs ys)) a.0 m (subst (λ v. NoBatch (cond y.0 (v ∷ own ys) (own ys))) same n) (none_taken xs ys rest a.1 more)

  -- what is held after events none of which is a taking
  pub held_pushed : (es : List E) (h : List (Event P E)) → NoBatch h → held_from es h ≡ es ++ pushes h
  held_pushed es [] n = sym (append-nil es)
  held_pushed es (Load p ∷ h) n = held_pushed es h n
  held_pushed es (Push p e ∷ h) n = held_pushed (es ++ e ∷ []) h n ∙ append_assoc es (e ∷ []) (pushes h)
  held_pushed es (Taken p b ∷ h) n = absurd n

  -- what is held after a history that held nothing, and events none of which is a taking
  pub held_since : (h k : List (Event P E)) → held_from [] h ≡ [] → NoBatch k → held_from [] (h ++ k) ≡ pushes k
  held_since h k none n = held_from-append [] h k ∙ (ap (λ z. held_from z k) none ∙ held_pushed [] k n)

  -- ---- what a worker did
  pub none_append : (h k : List (Event P E)) → NoBatch h → NoBatch k → NoBatch (h ++ k)
  none_append [] k m n = n
  none_append (Load p ∷ h) k m n = none_append h k m n
  none_append (Push p e ∷ h) k m n = none_append h k m n
  none_append (Taken p b ∷ h) k m n = absurd m

  pub pushes_append : (h k : List (Event P E)) → pushes (h ++ k) ≡ pushes h ++ pushes k
  pushes_append [] k = refl
  pushes_append (Load p ∷ h) k = pushes_append h k
  pushes_append (Push p e ∷ h) k = ap (λ z. e ∷ z) (pushes_append h k)
  pushes_append (Taken p b ∷ h) k = pushes_append h k

  pub tries_take_nothing : (n : ℕ) (p : P) (e : E) → NoBatch (replicate n (Load p) ++ Push p e ∷ [])
  tries_take_nothing zero p e = _
  tries_take_nothing (suc n) p e = tries_take_nothing n p e

  pub tries_push_once : (n : ℕ) (p : P) (e : E) → pushes (replicate n (Load p) ++ Push p e ∷ []) ≡ e ∷ []
  tries_push_once zero p e = refl
  tries_push_once (suc n) p e = tries_push_once n p e
