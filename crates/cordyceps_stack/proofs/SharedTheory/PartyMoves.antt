-- What each call put in and took out, and that nothing is lost.
use Rattle.std.proofs.Common.{◌≡◌, ℕ, zero, suc, List, [], ◌∷◌, ◌++◌, map, flat_map, reverse, replicate, Bool, refl, sym, ap, ◌∙◌, subst}
use Rattle.std.proofs.lemmas.List.{map-append, append-nil}
use Rattle.cordyceps_shared.specs.Shares.{Name}
use Rattle.cordyceps_shared.specs.Standings.{name_of}
use Rattle.cordyceps_shared.proofs.Moving.{moves_by}
use Rattle.cordyceps_stack.specs.History.{Event, Load, Push, Taken, pushes, taken_elements, held, Legal, actor}
use Rattle.cordyceps_stack.specs.Shared.Calls.{PartyOf, Adds, PushesAt, PushesAllAt, PushesRefilled, Misses, MissesRefilled, Takes, Refills, pushes_of}
use Rattle.cordyceps_stack.specs.Shared.Moves.{put_by, got_by, Moves}
use Rattle.cordyceps_stack.proofs.Histories.{nothing_lost}

module _ {P E A : Type 0} (f : E → A) where
  -- ---- whole histories
  pub all_put : (h : List (Event P E)) → flat_map (put_by f) h ≡ map f (pushes h)
  all_put [] = refl
  all_put (Load p ∷ h) = all_put h
  all_put (Push p e ∷ h) = ap (λ l. f e ∷ l) (all_put h)
  all_put (Taken p batch ∷ h) = all_put h

  pub all_got : (h : List (Event P E)) → flat_map (got_by f) h ≡ map f (taken_elements h)
  all_got [] = refl
  all_got (Load p ∷ h) = all_got h
  all_got (Push p e ∷ h) = all_got h
  all_got (Taken p batch ∷ h) = ap (λ l. map f (reverse batch) ++ l) (all_got h) ∙ sym (map-append f (reverse batch) (taken_elements h))

  -- what a legal history holds, after what was taken, is what was pushed
  pub all_kept : (h : List (Event P E)) → Legal h → flat_map (got_by f) h ++ map f (held h) ≡ flat_map (put_by f) h
  all_kept h legal =
      ap (λ l. l ++ map f (held h)) (all_got h) ∙ (sym (map-append f (taken_elements h) (held h)) ∙ (ap (map f) (nothing_lost h legal) ∙ sym (all_put h)))

  -- ---- tries, and a push
  tries_put : (n : ℕ) (p : P) (e : E) → flat_map (put_by f) (replicate n (Load p) ++ Push p e ∷ []) ≡ f e ∷ []
  tries_put zero p e = refl
  tries_put (suc n) p e = tries_put n p e

  tries_got : (n : ℕ) (p : P) (e : E) → flat_map (got_by f) (replicate n (Load p) ++ Push p e ∷ []) ≡ []
  tries_got zero p e = refl
  tries_got (suc n) p e = tries_got n p e

  pushes_put : (n : ℕ) (p : P) (es : List E) → flat_map (put_by f) (replicate n (Load p) ++ map (Push p) es) ≡ map f es
  pushes_put zero p [] = refl
  pushes_put zero p (e ∷ es) = ap (λ l. f e ∷ l) (pushes_put zero p es)
  pushes_put (suc n) p es = pushes_put n p es

  pushes_got : (n : ℕ) (p : P) (es : List E) → flat_map (got_by f) (replicate n (Load p) ++ map (Push p) es) ≡ []
  pushes_got zero p [] = refl
  pushes_got zero p (e ∷ es) = pushes_got zero p es
  pushes_got (suc n) p es = pushes_got n p es

module _ {E A : Type 0} (f : E → A) where
  moved : (u w : PartyOf E) (es : List (Event Name E)) (sent got : List A) → Adds u es w → flat_map (put_by f) es ≡ sent → flat_map (got_by f) es ≡ got
      → Moves f sent got u w
  moved u w es sent got a put got_is =
      subst (λ (z : List A × List A). Moves f z.0 z.1 u w) (λ i. (put i, got_is i))
      (moves_by (put_by f) (got_by f) (λ h. Legal h) actor u w es a)

  -- ---- one call
  pub moves_push : (n : ℕ) (e : E) (first : Bool) (u w : PartyOf E) → PushesAt n e first u w → Moves f (f e ∷ []) [] u w
  moves_push n e first u w a =
      let p = name_of u in
      moved u w (replicate n (Load p) ++ Push p e ∷ []) (f e ∷ []) [] a.0 (tries_put f n p e) (tries_got f n p e)

  pub moves_push_all : (n : ℕ) (es : List E) (first : Bool) (u w : PartyOf E) → PushesAllAt n es first u w → Moves f (map f (reverse es)) [] u w
  moves_push_all n es first u w a =
      let p = name_of u in
      moved u w (replicate n (Load p) ++ pushes_of p es) (map f (reverse es)) [] a.0 (pushes_put f n p (reverse es)) (pushes_got f n p (reverse es))

  pub moves_miss : (u w : PartyOf E) → Misses u w → Moves f [] [] u w
  moves_miss u w a = moved u w (Load (name_of u) ∷ []) [] [] a.0 refl refl

  -- tries that may have taken rooms of the pool first
  pub moves_refilled : (e : E) (first : Bool) (u w : PartyOf E) → PushesRefilled e first u w → Moves f (f e ∷ []) [] u w
  moves_refilled e first u w a = moved u w (Load (name_of u) ∷ Push (name_of u) e ∷ []) (f e ∷ []) [] a.adds refl refl

  pub moves_miss_refilled : (u w : PartyOf E) → MissesRefilled u w → Moves f [] [] u w
  moves_miss_refilled u w a = moved u w (Load (name_of u) ∷ []) [] [] a.adds refl refl

  -- a party that takes rooms of the pool moves nothing
  pub moves_refill : (n : ℕ) (u w : PartyOf E) → Refills n u w → Moves f [] [] u w
  moves_refill n u w a = moved u w [] [] [] a.0 refl refl

  pub moves_take : (batch : List E) (u w : PartyOf E) → Takes batch u w → Moves f [] (map f (reverse batch)) u w
  moves_take batch u w a =
      moved u w (Taken (name_of u) batch ∷ []) [] (map f (reverse batch)) a.0 refl (append-nil (map f (reverse batch)))
