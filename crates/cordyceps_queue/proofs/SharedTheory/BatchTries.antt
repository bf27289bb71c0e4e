-- Tries of a consumer, one after the other, each of which gave an element.
use Rattle.std.proofs.Common.{◌≡◌, ◌≢◌, ℕ, ◌+◌, ◌<◌, ◌≤◌, List, [], ◌∷◌, ◌++◌, map, take, length, refl, sym, ap, ◌∙◌, subst, inl, inr, arith, append_assoc, length-append}
use Rattle.std.specs.Prelude.{◌⊎◌, Ok, Err}
use Rattle.std.proofs.lemmas.List.{append-nil, length-map, map-append, take_all}
use Rattle.cordyceps_shared.specs.Histories.{plain, own}
use Rattle.cordyceps_shared.specs.Shares.{Name, whole, first_name}
use Rattle.cordyceps_shared.specs.Standings.{name_of}
use Rattle.cordyceps_shared.proofs.Adding.{adds_then}
use Rattle.cordyceps_shared.proofs.Owning.{own_adds}
use Rattle.cordyceps_queue.specs.declared.cores.steps.TryDequeueError.{TryDequeueError}
use Rattle.cordyceps_queue.specs.declared.cores.steps.TryDequeueError.TheVariants as error
use Rattle.cordyceps_queue.specs.Shared.Batches.{TakesLinked}
use Rattle.cordyceps_queue.specs.History.{Event, Look, Out, Empty, held, actor, outs}
use Rattle.cordyceps_queue.specs.Shared.Calls.{PartyOf, Legal, Adds, BlockedAfter, Consumes}
use Rattle.cordyceps_queue.proofs.SharedTheory.CloseTakesAll.{gives_first}
use Rattle.cordyceps_queue.proofs.SharedTheory.TriesInTurn.{Run, run_holds}

module _ {E : Type 0} where
  -- so far these elements came out, oldest first, and their rooms
  pub record Took (es : List E) (u v : PartyOf E) : Type 0 where
    pub adds : ((es ≡ []) × (v ≡ u)) ⊎ ((es ≢ []) × Adds u (outs (name_of u) es) v)
    pub rooms : v.rooms ≡ u.rooms + length es

  outs_append : (n : Name) (es fs : List E) → outs n (es ++ fs) ≡ outs n es ++ outs n fs
  outs_append n [] fs = refl
  outs_append n (e ∷ es) fs = ap (λ z. Look n ∷ Out n e ∷ z) (outs_append n es fs)

  same_name_as : (u v : PartyOf E) (es : List E) → Took es u v → name_of v ≡ name_of u
  same_name_as u v es t = named t.adds
    where
      named : ((es ≡ []) × (v ≡ u)) ⊎ ((es ≢ []) × Adds u (outs (name_of u) es) v) → name_of v ≡ name_of u
      named (inl a) = ap (λ z. name_of z) a.1
      named (inr a) = ap (λ z. first_name z) a.1.0.share

  -- what was taken, and then these events
  then_adds : (u v w : PartyOf E) (es : List E) (xs : List (Event Name E)) → Took es u v → Adds v xs w → Adds u (outs (name_of u) es ++ xs) w
  then_adds u v w es xs t b = joined t.adds
    where
      joined : ((es ≡ []) × (v ≡ u)) ⊎ ((es ≢ []) × Adds u (outs (name_of u) es) v) → Adds u (outs (name_of u) es ++ xs) w
      joined (inl a) = subst (λ z. Adds u (outs (name_of u) z ++ xs) w) (sym a.0) (subst (λ z. Adds z xs w) a.1 b)
      joined (inr a) = adds_then actor (λ h. Legal h) u v w (outs (name_of u) es) xs a.1 b

  pub took_none : (u : PartyOf E) → Took [] u u
  took_none u = record { adds = inl (refl, refl); rooms = omega arith }

  not_none : (es : List E) (e : E) → es ++ e ∷ [] ≡ [] → ⊥
  not_none [] e is = cc
  not_none (x ∷ es) e is = cc

  -- the first try is the call's own
  pub first_try : (u v w : PartyOf E) (es : List E) (why : TryDequeueError) → Took es u v → es ≡ [] → Consumes (Err why) v w → Consumes (Err why) u w
  first_try u v w es why t none d = begun t.adds
    where
      begun : ((es ≡ []) × (v ≡ u)) ⊎ ((es ≢ []) × Adds u (outs (name_of u) es) v) → Consumes (Err why) u w
      begun (inl a) = subst (λ z. Consumes (Err why) z w) a.1 d
      begun (inr a) = absurd (a.0 none)

  -- a party takes under the same share
  pub same_share : (u v : PartyOf E) (es : List E) → Took es u v → v.share ≡ u.share
  same_share u v es t = shared t.adds
    where
      shared : ((es ≡ []) × (v ≡ u)) ⊎ ((es ≢ []) × Adds u (outs (name_of u) es) v) → v.share ≡ u.share
      shared (inl a) = ap (λ z. z.share) a.1
      shared (inr a) = a.1.0.share

  pub took_more : (u v w : PartyOf E) (es : List E) (e : E) → Took es u v → Consumes (Ok e) v w → Took (es ++ e ∷ []) u w
  took_more u v w es e t d =
      let n = same_name_as u v es t in
      let step = subst (λ z. Adds v (Look z ∷ Out z e ∷ []) w) n d.0 in
      record {
        adds = inr ((λ none. absurd (not_none es e none)), subst (λ z. Adds u z w) (sym (outs_append (name_of u) es (e ∷ []))) (then_adds u v w es (Look (name_of u) ∷ Out (name_of u) e ∷ []) t step));
        rooms = omega (arith, t.rooms, d.1, length-append es (e ∷ []));
      }

  -- a try that gave this element
  abbrev pub Gives : E → PartyOf E → PartyOf E → Type 0
  Gives e u v = Consumes (Ok e) u v

  took_then : (u v w : PartyOf E) (es fs : List E) → Took es u v → Run Gives v fs w → Took (es ++ fs) u w
  took_then u v w es [] t e = subst (λ z. Took z u w) (sym (append-nil es)) (subst (Took es u) e t)
  took_then u v w es (f ∷ fs) t r =
      subst (λ z. Took z u w) (append_assoc es (f ∷ []) fs) (took_then u r.to w (es ++ f ∷ []) fs (took_more u v r.to es f t r.first) r.rest)

  pub took : (u w : PartyOf E) (es : List E) → Run Gives u es w → Took es u w
  took u w es r = took_then u u w [] es (took_none u) r

  -- what a whole party's tries gave is the front of what was held
  pub gives_front : (u w : PartyOf E) (es : List E) → u.share ≡ whole → Run Gives u es w → held (plain u.seen) ≡ es ++ held (plain w.seen)
  gives_front u w es is r = run_holds Gives (λ e x y d. d.0.0.share) (λ e x y whole_is d. gives_first x y e whole_is d) u es w is r

  -- the party's own events, with those of what was taken
  own_took : (u v : PartyOf E) (es : List E) → Took es u v → own v.seen ≡ own u.seen ++ outs (name_of u) es
  own_took u v es t = owned t.adds
    where
      owned : ((es ≡ []) × (v ≡ u)) ⊎ ((es ≢ []) × Adds u (outs (name_of u) es) v) → own v.seen ≡ own u.seen ++ outs (name_of u) es
      owned (inl a) = ap (λ z. own z.seen) a.1 ∙ (sym (append-nil (own u.seen)) ∙ ap (λ z. own u.seen ++ outs (name_of u) z) (sym a.0))
      owned (inr a) = own_adds (λ h. Legal h) actor u v (outs (name_of u) es) a.1

  pub stops_full : (max : ℕ) (u v : PartyOf E) (es : List E) → es ≢ [] → length es ≡ max → Took es u v → TakesLinked max es u v
  stops_full max u v es some full t = record { some = some; stops = inl (full, added t.adds); rooms = t.rooms }
    where
      added : ((es ≡ []) × (v ≡ u)) ⊎ ((es ≢ []) × Adds u (outs (name_of u) es) v) → Adds u (outs (name_of u) es) v
      added (inl a) = absurd (some a.0)
      added (inr a) = a.1

  pub stops_short : (max : ℕ) (u v w : PartyOf E) (es : List E) (why : TryDequeueError) → es ≢ [] → length es < max → Took es u v → Consumes (Err why) v w → TakesLinked max es u w
  stops_short max u v w es error.Empty some few t d =
      let n = same_name_as u v es t in
      let step = subst (λ z. Adds v (Look z ∷ Empty z ∷ []) w) n d.0 in
      record { some = some; stops = inr (inl (few, then_adds u v w es (Look (name_of u) ∷ Empty (name_of u) ∷ []) t step)); rooms = d.1 ∙ t.rooms }
  stops_short max u v w es error.Inconsistent some few t d =
      let n = same_name_as u v es t in
      let step = subst (λ z. Adds v (Look z ∷ []) w) n d.adds in
      let b = d.prefix in
      let past : BlockedAfter u (outs (name_of u) es ++ Look (name_of u) ∷ []) w = record {
        past = b.past;
        later = b.later;
        is = b.is;
        adds = b.adds ∙ (ap (λ z. z ++ Look (name_of v) ∷ []) (own_took u v es t) ∙ (append_assoc (own u.seen) (outs (name_of u) es) (Look (name_of v) ∷ []) ∙ ap (λ z. own u.seen ++ (outs (name_of u) es ++ Look z ∷ [])) n));
        blocked = b.blocked;
      } in
      record { some = some; stops = inr (inr (few, then_adds u v w es (Look (name_of u) ∷ []) t step, past)); rooms = d.rooms ∙ t.rooms }
  stops_short max u v w es error.Busy some few t d = absurd d

-- ---- what a whole party takes
module _ {H B : Type 0} (f : H → B) where
  pub taken_front : (xs : List B) (es left hs : List H) → xs ≡ map f es → hs ≡ es ++ left → xs ++ map f left ≡ map f hs
  taken_front xs es left hs e whole = ap (λ z. z ++ map f left) e ∙ (sym (map-append f es left) ∙ ap (map f) (sym whole))

  taken_full : (xs : List B) (left hs : List H) → xs ++ map f left ≡ map f hs → xs ≡ map f (take (length xs) hs)
  taken_full [] left hs e = refl
  taken_full (x ∷ xs) left [] e = cc
  taken_full (x ∷ xs) left (h ∷ hs) e =
      let tail : xs ++ map f left ≡ map f hs = cc in
      let first : x ≡ f h = cc in
      cc (first, taken_full xs left hs tail)

  pub none_of : (xs : List B) (hs : List H) → xs ≡ map f hs → length xs ≡ 0 → hs ≡ []
  none_of xs [] e n = refl
  none_of xs (h ∷ hs) e n = let long = ap length e in absurd (omega arith)

  pub all_taken : (max : ℕ) (xs : List B) (left hs : List H) → xs ++ map f left ≡ map f hs → (length xs ≡ max) ⊎ ((length xs ≤ max) × (left ≡ [])) → xs ≡ map f (take max hs)
  all_taken max xs left hs e (inl full) = taken_full xs left hs e ∙ ap (λ n. map f (take n hs)) full
  all_taken max xs left hs e (inr short) =
      let all : xs ≡ map f hs = sym (append-nil xs) ∙ (ap (λ z. xs ++ map f z) (sym short.1) ∙ e) in
      all ∙ ap (map f) (sym (take_all max hs (omega (arith, short.0, ap length all, length-map hs f))))
