-- A try that found its look blocked, as its caller sees it.
use Rattle.std.proofs.Common.{◌≡◌, List, [], ◌∷◌, ◌++◌, reverse, Bool, true, false, refl, sym, ap, ◌∙◌, subst, append_assoc}
use Rattle.std.proofs.lemmas.List.{reverse-append, reverse-reverse}
use Rattle.atomic_table.specs.Seated.{TableId}
use Rattle.cordyceps_shared.specs.Histories.{plain, own}
use Rattle.cordyceps_shared.specs.Shares.{Name}
use Rattle.cordyceps_shared.proofs.HistoryMarks.{own_append}
use Rattle.cordyceps_shared.proofs.Adding.{plain_append}
use Rattle.cordyceps_queue.specs.Shared.Parts.{standing}
use Rattle.cordyceps_queue.specs.History.{Event, Look}
use Rattle.cordyceps_queue.specs.Past as past
use Rattle.cordyceps_queue.specs.Shared.Plays.{Sees, Blocked}
use Rattle.cordyceps_queue.specs.Shared.Calls.{same_name, BlockedAfter}
use Rattle.cordyceps_queue.specs.Shared.View.{View, name}
use Rattle.cordyceps_queue.proofs.Blocked.{told_blocked}
use Rattle.cordyceps_queue.proofs.HistoryEnds.{reverse-cons}
use Rattle.cordyceps_queue.proofs.Legality.{front_legal}
use Rattle.cordyceps_queue.proofs.SharedTheory.BlockedPast.{since_look}

module _ {X : Type 0} where
  -- where the last own event is
  record LastOwn (seen : List (Bool × X)) (es : List X) (x : X) : Type 0 where
    pub before : List (Bool × X)
    pub later : List (Bool × X)
    pub is : seen ≡ before ++ (true, x) ∷ later
    pub first : own before ≡ es
    pub none : own later ≡ []

  last_own : (seen : List (Bool × X)) (es : List X) (x : X) → own seen ≡ es ++ x ∷ [] → LastOwn seen es x
  last_own [] [] x e = absurd (cc)
  last_own [] (y ∷ es) x e = absurd (cc)
  last_own ((false, y) ∷ seen) es x e =
      let l = last_own seen es x e in
      record { before = (false, y) ∷ l.before; later = l.later; is = ap (λ z. (false, y) ∷ z) l.is; first = l.first; none = l.none }
  last_own ((true, y) ∷ seen) [] x e =
      let same : y ≡ x = cc in
      let none : own seen ≡ [] = cc in
      record { before = []; later = seen; is = ap (λ z. (true, z) ∷ seen) same; first = refl; none = none }
  last_own ((true, y) ∷ seen) (z ∷ es) x e =
      let same : y ≡ z = cc in
      let more : own seen ≡ es ++ x ∷ [] = cc in
      let l = last_own seen es x more in
      record { before = (true, y) ∷ l.before; later = l.later; is = ap (λ r. (true, y) ∷ r) l.is; first = (λ i. same i ∷ l.first i); none = l.none }

  -- a prefix of what was seen, with its marks
  record Front (seen : List (Bool × X)) (xs : List X) : Type 0 where
    pub front : List (Bool × X)
    pub after : List (Bool × X)
    pub is : seen ≡ front ++ after
    pub plainly : plain front ≡ xs

  front_of : (seen : List (Bool × X)) (xs ys : List X) → plain seen ≡ xs ++ ys → Front seen xs
  front_of seen [] ys e = record { front = []; after = seen; is = refl; plainly = refl }
  front_of [] (x ∷ xs) ys e = absurd (cc)
  front_of (s ∷ seen) (x ∷ xs) ys e =
      let same : s.1 ≡ x = cc in
      let more : plain seen ≡ xs ++ ys = cc in
      let f = front_of seen xs ys more in
      record { front = s ∷ f.front; after = f.after; is = ap (λ z. s ∷ z) f.is; plainly = (λ i. same i ∷ f.plainly i) }

  none_front : (xs ys : List (Bool × X)) → own (xs ++ ys) ≡ [] → own xs ≡ []
  none_front [] ys e = refl
  none_front ((true, x) ∷ xs) ys e = absurd (cc)
  none_front ((false, x) ∷ xs) ys e = none_front xs ys e

module _ {E : Type 0} where
  turned : (xs ys : List (Event Name E)) (x : Event Name E) → reverse (xs ++ x ∷ ys) ≡ reverse ys ++ x ∷ reverse xs
  turned xs ys x = reverse-append xs (x ∷ ys) ∙ (ap (λ z. z ++ reverse xs) (reverse-cons x ys) ∙ append_assoc (reverse ys) (x ∷ []) (reverse xs))

  pub looked_blocked : (z z' : TableId) (es fs : List (Event Name E)) (u v w : View E) → Sees u (es ++ Look (name v) ∷ []) v → Blocked v → Sees v fs w → BlockedAfter (standing z u) (es ++ Look (name v) ∷ []) (standing z' w)
  looked_blocked z z' es fs u v w a b c =
      let look : Event Name E = Look (name v) in
      let l = last_own a.rest es look a.adds in
      let early = u.known.seen ++ l.before in
      let seen_is : v.known.seen ≡ early ++ (true, look) ∷ l.later = a.is ∙ (ap (λ r. u.known.seen ++ r) l.is ∙ sym (append_assoc u.known.seen l.before ((true, look) ∷ l.later))) in
      let plain_is : plain v.known.seen ≡ plain early ++ look ∷ plain l.later = ap (λ r. plain r) seen_is ∙ plain_append early ((true, look) ∷ l.later) in
      let back : reverse (plain v.known.seen) ≡ reverse (plain l.later) ++ look ∷ reverse (plain early) = ap reverse plain_is ∙ turned (plain early) (plain l.later) look in
      let cut = since_look (name v) (reverse (plain early)) (reverse (plain l.later)) (subst (past.WasBlockedReversed (name v)) back b) in
      let parts : plain l.later ≡ reverse cut.now ++ reverse cut.later = sym (reverse-reverse (plain l.later)) ∙ (ap reverse cut.is ∙ reverse-append cut.later cut.now) in
      let f = front_of l.later (reverse cut.now) (reverse cut.later) parts in
      let began = early ++ (true, look) ∷ f.front in
      let began_is : reverse (plain began) ≡ cut.now ++ look ∷ reverse (plain early) =
      ap reverse (plain_append early ((true, look) ∷ f.front)) ∙ (turned (plain early) (plain f.front) look
      ∙ ap (λ r. r ++ look ∷ reverse (plain early)) (ap reverse f.plainly ∙ reverse-reverse cut.now)) in
      let all : reverse (plain v.known.seen) ≡ cut.later ++ (cut.now ++ look ∷ reverse (plain early)) = back ∙ (ap (λ r. r ++ look ∷ reverse (plain early)) cut.is ∙ append_assoc cut.later cut.now (look ∷ reverse (plain early))) in
      let legal = front_legal cut.later (cut.now ++ look ∷ reverse (plain early)) (subst (λ r. past.IsLegalReversed r) all a.legal) in record {
        past = began;
        later = f.after ++ c.rest;
        is = c.is ∙ (ap (λ r. r ++ c.rest) (seen_is ∙ (ap (λ r. early ++ (true, look) ∷ r) f.is ∙ sym (append_assoc early ((true, look) ∷ f.front) f.after))) ∙ append_assoc began f.after c.rest);
        adds = own_append early ((true, look) ∷ f.front) ∙ ((λ i. own_append u.known.seen l.before i ++ look ∷ none_front f.front f.after (ap (λ r. own r) (sym f.is) ∙ l.none) i)
            ∙ (append_assoc (own u.known.seen) (own l.before) (look ∷ []) ∙ ap (λ r. own u.known.seen ++ (r ++ look ∷ [])) l.first));
        blocked = told_blocked same_name (plain began) (subst (λ r. past.IsLegalReversed r) (sym began_is) legal) (subst (λ r. past.IsBlockedReversed r) (sym began_is) cut.blocked);
      }
