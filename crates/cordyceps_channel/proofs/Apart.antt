-- What senders sent of which no two act under the same name, among all that came in.
use Rattle.std.proofs.Common.{◌≡◌, ◌≢◌, ℕ, zero, suc, ◌+◌, Bool, true, false, cond, List, [], ◌∷◌, ◌++◌, length, map, refl, ap, ◌∙◌, subst, sym, arith, append-nil, append_assoc}
use Rattle.std.specs.Prelude.{All, Result, Ok, Err, IfOk}
use Rattle.cordyceps_shared.specs.Histories.{plain, own, others}
use Rattle.cordyceps_shared.specs.Interleaving.{Interleaves}
use Rattle.cordyceps_shared.specs.Knowing.{IsPrefixOf, Under}
use Rattle.cordyceps_shared.specs.Sending.{how_many, Delivers}
use Rattle.cordyceps_shared.specs.Shares.{Name}
use Rattle.cordyceps_shared.specs.Standings.{name_of}
use Rattle.cordyceps_shared.proofs.Adding.{plain_append}
use Rattle.cordyceps_shared.proofs.HistoryMarks.{own_append}
use Rattle.cordyceps_shared.proofs.Interleaving.{all_left, length_interleaved}
use Rattle.cordyceps_shared.proofs.Sending.{delivers_more}
use Rattle.cordyceps_queue.specs.History.{Event, actor, came}
use Rattle.cordyceps_queue.specs.Shared.Calls.{PartyOf}
use Rattle.cordyceps_channel.specs.Channels.{AllAmong, AreApart, IsOver, Receives, sent, received}
use Rattle.cordyceps_channel.proofs.Among.{own_split}

-- ---- two lists of the same events with marks, where those that one marks are taken out of the other
module _ {X : Type 0} where
  abbrev without : List (Bool × X) → List (Bool × X) → List (Bool × X)
  without [] ys = []
  without (x ∷ xs) [] = []
  without (x ∷ xs) (y ∷ ys) = cond x.0 (without xs ys) (y ∷ without xs ys)

  left_plain : (xs ys : List (Bool × X)) → plain ys ≡ plain xs → plain (without xs ys) ≡ others xs
  left_plain [] ys e = refl
  left_plain (x ∷ xs) [] e = absurd (cc e)
  left_plain (x ∷ xs) (y ∷ ys) e =
      let same : y.1 ≡ x.1 = cc e in
      let rest : plain ys ≡ plain xs = cc e in
      marked x.0 same (left_plain xs ys rest)
    where
      marked : (b : Bool) → y.1 ≡ x.1 → plain (without xs ys) ≡ others xs → plain (cond b (without xs ys) (y ∷ without xs ys)) ≡ cond b (others xs) (x.1 ∷ others xs)
      marked true same rest = rest
      marked false same rest = λ i. same i ∷ rest i

  left_own : (named : X → Name) (n m : Name) (xs ys : List (Bool × X)) → n ≢ m → plain ys ≡ plain xs → Under named n (own xs) → Under named m (own ys) → own (without xs ys) ≡ own ys
  left_own named n m [] [] ne e a b = refl
  left_own named n m [] (y ∷ ys) ne e a b = absurd (cc e)
  left_own named n m (x ∷ xs) [] ne e a b = absurd (cc e)
  left_own named n m (x ∷ xs) (y ∷ ys) ne e a b =
      let same : y.1 ≡ x.1 = cc e in
      let rest : plain ys ≡ plain xs = cc e in
      marked x.0 y.0 same (left_own named n m xs ys ne rest) a b
    where
      marked : (p q : Bool) → y.1 ≡ x.1 → (Under named n (own xs) → Under named m (own ys) → own (without xs ys) ≡ own ys) → Under named n (cond p (x.1 ∷ own xs) (own xs)) → Under named m (cond q (y.1 ∷ own ys) (own ys))
          → own (cond p (without xs ys) ((q, y.1) ∷ without xs ys)) ≡ cond q (y.1 ∷ own ys) (own ys)
      marked true true same rest a b = absurd (ne (sym a.0 ∙ (ap named (sym same) ∙ b.0)))
      marked true false same rest a b = rest a.1 b
      marked false true same rest a b = ap (λ l. y.1 ∷ l) (rest a b.1)
      marked false false same rest a b = rest a b

  -- events of others
  abbrev not_own : List X → List (Bool × X)
  not_own [] = []
  not_own (x ∷ xs) = (false, x) ∷ not_own xs

  plain_not_own : (xs : List X) → plain (not_own xs) ≡ xs
  plain_not_own [] = refl
  plain_not_own (x ∷ xs) = ap (λ l. x ∷ l) (plain_not_own xs)

  own_not_own : (xs : List X) → own (not_own xs) ≡ []
  own_not_own [] = refl
  own_not_own (x ∷ xs) = own_not_own xs

-- these events are among those of a history, in this order, and carry this name
pub record IsMarked {X : Type 0} (actor : X → Name) (n : Name) (es h : List X) : Type 0 where
  pub marks : List (Bool × X)
  pub is : plain marks ≡ h
  pub mine : own marks ≡ es
  pub named : Under actor n es

module _ {E : Type 0} where
  marked_of : (u : PartyOf E) (h : List (Event Name E)) → IsPrefixOf (plain u.seen) h → Under actor (name_of u) (own u.seen) → IsMarked actor (name_of u) (own u.seen) h
  marked_of u h told named = record {
    marks = u.seen ++ not_own told.0;
    is = plain_append u.seen (not_own told.0) ∙ (ap (λ l. plain u.seen ++ l) (plain_not_own told.0) ∙ sym told.1);
    mine = own_append u.seen (not_own told.0) ∙ (ap (λ l. own u.seen ++ l) (own_not_own told.0) ∙ append-nil (own u.seen));
    named = named;
  }

  abbrev AreMarked : List (PartyOf E) → List (Event Name E) → Type 0
  AreMarked [] h = Unit {0}
  AreMarked (u ∷ us) h = IsMarked actor (name_of u) (own u.seen) h × AreMarked us h

  abbrev HaveOthers : Name → List (PartyOf E) → Type 0
  HaveOthers n [] = Unit {0}
  HaveOthers n (u ∷ us) = (n ≢ name_of u) × HaveOthers n us

  -- the events of one are taken out
  all_marked : (n : Name) (es h : List (Event Name E)) (us : List (PartyOf E)) → (k : IsMarked actor n es h) → HaveOthers n us → AreMarked us h → AreMarked us (others k.marks)
  all_marked n es h [] k ne a = tt
  all_marked n es h (u ∷ us) k ne a =
      let m = a.0 in
      let same : plain m.marks ≡ plain k.marks = m.is ∙ sym k.is in (
        record {
          marks = without k.marks m.marks;
          is = left_plain k.marks m.marks same;
          mine = left_own actor n (name_of u) k.marks m.marks ne.0 same (subst (λ l. Under actor n l) (sym k.mine) k.named) (subst (λ l. Under actor (name_of u) l) (sym m.mine) m.named) ∙ m.mine;
          named = m.named;
        },
        all_marked n es h us k ne.1 a.1,
      )

  -- ---- what they sent, and what others did
  pub record IsSum (us : List (PartyOf E)) (all : List E) : Type 0 where
    pub rest : List E
    pub with_rest : Delivers (map (λ u. sent u) us ++ rest ∷ []) all
    pub alone : rest ≡ [] → Delivers (map (λ u. sent u) us) all
    pub sum : length all ≡ how_many (map (λ u. sent u) us) + length rest

  first_apart : (u : PartyOf E) (us : List (PartyOf E)) → AreApart (u ∷ us) → HaveOthers (name_of u) us
  first_apart u [] a = tt
  first_apart u (v ∷ us) a = (a 0 1 u (omega arith) (omega arith), first_apart u us (dropped u v us a))
    where
      dropped : (u v : PartyOf E) (us : List (PartyOf E)) → AreApart (u ∷ v ∷ us) → AreApart (u ∷ us)
      dropped u v us a zero zero d less below = absurd (omega (arith, less))
      dropped u v us a zero (suc j) d less below = a zero (suc (suc j)) d (omega arith) (omega (arith, below))
      dropped u v us a (suc i) zero d less below = absurd (omega (arith, less))
      dropped u v us a (suc i) (suc j) d less below = a (suc (suc i)) (suc (suc j)) d (omega (arith, less)) (omega (arith, below))

  rest_apart : (u : PartyOf E) (us : List (PartyOf E)) → AreApart (u ∷ us) → AreApart us
  rest_apart u us a i j d less below = a (suc i) (suc j) d (omega (arith, less)) (omega (arith, below))

  sum_of : (us : List (PartyOf E)) (h : List (Event Name E)) → AreApart us → AreMarked us h → IsSum us (came h)
  sum_of [] h apart marked = record {
    rest = came h;
    with_rest = delivers_more (came h) [] [] (came h) refl (all_left (came h));
    alone = λ none. subst (λ (l : List E). Delivers {A = E} [] l) (sym none) refl;
    sum = omega arith;
  }
  sum_of (u ∷ us) h apart marked =
      let k = marked.0 in
      let more = sum_of us (others k.marks) (rest_apart u us apart) (all_marked (name_of u) (own u.seen) h us k (first_apart u us apart) marked.1) in
      let both : Interleaves (sent u) (came (others k.marks)) (came h) =
      subst (λ (l : List (Event Name E)). Interleaves (sent u) (came (others k.marks)) (came l)) k.is (subst (λ (l : List (Event Name E)). Interleaves (came l) (came (others k.marks)) (came (plain k.marks))) k.mine (own_split k.marks)) in
      record {
        rest = more.rest;
        with_rest = delivers_more (sent u) (map (λ v. sent v) us ++ more.rest ∷ []) (came (others k.marks)) (came h) more.with_rest both;
        alone = λ none. delivers_more (sent u) (map (λ v. sent v) us) (came (others k.marks)) (came h) (more.alone none) both;
        sum = omega (arith, length_interleaved (sent u) (came (others k.marks)) (came h) both, more.sum);
      }

  -- a party that knows all that these senders saw, whose own events carry their names
  abbrev pub AreKnown : List (PartyOf E) → PartyOf E → Type 0
  AreKnown [] w = Unit {0}
  AreKnown (u ∷ us) w = (IsPrefixOf (plain u.seen) (plain w.seen) × Under actor (name_of u) (own u.seen)) × AreKnown us w

  known_marked : (us : List (PartyOf E)) (w : PartyOf E) → AreKnown us w → AreMarked us (plain w.seen)
  known_marked [] w k = tt
  known_marked (u ∷ us) w k = (marked_of u (plain w.seen) k.0.0 k.0.1, known_marked us w k.1)

  pub known_later : (us : List (PartyOf E)) (v w : PartyOf E) → IsPrefixOf (plain v.seen) (plain w.seen) → AreKnown us v → AreKnown us w
  known_later [] v w p k = tt
  known_later (u ∷ us) v w p k = (
    ((k.0.0.0 ++ p.0, p.1 ∙ (ap (λ l. l ++ p.0) k.0.0.1 ∙ append_assoc (plain u.seen) k.0.0.0 p.0)), k.0.1),
    known_later us v w p k.1,
  )

  -- what holds of all holds of one between others
  pub of_middle : (P : PartyOf E → Type 0) (all xs : List (PartyOf E)) (x : PartyOf E) (ys : List (PartyOf E)) → all ≡ xs ++ x ∷ ys → All P all → P x
  of_middle P all xs x ys is h = within xs (subst (λ (l : List (PartyOf E)). All P l) is h)
    where
      within : (xs : List (PartyOf E)) → All P (xs ++ x ∷ ys) → P x
      within [] h = h 0 x (omega arith)
      within (z ∷ zs) h = within zs (λ k d below. h (suc k) d (omega (arith, below)))

  -- what senders sent that are apart is among what a receiver received that knows them, and has received all
  pub all_among : (us : List (PartyOf E)) (w : PartyOf E) → AreApart us → AreKnown us w → IsOver w → IsSum us (received w)
  all_among us w apart known over = subst (λ l. IsSum us l) (sym over.all) (sum_of us (plain w.seen) apart (known_marked us w known))

  none_left : (xs : List E) (n : ℕ) → n ≡ n + length xs → xs ≡ []
  none_left [] n e = refl
  none_left (x ∷ xs) n e = absurd (omega (arith, e))

  pub nobody_else : (us : List (PartyOf E)) (all : List E) → IsSum us all → length all ≡ how_many (map (λ u. sent u) us) → Delivers (map (λ u. sent u) us) all
  nobody_else us all s as_many = s.alone (none_left s.rest (how_many (map (λ u. sent u) us)) (sym as_many ∙ s.sum))

  -- ---- what a call says, of calls before it
  pub order_of_all : {X A : Type 0} (items : X → List E) (r : Result X A) (us : List (PartyOf E)) (v w : PartyOf E) → AreApart us → AreKnown us v
      → IfOk r (λ x. Receives (items x) v w × IsOver w) → IfOk r (λ _. AllAmong (map (λ u. sent u) us) (received w))
  order_of_all items (Ok x) us v w apart known h = let s = all_among us w apart (known_later us v w h.0.seen known) h.1 in (s.rest, s.with_rest)
  order_of_all items (Err e) us v w apart known h = h

  pub exactly_all : {X A : Type 0} (items : X → List E) (r : Result X A) (us : List (PartyOf E)) (v w : PartyOf E) → AreApart us → AreKnown us v
      → IfOk r (λ x. Receives (items x) v w × IsOver w) → IfOk r (λ _. length (received w) ≡ how_many (map (λ u. sent u) us) → Delivers (map (λ u. sent u) us) (received w))
  exactly_all items (Ok x) us v w apart known h = λ as_many. nobody_else us (received w) (all_among us w apart (known_later us v w h.0.seen known) h.1) as_many
  exactly_all items (Err e) us v w apart known h = h
