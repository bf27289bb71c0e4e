-- A party that clears the bell, tries to dequeue, gets no element and sleeps: who has yet to ring.
use Rattle.std.proofs.Common.{◌≡◌, ◌+◌, List, [], ◌∷◌, ◌++◌, Bool, true, false, cond, refl, sym, ap, ◌∙◌, subst, append_assoc, arith}
use Rattle.std.specs.Prelude.{Result, Err}
use Rattle.cordyceps_shared.specs.Histories.{plain, own, others}
use Rattle.cordyceps_shared.specs.Shares.{Name, first_name}
use Rattle.cordyceps_shared.specs.Standings.{name_of}
use Rattle.cordyceps_shared.proofs.Adding.{plain_append}
use Rattle.cordyceps_shared.proofs.HistoryMarks.{own_append, others_append, since}
use Rattle.cordyceps_queue.specs.declared.cores.steps.TryDequeueError.{TryDequeueError}
use Rattle.cordyceps_queue.specs.declared.cores.steps.TryDequeueError.TheVariants as error
use Rattle.cordyceps_queue.specs.Bells.{clear_count, clears, HeldAreOwed}
use Rattle.cordyceps_queue.specs.History.{Event, Take, Look, Empty, Free, Clear}
use Rattle.cordyceps_queue.specs.Shared.Bell.{ClearsBell, Sleeps, NoOtherClears, TriesOrSleeps, BlockerOwes}
use Rattle.cordyceps_queue.specs.Shared.Calls.{PartyOf, same_name, BlockedAfter, Dequeues}
use Rattle.cordyceps_queue.proofs.SharedTheory.OthersDoing.{longer}
use Rattle.cordyceps_queue.proofs.SharedTheory.SleeperLaw.{clears-append, none_found, blocker_owes}

module _ {E : Type 0} where
  -- how often a list with marks was cleared: by the party itself, and by others
  clears_marks : (l : List (Bool × Event Name E)) → clears (plain l) ≡ clears (own l) + clears (others l)
  clears_marks [] = refl
  clears_marks (x ∷ l) = at_first x.0 (clears_marks l)
    where
      at_first : (b : Bool) → clears (plain l) ≡ clears (own l) + clears (others l)
          → clears (plain l) + clear_count x.1 ≡ clears (cond b (x.1 ∷ own l) (own l)) + clears (cond b (others l) (x.1 ∷ others l))
      at_first true e = omega arith
      at_first false e = omega arith

  clears_own : (xs ys : List (Bool × Event Name E)) → clears (own (xs ++ ys)) ≡ clears (own xs) + clears (own ys)
  clears_own xs ys = ap clears (own_append xs ys) ∙ clears-append (own xs) (own ys)

  clears_others : (xs ys : List (Bool × Event Name E)) → clears (others (xs ++ ys)) ≡ clears (others xs) + clears (others ys)
  clears_others xs ys = ap clears (others_append xs ys) ∙ clears-append (others xs) (others ys)

  -- what it saw in a try, after some of it, and before it slept: nobody cleared the bell
  none_after : (front later rest first slept : List (Bool × Event Name E)) → rest ≡ front ++ later → clears (others (first ++ (rest ++ slept))) ≡ 0 → clears (own rest) ≡ 0 → own slept ≡ [] → clears (plain (later ++ slept)) ≡ 0
  none_after front later rest first slept is none mine asleep =
      omega (arith, clears_marks (later ++ slept), clears_own later slept, clears_others later slept, ap clears asleep, ap (λ l. clears (own l)) is, clears_own front later, ap (λ l. clears (others l)) is, clears_others front later, clears_others first (rest ++ slept), clears_others rest slept)

  module _ (u v x w : PartyOf E) (c : ClearsBell u v) (s : Sleeps true x w) (alone : NoOtherClears u w) where
    -- what it has seen since it cleared the bell, where the try saw this
    since_cleared : (rest : List (Bool × Event Name E)) → x.seen ≡ v.seen ++ rest → clears (others (c.0.0.rest ++ (rest ++ s.0.0.rest))) ≡ 0
    since_cleared rest is =
        let a = c.0.0 in
        let g = s.0.0 in
        alone (a.rest ++ (rest ++ g.rest)) (g.is ∙ (ap (λ z. z ++ g.rest) (is ∙ ap (λ z. z ++ rest) a.is) ∙ (append_assoc (u.seen ++ a.rest) rest g.rest ∙ append_assoc u.seen a.rest (rest ++ g.rest))))

    pub held_owed : Dequeues (Err error.Empty) v x → HeldAreOwed same_name (plain w.seen)
    held_owed d =
        let b = d.0.0 in
        let g = s.0.0 in
        let n = name_of v in
        let at = since b.rest (Take n ∷ Look n ∷ []) (Free n ∷ []) (Empty n) b.adds in
        let before = v.seen ++ at.front in
        let tried : x.seen ≡ before ++ (true, Empty n) ∷ at.later = b.is ∙ (ap (λ z. v.seen ++ z) at.is ∙ sym (append_assoc v.seen at.front ((true, Empty n) ∷ at.later))) in
        let is : w.seen ≡ before ++ (true, Empty n) ∷ (at.later ++ g.rest) = g.is ∙ (ap (λ z. z ++ g.rest) tried ∙ append_assoc before ((true, Empty n) ∷ at.later) g.rest) in
        let parts : b.rest ≡ (at.front ++ (true, Empty n) ∷ []) ++ at.later = at.is ∙ sym (append_assoc at.front ((true, Empty n) ∷ []) at.later) in
        none_found same_name (plain w.seen) (plain before) (plain (at.later ++ g.rest)) n g.legal (ap plain is ∙ plain_append before ((true, Empty n) ∷ (at.later ++ g.rest)))
        (none_after (at.front ++ (true, Empty n) ∷ []) at.later b.rest c.0.0.rest g.rest parts (since_cleared b.rest b.is) (ap clears b.adds) g.adds) (s.2 refl)

    pub blocker_owed : Dequeues (Err error.Inconsistent) v x → BlockerOwes u w
    blocker_owed d =
        let a = c.0.0 in
        let b = d.adds.0 in
        let g = s.0.0 in
        let p = d.prefix in
        let n = name_of u in
        let m = name_of v in
        let t = longer v.seen b.rest p.past p.later (Take m ∷ Look m ∷ []) (λ e. cc) (sym b.is ∙ p.is) p.adds in
        let is : w.seen ≡ p.past ++ (p.later ++ g.rest) = g.is ∙ (ap (λ z. z ++ g.rest) p.is ∙ append_assoc p.past p.later g.rest) in
        let cleared : own v.seen ≡ own u.seen ++ Clear n ∷ [] = ap own a.is ∙ (own_append u.seen a.rest ∙ ap (λ z. own u.seen ++ z) a.adds) in
        let mine : own p.past ≡ own u.seen ++ Clear n ∷ Take n ∷ Look n ∷ [] = p.adds ∙ (ap (λ z. z ++ Take m ∷ Look m ∷ []) cleared ∙ (append_assoc (own u.seen) (Clear n ∷ []) (Take m ∷ Look m ∷ []) ∙ ap (λ q. own u.seen ++ Clear n ∷ Take q ∷ Look q ∷ []) (ap first_name a.share))) in
        let after : BlockedAfter u (Clear n ∷ Take n ∷ Look n ∷ []) w = record { past = p.past; later = p.later ++ g.rest; is = is; adds = mine; blocked = p.blocked } in (
          after,
          blocker_owes same_name (plain w.seen) (plain p.past) (plain (p.later ++ g.rest)) g.legal (ap plain is ∙ plain_append p.past (p.later ++ g.rest)) p.blocked
              (none_after t.more p.later b.rest a.rest g.rest t.rest_is (since_cleared b.rest b.is) (ap clears b.adds) g.adds) (s.2 refl),
        )

  -- of a call that does all this
  pub tries_owed : (r : Result E (TryDequeueError × Bool)) (u w : PartyOf E) → TriesOrSleeps r u w → r ≡ Err (error.Empty, true) → NoOtherClears u w → HeldAreOwed same_name (plain w.seen)
  tries_owed r u w t is alone =
      let (v, x, cleared, tried, slept) = subst (λ q. TriesOrSleeps q u w) is t in held_owed u v x w cleared slept alone tried

  pub tries_blocked : (r : Result E (TryDequeueError × Bool)) (u w : PartyOf E) → TriesOrSleeps r u w → r ≡ Err (error.Inconsistent, true) → NoOtherClears u w → BlockerOwes u w
  tries_blocked r u w t is alone =
      let (v, x, cleared, tried, slept) = subst (λ q. TriesOrSleeps q u w) is t in blocker_owed u v x w cleared slept alone tried
