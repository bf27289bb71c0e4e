-- What a try says that finds nothing, and that a consumer finds what it knows to have come in.
use Rattle.std.proofs.Common.{◌≡◌, ◌≢◌, ◌+◌, List, [], ◌∷◌, ◌++◌, length, Bool, true, false, Some, None, refl, sym, ap, ◌∙◌, subst, ⊎_elim, arith, append_assoc, length-append, append-nil}
use Rattle.std.specs.Prelude.{Err}
use Rattle.std.proofs.lemmas.List.Concat.{flat_map-append}
use Rattle.cordyceps_shared.specs.Histories.{plain, own, others}
use Rattle.cordyceps_shared.specs.Knowing.{Foreign, IsPrefixOf}
use Rattle.cordyceps_shared.specs.Shares.{Name, Clear, IsOf, IsShare, first_name}
use Rattle.cordyceps_shared.specs.Standings.{name_of}
use Rattle.cordyceps_shared.proofs.Adding.{plain_append, sees_at}
use Rattle.cordyceps_shared.proofs.EventCounts.{first_of}
use Rattle.cordyceps_queue.specs.declared.cores.steps.TryDequeueError.TheVariants as error
use Rattle.cordyceps_queue.specs.History.{Event, actor, Swap, Link, Take, Busy, Look, Out, Empty, Free, Ring, Clear as ClearBell, comes, goes, came, went, holder, holder_after}
use Rattle.cordyceps_queue.specs.Laws.{EmptyMeansGone, HolderFinds, ToldFinds}
use Rattle.cordyceps_queue.specs.Shared.Calls.{PartyOf, Legal, Adds, Consumes, Retries}
use Rattle.cordyceps_queue.specs.Shared.Receipts.{TellsOfMore}
use Rattle.cordyceps_queue.proofs.CoreTheory.Basics.{some_inj, none_some}
use Rattle.cordyceps_queue.proofs.HistoryEnds.{holder_from-append}

module _ {E : Type 0} where
  abbrev LegalHere : List (Event Name E) → Type 0
  LegalHere h = Legal h

  -- ---- a try that found nothing
  -- its own events up to there, and those after
  gone_at : (u w : PartyOf E) (before after : List (Event Name E)) → Adds u (before ++ Empty (name_of u) ∷ after) w → IsPrefixOf (came (plain u.seen)) (went (plain w.seen))
  gone_at u w before after a =
      let n = name_of u in
      let t = sees_at actor LegalHere u w (before ++ Empty n ∷ after) before after (Empty n) a refl in
      let past = plain u.seen ++ plain t.front in
      let may = a.0.legal.turns past t.later (Empty n) t.all in
      let more = went (Empty n ∷ t.later) in (
        came (plain t.front) ++ more,
        ap went t.all ∙ (flat_map-append goes past (Empty n ∷ t.later) ∙ (ap (λ z. z ++ more) (may.1 ∙ flat_map-append comes (plain u.seen) (plain t.front)) ∙ append_assoc (came (plain u.seen)) (came (plain t.front)) more)),
      )

  pub empty_means_gone : EmptyMeansGone E
  empty_means_gone u w d =
      let n = name_of u in ⊎_elim
      (λ t. gone_at u w (Take n ∷ Look n ∷ []) (Free n ∷ []) t.0)
      (λ t. gone_at u w (Look n ∷ []) [] t.0)
      d

  -- ---- while a party has the right, no other takes out
  abbrev OnlyLooks : List (Event Name E) → Type 0
  OnlyLooks [] = Unit {0}
  OnlyLooks (Look p ∷ es) = OnlyLooks es
  OnlyLooks (_ ∷ es) = ⊥

  -- the event takes nothing out, and the same party has the right after it
  abbrev TakesNothing : Name → List (Event Name E) → Event Name E → Type 0
  TakesNothing n past x = (goes x ≡ []) × (holder (past ++ x ∷ []) ≡ Some n)

  stays_with : (n : Name) (past : List (Event Name E)) (x : Event Name E) → holder past ≡ Some n → goes x ≡ [] → holder_after (Some n) x ≡ Some n → TakesNothing n past x
  stays_with n past x has none same = (none, holder_from-append None past (x ∷ []) ∙ (ap (λ o. holder_after o x) has ∙ same))

  not_another : (n p : Name) (past : List (Event Name E)) → holder past ≡ Some n → holder past ≡ Some p → p ≢ n → ⊥
  not_another n p past has other ne = ne (some_inj (sym other ∙ has))

  by_another : (n : Name) (past later : List (Event Name E)) (h : List (Event Name E)) (x : Event Name E) → Legal h → h ≡ past ++ x ∷ later → holder past ≡ Some n → actor x ≢ n → TakesNothing n past x
  by_another n past later h (Swap p e) l is has ne = stays_with n past (Swap p e) has refl refl
  by_another n past later h (Link p) l is has ne = stays_with n past (Link p) has refl refl
  by_another n past later h (Take p) l is has ne = absurd (none_some (sym (l.turns past later (Take p) is) ∙ has))
  by_another n past later h (Busy p) l is has ne = stays_with n past (Busy p) has refl refl
  by_another n past later h (Look p) l is has ne = stays_with n past (Look p) has refl refl
  by_another n past later h (Out p e) l is has ne = absurd (not_another n p past has (l.turns past later (Out p e) is) ne)
  by_another n past later h (Empty p) l is has ne = stays_with n past (Empty p) has refl refl
  by_another n past later h (Free p) l is has ne = absurd (not_another n p past has (l.turns past later (Free p) is) ne)
  by_another n past later h (Ring p) l is has ne = stays_with n past (Ring p) has refl refl
  by_another n past later h (ClearBell p) l is has ne = stays_with n past (ClearBell p) has refl refl

  by_itself : (n : Name) (past : List (Event Name E)) (x : Event Name E) (es : List (Event Name E)) → OnlyLooks (x ∷ es) → holder past ≡ Some n → TakesNothing n past x × OnlyLooks es
  by_itself n past (Look p) es l has = (stays_with n past (Look p) has refl refl, l)
  by_itself n past (Swap p e) es l has = absurd l
  by_itself n past (Link p) es l has = absurd l
  by_itself n past (Take p) es l has = absurd l
  by_itself n past (Busy p) es l has = absurd l
  by_itself n past (Out p e) es l has = absurd l
  by_itself n past (Empty p) es l has = absurd l
  by_itself n past (Free p) es l has = absurd l
  by_itself n past (Ring p) es l has = absurd l
  by_itself n past (ClearBell p) es l has = absurd l

  none_out : (share : List Name) (n : Name) → IsOf share n → (h : List (Event Name E)) → Legal h → (past : List (Event Name E)) (front : List (Bool × Event Name E)) (later : List (Event Name E)) → h ≡ past ++ (plain front ++ later) → holder past ≡ Some n
      → Foreign actor share (others front) → OnlyLooks (own front) → (went (plain front) ≡ []) × (holder (past ++ plain front) ≡ Some n)
  none_out share n of h l past [] later is has foreign looks = (refl, ap holder (append-nil past) ∙ has)
  none_out share n of h l past ((true, x) ∷ fs) later is has foreign looks =
      let c = by_itself n past x (own fs) looks has in
      let t = none_out share n of h l (past ++ x ∷ []) fs later (is ∙ sym (append_assoc past (x ∷ []) (plain fs ++ later))) c.0.1 foreign c.1 in
      (ap (λ z. z ++ went (plain fs)) c.0.0 ∙ t.0, ap holder (sym (append_assoc past (x ∷ []) (plain fs))) ∙ t.1)
  none_out share n of h l past ((false, x) ∷ fs) later is has foreign looks =
      let c = by_another n past (plain fs ++ later) h x l is has (λ e. of (subst (λ m. Clear m share) e foreign.0)) in
      let t = none_out share n of h l (past ++ x ∷ []) fs later (is ∙ sym (append_assoc past (x ∷ []) (plain fs ++ later))) c.1 foreign.1 looks in
      (ap (λ z. z ++ went (plain fs)) c.0 ∙ t.0, ap holder (sym (append_assoc past (x ∷ []) (plain fs))) ∙ t.1)

  pub holder_finds : HolderFinds E
  holder_finds u w share has more d =
      let n = name_of u in
      let t = sees_at actor LegalHere u w (Look n ∷ Empty n ∷ []) (Look n ∷ []) [] (Empty n) d.0 refl in
      let past = plain u.seen ++ plain t.front in
      let may = d.0.0.legal.turns past t.later (Empty n) t.all in
      let none = none_out u.share n (first_of u.share share.0) (plain w.seen) d.0.0.legal (plain u.seen) t.front (Empty n ∷ t.later) (t.all ∙ append_assoc (plain u.seen) (plain t.front) (Empty n ∷ t.later)) has t.foreign (subst (λ es. OnlyLooks es) (sym t.mine) tt) in
      let out : went past ≡ went (plain u.seen) = flat_map-append goes (plain u.seen) (plain t.front) ∙ (ap (λ z. went (plain u.seen) ++ z) none.0 ∙ append-nil (went (plain u.seen))) in
      let sizes : length (went (plain u.seen)) ≡ length (came (plain u.seen)) + length (came (plain t.front)) = ap length (sym out ∙ (may.1 ∙ flat_map-append comes (plain u.seen) (plain t.front))) ∙ length-append (came (plain u.seen)) (came (plain t.front)) in
      absurd (omega arith)

  -- ---- a consumer that learned a receipt
  -- tries that gave nothing, or a learned receipt, leave what went out, and the right
  record KeepsRight (u w : PartyOf E) : Type 0 where
    out : went (plain w.seen) ≡ went (plain u.seen)
    came_in : IsPrefixOf (came (plain u.seen)) (came (plain w.seen))
    has : holder (plain w.seen) ≡ Some (name_of w)

  keeps_right : (u w : PartyOf E) (es : List (Event Name E)) → IsShare u.share → holder (plain u.seen) ≡ Some (name_of u) → Adds u es w → OnlyLooks es → KeepsRight u w
  keeps_right u w es share has a looks =
      let n = name_of u in
      let g = a.0 in
      let all : plain w.seen ≡ plain u.seen ++ plain g.rest = ap plain g.is ∙ plain_append u.seen g.rest in
      let none = none_out u.share n (first_of u.share share.0) (plain w.seen) g.legal (plain u.seen) g.rest [] (all ∙ ap (λ z. plain u.seen ++ z) (sym (append-nil (plain g.rest)))) has g.foreign (subst (λ z. OnlyLooks z) (sym g.adds) looks) in
      record {
        out = ap went all ∙ (flat_map-append goes (plain u.seen) (plain g.rest) ∙ (ap (λ z. went (plain u.seen) ++ z) none.0 ∙ append-nil (went (plain u.seen))));
        came_in = (came (plain g.rest), ap came all ∙ flat_map-append comes (plain u.seen) (plain g.rest));
        has = ap holder all ∙ (none.1 ∙ ap (λ ns. Some (first_name ns)) (sym g.share));
      }

  never_empty : (u : PartyOf E) (vs : List (PartyOf E)) (v w : PartyOf E) → IsShare u.share → holder (plain u.seen) ≡ Some (name_of u) → TellsOfMore (plain u.seen) u → Retries (Consumes (Err error.Inconsistent)) u vs v → Consumes (Err error.Empty) v w → ⊥
  never_empty u [] v w share has more same d = holder_finds u w share has more (subst (λ x. Consumes (Err error.Empty) x w) (sym same) d)
  never_empty u (x ∷ vs) v w share has more r d =
      let a = r.0.adds in
      let k = keeps_right u x (Look (name_of u) ∷ []) share has a tt in
      let size = ap length k.came_in.1 ∙ length-append (came (plain u.seen)) k.came_in.0 in
      let out = ap length k.out in
      never_empty x vs v w (subst (λ ns. IsShare ns) (sym a.0.share) share) k.has (omega arith) r.1 d

  pub told_finds : ToldFinds E
  told_finds h u v w share has more l a =
      let (tries, x, failed, ends) = a in
      let k = keeps_right u v [] share has l.adds tt in
      let size = ap length (ap came l.told.1 ∙ flat_map-append comes h l.told.0) ∙ length-append (came h) (came l.told.0) in
      let out = ap length k.out in
      never_empty v tries x w (subst (λ ns. IsShare ns) (sym l.adds.0.share) share) k.has (omega arith) failed ends
