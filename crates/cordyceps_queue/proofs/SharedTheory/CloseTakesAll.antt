-- What a whole party takes out of a queue is what its history holds.
use Rattle.std.proofs.Common.{◌≡◌, List, [], ◌∷◌, ◌++◌, reverse, drop, refl, sym, ap, ◌∙◌, subst}
use Rattle.std.specs.Prelude.{Ok, Err}
use Rattle.std.proofs.lemmas.List.{reverse-append}
use Rattle.cordyceps_shared.specs.Histories.{plain}
use Rattle.cordyceps_shared.specs.Shares.{Name, whole}
use Rattle.cordyceps_shared.specs.Standings.{name_of}
use Rattle.cordyceps_shared.proofs.Adding.{whole_adds}
use Rattle.cordyceps_queue.specs.declared.cores.steps.TryDequeueError.{TryDequeueError}
use Rattle.cordyceps_queue.specs.declared.cores.steps.TryDequeueError.TheVariants as error
use Rattle.cordyceps_queue.specs.History.{Event, Swap, Link, Take, Look, Out, Empty, Free, held, actor}
use Rattle.cordyceps_queue.specs.Past as past
use Rattle.cordyceps_queue.specs.Shared.Calls.{same_name, PartyOf, Legal, Adds, Enqueues, Dequeues, Consumes, IsCertain}
use Rattle.cordyceps_queue.proofs.BothWays.{legal_both_ways}
use Rattle.cordyceps_queue.proofs.Legality.{held_of}
use Rattle.cordyceps_queue.proofs.SharedTheory.TriesInTurn.{Run, run_holds}

module _ {E : Type 0} where
  -- the legal history of a whole party that added these events, the newest first
  back_legal : (u w : PartyOf E) (es : List (Event Name E)) → u.share ≡ whole → Adds u es w → past.IsLegalReversed (reverse es ++ reverse (plain u.seen))
  back_legal u w es is a =
      let all = whole_adds actor (λ h. Legal h) u w es is a in
      subst (λ r. past.IsLegalReversed r) (ap reverse all ∙ reverse-append (plain u.seen) es) ((legal_both_ways Name E same_name (plain w.seen)).0 a.0.legal)

  -- these events of a whole party take out the first element that was held
  first_taken : (u w : PartyOf E) (es : List (Event Name E)) (e : E) (rest : List E) → u.share ≡ whole → Adds u es w → let before = reverse (plain u.seen) in past.IsLegalReversed before
      → past.held_reversed before ≡ e ∷ rest → past.held_reversed (reverse es ++ before) ≡ drop 1 (past.held_reversed before) → held (plain u.seen) ≡ e ∷ held (plain w.seen)
  first_taken u w es e rest is a legal out less =
      let back : reverse (plain w.seen) ≡ reverse es ++ reverse (plain u.seen) = ap reverse (whole_adds actor (λ h. Legal h) u w es is a) ∙ reverse-append (plain u.seen) es in
      let after = held_of (plain w.seen) (subst (λ r. past.IsLegalReversed r) (sym back) (back_legal u w es is a)) ∙ ap (λ r. past.held_reversed r) back ∙ less in
      held_of (plain u.seen) legal ∙ (out ∙ ap (λ xs. e ∷ xs) (sym (after ∙ ap (drop 1) out)))

  pub takes_first : (u w : PartyOf E) (e : E) → u.share ≡ whole → Dequeues (Ok e) u w → held (plain u.seen) ≡ e ∷ held (plain w.seen)
  takes_first u w e is d =
      let n = name_of u in
      let es : List (Event Name E) = Take n ∷ Look n ∷ Out n e ∷ Free n ∷ [] in
      let l = back_legal u w es is d.0 in
      let (holds, rest, first) = l.1.0 in first_taken u w es e rest is d.0 l.1.1.1.1 first refl

  -- what a whole party puts in is held after what was
  pub holds_last : (u w : PartyOf E) (e : E) → u.share ≡ whole → Enqueues e u w → held (plain w.seen) ≡ held (plain u.seen) ++ e ∷ []
  holds_last u w e is d =
      let n = name_of u in
      let es : List (Event Name E) = Swap n e ∷ Link n ∷ [] in
      let l = back_legal u w es is d.0 in
      let all = whole_adds actor (λ h. Legal h) u w es is d.0 in
      let back : reverse (plain w.seen) ≡ reverse es ++ reverse (plain u.seen) = ap reverse all ∙ reverse-append (plain u.seen) es in
      held_of (plain w.seen) (subst (λ r. past.IsLegalReversed r) (sym back) l) ∙ ap (λ r. past.held_reversed r) back ∙ ap (λ xs. xs ++ e ∷ []) (sym (held_of (plain u.seen) l.1.1))

  -- a try that took this element
  abbrev pub TakesOut : E → PartyOf E → PartyOf E → Type 0
  TakesOut e u w = Dequeues (Ok e) u w

  -- what a whole party's tries took is the front of what was held
  pub takes_front : (u w : PartyOf E) (es : List E) → u.share ≡ whole → Run TakesOut u es w → held (plain u.seen) ≡ es ++ held (plain w.seen)
  takes_front u w es is r = run_holds TakesOut (λ e x y d. d.0.0.share) (λ e x y whole_is d. takes_first x y e whole_is d) u es w is r

  finds_none : (u w : PartyOf E) → u.share ≡ whole → Dequeues (Err error.Empty) u w → held (plain u.seen) ≡ []
  finds_none u w is d =
      let n = name_of u in
      let l = back_legal u w (Take n ∷ Look n ∷ Empty n ∷ Free n ∷ []) is d.0 in held_of (plain u.seen) l.1.1.1.1 ∙ l.1.0.1

  -- what is left where a whole party's try gave nothing
  pub nothing_left : (u w : PartyOf E) (why : TryDequeueError) → u.share ≡ whole → Dequeues (Err why) u w → IsCertain {E = E} (Err why) → held (plain u.seen) ≡ []
  nothing_left u w error.Empty is d c = finds_none u w is d
  nothing_left u w error.Inconsistent is d c = absurd c
  nothing_left u w error.Busy is d c = absurd c

  -- the same of a try with the right
  pub gives_first : (u w : PartyOf E) (e : E) → u.share ≡ whole → Consumes (Ok e) u w → held (plain u.seen) ≡ e ∷ held (plain w.seen)
  gives_first u w e is d =
      let n = name_of u in
      let es : List (Event Name E) = Look n ∷ Out n e ∷ [] in
      let l = back_legal u w es is d.0 in
      let (holds, rest, first) = l.0 in first_taken u w es e rest is d.0 l.1.1 first refl

  pub gives_none : (u w : PartyOf E) (why : TryDequeueError) → u.share ≡ whole → Consumes (Err why) u w → IsCertain {E = E} (Err why) → (why ≡ error.Empty) × (held (plain u.seen) ≡ [])
  gives_none u w error.Empty is d c =
      let n = name_of u in
      let l = back_legal u w (Look n ∷ Empty n ∷ []) is d.0 in (refl, held_of (plain u.seen) l.1.1 ∙ l.0.1)
  gives_none u w error.Inconsistent is d c = absurd c
  gives_none u w error.Busy is d c = absurd c
