-- What a queue's table allows a party that dequeues, with a slot in hand or none.
use Rattle.std.proofs.Common.{◌≡◌, ◌≢◌, ℕ, zero, suc, ◌+◌, ◌-◌, ◌<◌, List, [], ◌∷◌, ◌++◌, length, get_or, Some, refl, sym, ap, ◌∙◌, subst, inl, arith}
use mathlib.Core.Option.{some, none}
use lib.ListN.{get_elem?}
use Rattle.atomic_table.specs.Table.{carried_after, step}
use Rattle.cordyceps_shared.specs.Slots.{Near}
use Rattle.cordyceps_shared.specs.Words as word
use Rattle.cordyceps_shared.specs.declared.layout.TheConstants.{RIGHT, LINKS}
use Rattle.cordyceps_shared.specs.Shares.{Name}
use Rattle.cordyceps_queue.specs.declared.cores.stage.Stage.TheVariants.{Rest, Holding, Second, Null}
use Rattle.cordyceps_queue.specs.History.{Event}
use Rattle.cordyceps_queue.specs.Cores.Meets.{Owes, tail_of, Real, Meets}
use Rattle.cordyceps_queue.specs.Shared.Plays.{SeatState, carry, MovesTo, HandsOut}
use Rattle.cordyceps_queue.specs.Shared.Plays as play
use Rattle.cordyceps_queue.specs.Shared.Rule.{TableState, link_of, party, PlainHolds}
use Rattle.cordyceps_shared.specs.FreeChains.{MayJoin}
use Rattle.cordyceps_queue.specs.Shared.View.{View, name, free_chain, back_chain, view_returned, begun_count}
use Rattle.cordyceps_queue.specs.Cores.Abstract.{AbstractParty, AbstractMachine, update, set_right}
use Rattle.cordyceps_queue.proofs.CoreTheory.Basics.{some_inj, put_again, zero_suc, suc_zero, suc_inj}
use Rattle.cordyceps_queue.proofs.CoreTheory.DequeueSteps.{free_right, take_keeps, chain_after_take, give_keeps, chain_after_give}
use Rattle.cordyceps_queue.proofs.CoreTheory.HolderSteps.{keeping, tell_keeps}
use Rattle.cordyceps_queue.proofs.CoreTheory.ProducerSteps.{busy_keeps}
use Rattle.cordyceps_queue.proofs.SharedTheory.WordsAsMachine.{party_as, quiet, chain_near, PlainAllows}
use Rattle.cordyceps_queue.proofs.SharedTheory.ReturnKeeps.{returning, moved_on, handed_on}
use Rattle.cordyceps_queue.proofs.SharedTheory.DequeueKeeps.{n, out_events, there, sees, rights, stood, same_rooms, Comes, ReadsTail, reading}

module _ {E : Type 0} (s : TableState E) (k : PlainHolds s) (id : ℕ) (v : View E) (at : get_elem? s.views id ≡ some v) (named : v.known.share ≢ []) (bare : v.back ≡ []) where
  abbrev core : AbstractMachine Name E
  core = n s k id v at named bare

  abbrev gone_by : List (Event Name E)
  gone_by = out_events s k id v at named bare

  is_there : core.party id ≡ Some (party v)
  is_there = there s k id v at named bare

  -- ---- the swap of the right
  module _ (rest : v.stage ≡ Rest) where
    unmoved : word.right s.words ≡ 0 → set_right core id (party v) 0 Rest ≡ core
    unmoved e j = record {
      head = word.head s.words;
      right = sym e j;
      count = length s.words - LINKS;
      next = λ r. link_of (word.next s.words r);
      cell = k.cell;
      party = (ap (λ (p : AbstractParty Name). update core.party id (Some p)) (λ i. record { name = name v; stage = sym rest i; spare = v.free ++ v.back }) ∙ put_again core.party id (party v) is_there) j;
    }

    takes_bare : (slots : ℕ) → length s.homes ≡ slots → (x : ℕ) → word.right s.words ≡ x → Comes s k id v at named bare RIGHT 0 (play.after_take (step slots RIGHT 0 0 none) (v, []))
    takes_bare slots deep zero e =
        let x : Event Name E = Event.Busy (name v) in
        let met = subst (λ q. Meets q k.chain (x ∷ gone_by)) (sym (unmoved e)) (busy_keeps core k.chain gone_by k.meets id (party v) is_there rest e) in
        let r = rights s k id v at named bare (x ∷ []) ((refl, tt), refl) Rest k.chain 0 met (same_rooms s k id v at named bare)
        (λ q is. cc) (ap begun_count rest) refl (λ x pooled. pooled) in (
          quiet (sees s k id v at named bare (x ∷ []) v.free v.end v.back v.to Rest) r.0,
          λ _. ((λ _. stood s k id v at named bare (x ∷ []) Rest r.1), λ t f. absurd (zero_suc (sym e ∙ f))),
        )
    takes_bare slots deep (suc t) e =
        let x : Event Name E = Event.Take (name v) in
        let r = rights s k id v at named bare (x ∷ []) ((refl, tt), refl) (Holding t) (chain_after_take core k.chain gone_by k.meets id (party v) is_there t rest e) 0
        (take_keeps core k.chain gone_by k.meets id (party v) is_there t rest e) (same_rooms s k id v at named bare) (λ q is. cc) (ap begun_count rest) refl (λ x pooled. pooled) in
        let first = free_right core.right core.party k.chain.rooms gone_by k.chain.keeper t e k.meets.right in
        let near = chain_near s k 0 t first.tail_at in
        let w = sees s k id v at named bare (x ∷ []) v.free v.end v.back v.to (Holding t) in (
          quiet w r.0,
          λ _. (
            (λ f. absurd (suc_zero (sym e ∙ f))),
            λ t' f. subst
                (λ q. MovesTo (x ∷ []) (Holding q) (v, []) (w, []) × (q < slots)) (suc_inj (sym e ∙ f))
                (stood s k id v at named bare (x ∷ []) (Holding t) r.1, omega arith),
          ),
        )

  -- ---- the reads of a link, and the store of the right
  module _ (t : ℕ) (holding : v.stage ≡ Holding t) where
    has : tail_of v.stage ≡ Some t
    has = ap tail_of holding

    nothing : (a b : ℕ) → Owes v.stage a b → ⊥
    nothing a b o = subst (λ l. Owes l a b) holding o

    pub looked_on : Meets core k.chain (Event.Look (name v) ∷ gone_by)
    looked_on = tell_keeps core k.chain gone_by k.meets id (party v) is_there t has (Event.Look (name v)) holding (keeping core k.chain gone_by k.meets id (party v) is_there t has).held_by refl refl (λ q s. s) (λ q n w. w)

    gives_bare : (n' : ℕ) → n' ≡ t + 1 → Comes s k id v at named bare RIGHT n'
        (λ _. MovesTo (Event.Free (name v) ∷ []) Rest (v, []))
    gives_bare n' is =
        let x : Event Name E = Event.Free (name v) in
        let r = rights s k id v at named bare (x ∷ []) ((refl, tt), refl) Rest (chain_after_give core k.chain gone_by k.meets id (party v) is_there t holding) (suc t)
        (give_keeps core k.chain gone_by k.meets id (party v) is_there t holding) (same_rooms s k id v at named bare) (λ q is. cc) (ap begun_count holding) refl (λ x pooled. pooled) in
        let same : suc t ≡ n' = omega arith in
        subst (λ q. Comes s k id v at named bare RIGHT q (λ _. MovesTo (x ∷ []) Rest (v, []))) same
        (quiet (sees s k id v at named bare (x ∷ []) v.free v.end v.back v.to Rest) r.0, stood s k id v at named bare (x ∷ []) Rest r.1)

    looks_bare : t ≢ 0 → (i : ℕ) → i ≡ LINKS + t → (slots : ℕ) → length s.homes ≡ slots → Comes s k id v at named bare i (get_or s.words i 0) (ReadsTail s k id v at named bare (Event.Look (name v) ∷ []) slots t)
    looks_bare is_real i is slots deep = reading s k id v at named bare (Event.Look (name v) ∷ []) ((refl, tt), refl) looked_on t i has nothing is_real (inl refl) is slots deep (get_or s.words i 0) refl

  module _ (t : ℕ) (at_second : v.stage ≡ Second t) where
    knows_tail : Real k.chain.keeper k.chain.rooms gone_by id (name v) t
    knows_tail = party_as s k id v at named at_second

    reads_bare : (i : ℕ) → i ≡ LINKS + t → (slots : ℕ) → length s.homes ≡ slots → Comes s k id v at named bare i (get_or s.words i 0) (ReadsTail s k id v at named bare [] slots t)
    reads_bare i is slots deep = reading s k id v at named bare [] (tt, refl) k.meets t i (ap tail_of at_second) (λ a b o. subst (λ l. Owes l a b) at_second o) knows_tail.is_real knows_tail.looked is slots deep (get_or s.words i 0) refl

module _ {E : Type 0} (slots id : ℕ) (me : SeatState E) (hand : me.1 ≡ carry me.0.back) (near : Near slots me.0.back) (named : me.0.known.share ≢ []) (may : MayJoin (free_chain me.0) (back_chain me.0)) where
  pub takes_right : me.0.stage ≡ Rest → PlainAllows slots id me RIGHT (λ _. 0) (play.after_take (step slots RIGHT 0 0 none) me)
  takes_right rest = returning slots id RIGHT me (λ _. 0) (play.after_take (step slots RIGHT 0 0 none) me) hand near named may
      (λ s k deep at.
      let c = takes_bare s k id (view_returned me.0) at named refl rest slots deep (word.right s.words) refl in
      let z : SeatState E = (c.0.view, carried_after [] c.0.act) in (
        c.0,
        λ stage. let t = c.1 stage in (
          (λ e. moved_on me z (Event.Busy (name me.0) ∷ []) Rest (t.0 e)),
          λ u e.
              let h = t.1 u e in (moved_on me z (Event.Take (name me.0) ∷ []) (Holding u) h.0, h.1),
        ),
      ))

  pub gives_right : (t n' : ℕ) → n' ≡ t + 1 → me.0.stage ≡ Holding t → PlainAllows slots id me RIGHT (λ _. n') (λ _. play.after_give (step slots RIGHT n' 0 none) me n')
  gives_right t n' is holding = returning slots id RIGHT me (λ _. n') (λ _. play.after_give (step slots RIGHT n' 0 none) me n') hand near named may
      (λ s k deep at. let c = gives_bare s k id (view_returned me.0) at named refl t holding n' is in
      (c.0, λ _ _. moved_on me (c.0.view, carried_after [] c.0.act) (Event.Free (name me.0) ∷ []) Rest c.1))

  pub looks : (t i : ℕ) → i ≡ LINKS + t → me.0.stage ≡ Holding t → t ≢ 0 → PlainAllows slots id me i (λ x. x) (play.after_look (step slots i 0 0 none) me)
  looks t i is holding is_real = returning slots id i me (λ x. x) (play.after_look (step slots i 0 0 none) me) hand near named may
      (λ s k deep at.
      let c = looks_bare s k id (view_returned me.0) at named refl t holding is_real i is slots deep in (
        c.0,
        λ u stage ne.
            let z : SeatState E = (c.0.view, carried_after [] c.0.act) in
            let t = subst (λ q. ReadsTail s k id (view_returned me.0) at named refl
            (Event.Look (name me.0) ∷ []) slots q (get_or s.words i 0) z) (some_inj (ap tail_of (sym holding ∙ stage))) c.1 in
            ((λ e. moved_on me z (Event.Look (name me.0) ∷ []) (Null u) (t.0 e)), λ r e. handed_on me z (Event.Look (name me.0) ∷ []) slots u r (t.1 r e)),
      ))

  pub reads_after : (t i : ℕ) → i ≡ LINKS + t → me.0.stage ≡ Second t → PlainAllows slots id me i (λ x. x) (play.after_read (step slots i 0 0 none) me)
  reads_after t i is at_second = returning slots id i me (λ x. x) (play.after_read (step slots i 0 0 none) me) hand near named may
      (λ s k deep at.
      let c = reads_bare s k id (view_returned me.0) at named refl t at_second i is slots deep in (
        c.0,
        λ u stage.
            let z : SeatState E = (c.0.view, carried_after [] c.0.act) in
            let t = subst (λ q. ReadsTail s k id (view_returned me.0) at named refl [] slots q (get_or s.words i 0) z)
            (some_inj (ap tail_of (sym at_second ∙ stage))) c.1 in
            ((λ e. moved_on me z [] (Null u) (t.0 e)), λ r e. handed_on me z [] slots u r (t.1 r e)),
      ))
