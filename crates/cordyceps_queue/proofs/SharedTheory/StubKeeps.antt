-- The steps of a try to dequeue at the stub, and of putting it in, keep the rule of a queue's table.
use Rattle.std.proofs.Common.{◌≡◌, ◌≢◌, ℕ, zero, suc, ◌+◌, ◌<◌, List, [], ◌∷◌, ◌++◌, length, set, get_or, Some, None, refl, sym, ap, ◌∙◌, subst, inl, inr, arith, length-set, append-nil}
use mathlib.Core.Option.{some, none}
use native.Mathlib.Decide.{ℕ_discrete}
use lib.ListN.{get_elem?}
use Rattle.atomic_table.specs.Table.{carried_after, stepped, step}
use Rattle.cordyceps_shared.specs.Slots.{Near}
use Rattle.cordyceps_shared.specs.Words as word
use Rattle.cordyceps_shared.specs.declared.layout.TheConstants.{HEAD, LINKS}
use Rattle.cordyceps_shared.proofs.Words.{head_set, next_beside_next}
use Rattle.cordyceps_shared.specs.Shares.{Name}
use Rattle.cordyceps_queue.specs.declared.cores.stage.Stage.{Stage}
use Rattle.cordyceps_queue.specs.declared.cores.stage.Stage.TheVariants.{Cleared, Holding, StubNull, Second, Null, PutClear, PutSwap, PutLink, PutRead}
use Rattle.cordyceps_queue.specs.History.{Event}
use Rattle.cordyceps_shared.specs.Places.{ItemAt}
use Rattle.cordyceps_queue.specs.Cores.Meets.{Pooled, Owes, tail_of, Chain, Meets, real}
use Rattle.cordyceps_queue.specs.Past.{WasBlockedReversed}
use Rattle.cordyceps_queue.specs.Shared.Plays.{SeatState, Sees, carry, MovesTo, HandsOut, Blocked}
use Rattle.cordyceps_queue.specs.Shared.Plays as play
use Rattle.cordyceps_queue.specs.Shared.Rule.{TableState, link_of, machine_of, FullAtHome, AreLinked, party, PlainHolds}
use Rattle.cordyceps_shared.specs.FreeChains.{MayJoin}
use Rattle.cordyceps_queue.specs.Shared.View.{View, name, free_chain, back_chain, view_returned, begun_count}
use Rattle.cordyceps_queue.specs.Cores.Abstract.{AbstractMachine, set_stage, clear_stub, swap_head, link_next}
use Rattle.cordyceps_queue.proofs.CoreTheory.Basics.{some_inj, none_some, zero_suc, suc_zero, suc_inj, put_same, at_split, real_more}
use Rattle.cordyceps_queue.proofs.CoreTheory.DequeueSteps.{pass_keeps, chain_after_pass}
use Rattle.cordyceps_queue.proofs.CoreTheory.HolderSteps.{was_now, keeping, stage_keeps, tell_keeps, open_blocks, none_held, stub_out}
use Rattle.cordyceps_queue.proofs.CoreTheory.ChainShrinks.{real_stub, second}
use Rattle.cordyceps_queue.proofs.CoreTheory.StubSteps.{clear_stub_keeps, swap_stub_keeps, chain_after_stub, link_stub_keeps}
use Rattle.cordyceps_queue.proofs.SharedTheory.WordsAsMachine.{party_as, quiet, link_spelled, head_spelled, next_low, none_begun, keeps_rule, empties_same, readies_same, chain_near, head_near, linkeds, linkeds_low, own_links, Among, Becomes, PlainAllows}
use Rattle.cordyceps_queue.proofs.CoreTheory.ProducerSteps.{spare_shared, shared_pooled}
use Rattle.cordyceps_queue.proofs.SharedTheory.EnqueueKeeps.{views_put, wide_words}
use Rattle.cordyceps_queue.proofs.SharedTheory.ReturnKeeps.{returning, moved_on, handed_on}
use Rattle.cordyceps_queue.proofs.SharedTheory.DequeueKeeps.{loads_to, n, out_events, there, sees, reads, stood, blocked, less_rooms, leaves_rooms, hands, Comes}
use Rattle.cordyceps_queue.proofs.SharedTheory.HolderAllowed.{looked_on}

module _ {E : Type 0} (s : TableState E) (k : PlainHolds s) (id : ℕ) (v : View E) (at : get_elem? s.views id ≡ some v) (named : v.known.share ≢ []) (bare : v.back ≡ []) where
  abbrev core : AbstractMachine Name E
  core = n s k id v at named bare

  abbrev past : List (Event Name E)
  past = out_events s k id v at named bare

  is_there : core.party id ≡ Some (party v)
  is_there = there s k id v at named bare

  abbrev view : List (Event Name E) → Stage → View E
  view es stage = sees s k id v at named bare es v.free v.end v.back v.to stage

  -- back to Holding, with nothing handed out
  fails : (t i : ℕ) → tail_of v.stage ≡ Some t → ((a b : ℕ) → Owes v.stage a b → ⊥) → WasBlockedReversed (name v) past
      → Comes s k id v at named bare i (get_or s.words i 0) (λ _ z. MovesTo [] (Holding t) (v, []) z × Blocked z.0)
  fails t i has nothing was =
      let met = stage_keeps core k.chain past k.meets id (party v) is_there t has (Holding t) refl (λ a b o. absurd (nothing a b o)) (keeping core k.chain past k.meets id (party v) is_there t has) in
      let c = loads_to s k id v at named bare [] (tt, refl) (Holding t) met (λ q is. cc) (none_begun v.stage (λ q e. none_some (sym (ap tail_of e) ∙ has))) i in
      (c.0, (c.1, blocked s k id v at named bare [] (Holding t) was))

  -- ---- the first read, of the stub's link
  module _ (holding : v.stage ≡ Holding 0) where
    abbrev look : Event Name E
    look = Event.Look (name v)

    looked : Meets core k.chain (look ∷ past)
    looked = looked_on s k id v at named bare 0 holding

    tail_at : ItemAt k.chain.rooms 0 0
    tail_at = (keeping core k.chain past k.meets id (party v) is_there 0 (ap tail_of holding)).tail

    looks_stub_bare : (slots : ℕ) → length s.homes ≡ slots → (x : ℕ) → word.next s.words 0 ≡ x → Comes s k id v at named bare LINKS (word.next s.words 0) (play.after_look_stub (step slots LINKS 0 0 none) (v, []))
    looks_stub_bare slots deep zero e =
        let nothing : (a b : ℕ) → Owes v.stage a b → ⊥ = λ a b o. subst (λ l. Owes l a b) holding o in
        let open_link : core.next 0 ≡ None = ap link_of e in
        let met = stage_keeps core k.chain (look ∷ past) looked id (party v) is_there 0
        (ap tail_of holding) StubNull refl (λ a b o. nothing a b o) record {
          keeps = keeping core k.chain (look ∷ past) looked id (party v) is_there 0 (ap tail_of holding);
          looked = inl refl;
          blocked = λ far.
              let has = ap tail_of holding in
              let at_open = open_blocks core k.chain (look ∷ past) looked id
              (party v) is_there 0 has nothing open_link far
              in
              inl (inl refl, at_open);
        } in
        let c = loads_to s k id v at named bare (look ∷ []) ((refl, tt), refl) StubNull met (λ q is. cc) (ap begun_count holding) LINKS in
        (c.0, λ _. ((λ _. c.1), λ r' f. absurd (zero_suc (sym e ∙ f))))
    looks_stub_bare slots deep (suc r) e =
        let linked : core.next 0 ≡ Some r = ap link_of e in
        let met = pass_keeps core k.chain (look ∷ past) looked id (party v) is_there r holding linked (inl refl) in
        let o = reads s k id v at named bare (look ∷ []) ((refl, tt), refl) (Second r) (chain_after_pass core k.chain (look ∷ past) looked id (party v) is_there r holding linked (inl refl)) met (less_rooms s k id v at named bare) (λ q is. cc) (ap begun_count holding) (ap (λ (l : List ℕ). length l) (sym (real_stub k.chain.rooms tail_at))) (λ x pooled. pooled) LINKS in
        let at_second = second core k.chain past k.meets 0 r tail_at linked in
        let near = chain_near s k 1 r at_second in
        let ne : r ≢ 0 = λ z. zero_suc (k.meets.once 0 1 0 tail_at (subst (ItemAt k.chain.rooms 1) z at_second)) in
        let w = view (look ∷ []) (Second r) in (
          quiet w o.0,
          λ _. (
            (λ f. absurd (suc_zero (sym e ∙ f))),
            λ r' f.
                let stood = stood s k id v at named bare (look ∷ []) (Second r) o.1 in
                subst (λ q. play.PassesStub slots q (v, []) (w, [])) (suc_inj (sym e ∙ f))
                record { moves = stood; near = omega arith; real = ne },
          ),
        )

  -- ---- the read of head after a null link
  module _ (at_null : v.stage ≡ StubNull) where
    heads_stub_bare : (slots : ℕ) → Dec (word.head s.words ≡ 0) → Comes s k id v at named bare HEAD (word.head s.words) (play.after_head_stub (step slots HEAD 0 0 none) (v, []))
    heads_stub_bare slots (yes e) =
        let x : Event Name E = Event.Empty (name v) in
        let has : tail_of v.stage ≡ Some 0 = ap tail_of at_null in
        let mine = keeping core k.chain past k.meets id (party v) is_there 0 has in
        let held = record (party v) { stage = Holding 0 } in
        let back : Meets (set_stage core id (party v) (Holding 0)) k.chain past = stage_keeps core k.chain past k.meets id (party v) is_there 0 has (Holding 0) refl (λ a b o. absurd (subst (λ l. Owes l a b) at_null o)) mine in
        let met = tell_keeps (set_stage core id (party v) (Holding 0)) k.chain past back id held (put_same core.party id (Some held)) 0 refl x refl (mine.held_by, none_held core k.chain past k.meets id (party v) is_there 0 has refl e) refl refl (λ q s. s) (λ q n w. w) in
        let c = loads_to s k id v at named bare (x ∷ []) ((refl, tt), refl) (Holding 0) met (λ q is. cc) (ap begun_count at_null) HEAD in
        (c.0, λ _. ((λ _. c.1), λ ne. absurd (ne e)))
    heads_stub_bare slots (no ne) =
        let c = fails 0 HEAD (ap tail_of at_null) (λ a b o. subst (λ l. Owes l a b) at_null o)
        ((party_as s k id v at named at_null).blocked ne) in
        (c.0, λ _. ((λ e. absurd (ne e)), λ _. c.1))

  module _ (t : ℕ) (at_null : v.stage ≡ Null t) where
    -- what the read of head tells
    HeadTells : ℕ → SeatState E → Type 0
    HeadTells found z = (found ≡ t → MovesTo [] (PutClear t) (v, []) z)
        × (found ≢ t → MovesTo [] (Holding t) (v, []) z × Blocked z.0)

    heads_bare : Dec (word.head s.words ≡ t) → Comes s k id v at named bare HEAD (word.head s.words) HeadTells
    unfolding HeadTells
    heads_bare (yes e) =
        let f = party_as s k id v at named at_null in
        let met = stage_keeps core k.chain past k.meets id (party v) is_there t (ap tail_of at_null) (PutClear t) refl (λ a b o. absurd (subst (λ l. Owes l a b) at_null o))
        (f.0, stub_out core k.chain past k.meets id (party v) is_there t (ap tail_of at_null) f.0.is_real e) in
        let c = loads_to s k id v at named bare [] (tt, refl) (PutClear t) met (λ q is. cc) (ap begun_count at_null) HEAD in
        (c.0, ((λ _. c.1), λ ne. absurd (ne e)))
    heads_bare (no ne) =
        let c = fails t HEAD (ap tail_of at_null) (λ a b o. subst (λ l. Owes l a b) at_null o) ((party_as s k id v at named at_null).1 ne) in
        (c.0, ((λ e. absurd (ne e)), λ _. c.1))

  -- ---- the stub is put in
  -- a step that changes one word and no slot
  abbrev stores : (stage : Stage) (chain : Chain) (next : AbstractMachine Name E) (i x : ℕ) → AreLinked (set s.words i x) (set s.views id (view [] stage)) → next ≡ machine_of k.cell (set s.words i x) (set s.views id (view [] stage)) → Meets next chain past → FullAtHome s.homes k.cell chain.rooms → ((q : ℕ) → stage ≡ Cleared q → ⊥) → Among (set s.words i x) k.chain.rooms chain.rooms
      → begun_count v.stage ≡ 0 → length (real chain.rooms) ≡ length (real k.chain.rooms) → ((r : ℕ) → k.chain.owner r ≡ Pooled → chain.owner r ≡ Pooled) → ((r : ℕ) → k.chain.owner r ≡ Pooled → word.next (set s.words i x) r ≡ word.next s.words r)
      → Comes s k id v at named bare i x (λ _. MovesTo [] stage (v, []))
  stores stage chain next i x linked same met full away among unbegun even owners links =
      let r = keeps_rule s k id [] v (view [] stage) (set s.words i x) s.homes k.cell chain next at named (tt, refl) refl same met (length-set s.words i x) refl full (empties_same s k id (view [] stage) (k.empty id v at named)) (readies_same s k id (view [] stage) away) linked refl among (λ j y jy. inl (j, jy)) (leaves_rooms s k id v at named bare [] stage chain (set s.words i x) away unbegun even owners links) in
      (quiet (view [] stage) r.0, stood s k id v at named bare [] stage r.1)

  clears_stub_bare : (t : ℕ) → v.stage ≡ PutClear t → Comes s k id v at named bare LINKS 0
      (λ _. MovesTo [] (PutSwap t) (v, []))
  clears_stub_bare t l =
      stores (PutSwap t) k.chain (clear_stub core id (party v) t) LINKS 0 (linkeds s k id 0 0 (view [] (PutSwap t)) (own_links s k id 0 0 v at named (λ mine. spare_shared mine k.meets.stub)) (λ j ne mine. spare_shared mine k.meets.stub)) (link_spelled s.words 0 0 k.cell (set s.views id (view [] (PutSwap t))) (let w = wide_words s k id v at named in let st = k.stub in omega arith) (views_put s k id v at named (view [] (PutSwap t)) named)) (clear_stub_keeps core k.chain past k.meets id (party v) is_there t l) k.full (λ q is. cc) (λ j x jx. inr (j, jx))
      (ap begun_count l) refl (λ x pooled. pooled)
      (λ x pooled. next_beside_next s.words 0 x 0
      (λ same. shared_pooled k.meets.stub (ap k.chain.owner (sym same) ∙ pooled)))

  swaps_stub_bare : (t : ℕ) → v.stage ≡ PutSwap t → Comes s k id v at named bare HEAD 0
      (λ found. MovesTo [] (PutLink t found) (v, []))
  swaps_stub_bare t l =
      let old = word.head s.words in
      stores (PutLink t old) (chain_after_stub core k.chain past k.meets id (party v) is_there t l) (swap_head core id (party v) 0 (PutLink t old)) HEAD 0 (linkeds_low s k id HEAD 0 (view [] (PutLink t old)) (omega arith) (k.linked id v at named)) (head_spelled s.words 0 k.cell (set s.views id (view [] (PutLink t old))) (let w = wide_words s k id v at named in omega arith) (views_put s k id v at named (view [] (PutLink t old)) named))
      (swap_stub_keeps core k.chain past k.meets id (party v) is_there t l) full (λ q is. cc) among
      (ap begun_count l) (ap (λ (z : List ℕ). length z)
      (real_more k.chain.rooms (0 ∷ []) ∙ append-nil (real k.chain.rooms))) (λ x pooled. pooled)
      (λ x pooled. next_low s.words HEAD 0 (omega arith) x)
    where
      among : Among (set s.words HEAD 0) k.chain.rooms (k.chain.rooms ++ 0 ∷ [])
      among i x ix = elim (at_split k.chain.rooms 0 i x ix) [ inl a ↦ inr (i, a) | inr a ↦ inl (a.1 ∙ sym (head_set s.words 0 (let w = wide_words s k id v at named in omega arith))) ]

      full : FullAtHome s.homes k.cell (k.chain.rooms ++ 0 ∷ [])
      full i x ix ne = elim (at_split k.chain.rooms 0 i x ix) [ inl a ↦ k.full i x a ne | inr a ↦ absurd (ne a.1) ]

  links_stub_bare : (t old : ℕ) → v.stage ≡ PutLink t old → old < length s.homes → Comes s k id v at named bare
      (LINKS + old) 1 (λ _. MovesTo [] (PutRead t) (v, []))
  links_stub_bare t old l inside =
      let f = party_as s k id v at named l in
      let shared = k.meets.shared f.at old f.old_at in
      stores (PutRead t) k.chain (link_next core id (party v) old 0 (PutRead t)) (LINKS + old) 1 (linkeds s k id old 1 (view [] (PutRead t)) (own_links s k id old 1 v at named (λ mine. spare_shared mine shared)) (λ j ne mine. spare_shared mine shared)) (link_spelled s.words old 1 k.cell (set s.views id (view [] (PutRead t))) (let w = wide_words s k id v at named in let st = inside in omega arith) (views_put s k id v at named (view [] (PutRead t)) named)) (link_stub_keeps core k.chain past k.meets id (party v) is_there t old l) k.full (λ q is. cc) (λ j x jx. inr (j, jx))
      (ap begun_count l) refl (λ x pooled. pooled)
      (λ x pooled. next_beside_next s.words old x 1
      (λ same. shared_pooled shared (ap k.chain.owner (sym same) ∙ pooled)))

  -- the read after it
  module _ (t : ℕ) (at_put : v.stage ≡ PutRead t) where
    RereadTells : ℕ → ℕ → SeatState E → Type 0
    RereadTells slots found z = (found ≡ 0 → MovesTo [] (Holding t) (v, []) z × Blocked z.0)
        × ((r : ℕ) → found ≡ suc r → HandsOut [] slots t r (v, []) z)

    rereads_bare : (slots : ℕ) → length s.homes ≡ slots → (i : ℕ) → i ≡ LINKS + t → (x : ℕ) → get_or s.words i 0 ≡ x → Comes s k id v at named bare i (get_or s.words i 0) (RereadTells slots)
    unfolding RereadTells
    rereads_bare slots deep i is zero e =
        let f = party_as s k id v at named at_put in
        let nothing : (a b : ℕ) → Owes v.stage a b → ⊥ = λ a b o. subst (λ l. Owes l a b) at_put o in
        let sum : LINKS + t ≡ i = omega arith in
        let open_link : core.next t ≡ None = ap link_of (ap (λ q. get_or s.words q 0) sum ∙ e) in
        let c = fails t i (ap tail_of at_put) nothing (was_now (name v) past f.0.looked (open_blocks core k.chain past k.meets id (party v) is_there t (ap tail_of at_put) nothing open_link f.1)) in
        (c.0, ((λ _. c.1), λ r g. absurd (zero_suc (sym e ∙ g))))
    rereads_bare slots deep i is (suc r) e =
        let f = party_as s k id v at named at_put in
        let sum : LINKS + t ≡ i = omega arith in
        let linked : core.next t ≡ Some r = ap link_of (ap (λ q. get_or s.words q 0) sum ∙ e) in
        let c = hands s k id v at named bare [] (tt, refl) k.meets t r i (ap tail_of at_put)
        (λ a b o. subst (λ l. Owes l a b) at_put o) f.0.is_real linked slots deep in (
          c.0,
          (
            (λ g. absurd (suc_zero (sym e ∙ g))),
            λ r' g. subst
                (λ q. HandsOut [] slots t q (v, []) (c.0.view, carried_after [] c.0.act)) (suc_inj (sym e ∙ g)) c.1,
          ),
        )

module _ {E : Type 0} (slots id : ℕ) (me : SeatState E) (hand : me.1 ≡ carry me.0.back) (near : Near slots me.0.back) (named : me.0.known.share ≢ []) (may : MayJoin (free_chain me.0) (back_chain me.0)) where
  pub looks_stub : me.0.stage ≡ Holding 0 → PlainAllows slots id me LINKS (λ x. x) (play.after_look_stub (step slots LINKS 0 0 none) me)
  looks_stub holding = returning slots id LINKS me (λ x. x) (play.after_look_stub (step slots LINKS 0 0 none) me) hand near named may
      (λ s k deep at.
      let c = looks_stub_bare s k id (view_returned me.0) at named refl holding slots deep (word.next s.words 0) refl in
      let z : SeatState E = (c.0.view, carried_after [] c.0.act) in
      let es : List (Event Name E) = Event.Look (name me.0) ∷ [] in (
        c.0,
        λ stage. let t = c.1 stage in (
          (λ e. moved_on me z es StubNull (t.0 e)),
          λ r e.
              let h = t.1 r e in
              record { moves = moved_on me z es (Second r) h.moves; near = h.near; real = h.real },
        ),
      ))

  pub heads_stub : me.0.stage ≡ StubNull → PlainAllows slots id me HEAD (λ x. x) (play.after_head_stub (step slots HEAD 0 0 none) me)
  heads_stub at_null = returning slots id HEAD me (λ x. x) (play.after_head_stub (step slots HEAD 0 0 none) me) hand near named may
      (λ s k deep at.
      let c = heads_stub_bare s k id (view_returned me.0) at named refl at_null slots (ℕ_discrete (word.head s.words) 0) in
      let z : SeatState E = (c.0.view, carried_after [] c.0.act) in (
        c.0,
        λ stage. let t = c.1 stage in (
          (λ e. moved_on me z (Event.Empty (name me.0) ∷ []) (Holding 0) (t.0 e)),
          λ e.
              let h = t.1 e in (moved_on me z [] (Holding 0) h.0, h.1),
        ),
      ))

  HeadFacts : ℕ → ℕ → SeatState E → Type 0
  HeadFacts t found z = (found ≡ t → MovesTo [] (PutClear t) me z)
      × (found ≢ t → MovesTo [] (Holding t) me z × Blocked z.0)

  RereadFacts : ℕ → ℕ → SeatState E → Type 0
  RereadFacts t found z = (found ≡ 0 → MovesTo [] (Holding t) me z × Blocked z.0)
      × ((r : ℕ) → found ≡ suc r → HandsOut [] slots t r me z)

  pub heads : (t : ℕ) → me.0.stage ≡ Null t → PlainAllows slots id me HEAD (λ x. x) (play.after_head (step slots HEAD 0 0 none) me)
  unfolding HeadTells HeadFacts
  heads t at_null = returning slots id HEAD me (λ x. x) (play.after_head (step slots HEAD 0 0 none) me) hand near named may
      (λ s k deep at.
      let c = heads_bare s k id (view_returned me.0) at named refl t at_null (ℕ_discrete (word.head s.words) t) in (
        c.0,
        λ u stage.
            let z : SeatState E = (c.0.view, carried_after [] c.0.act) in
            subst (λ q. HeadFacts q (word.head s.words) z) (some_inj (ap tail_of (sym at_null ∙ stage))) (
              (λ e. moved_on me z [] (PutClear t) (c.1.0 e)),
              λ e. let h = c.1.1 e in
                  (moved_on me z [] (Holding t) h.0, h.1),
            ),
      ))

  pub rereads : (t i : ℕ) → i ≡ LINKS + t → me.0.stage ≡ PutRead t → PlainAllows slots id me i (λ x. x) (play.after_reread (step slots i 0 0 none) me)
  unfolding RereadTells RereadFacts
  rereads t i is at_put = returning slots id i me (λ x. x) (play.after_reread (step slots i 0 0 none) me) hand near named may
      (λ s k deep at.
      let c = rereads_bare s k id (view_returned me.0) at named refl t at_put slots deep i is (get_or s.words i 0) refl in (
        c.0,
        λ u stage.
            let z : SeatState E = (c.0.view, carried_after [] c.0.act) in
            subst (λ q. RereadFacts q (get_or s.words i 0) z) (some_inj (ap tail_of (sym at_put ∙ stage))) (
              (λ e. let h = c.1.0 e in (moved_on me z [] (Holding t) h.0, h.1)),
              λ r e. handed_on me z [] slots t r
                  (c.1.1 r e),
            ),
      ))

  pub clears_stub : (t : ℕ) → me.0.stage ≡ PutClear t → PlainAllows slots id me LINKS (λ _. 0) (λ _. play.after_begin_stub (step slots LINKS 0 0 none) me 0)
  clears_stub t l = returning slots id LINKS me (λ _. 0) (λ _. play.after_begin_stub (step slots LINKS 0 0 none) me 0) hand near named may
      (λ s k deep at.
      let c = clears_stub_bare s k id (view_returned me.0) at named refl t l in (
        c.0,
        λ u stage. subst (λ q. MovesTo [] (PutSwap q) me (c.0.view, carried_after [] c.0.act))
            (some_inj (ap tail_of (sym l ∙ stage))) (moved_on me (c.0.view, carried_after [] c.0.act) [] (PutSwap t) c.1),
      ))

  pub swaps_stub : (t : ℕ) → me.0.stage ≡ PutSwap t → PlainAllows slots id me HEAD (λ _. 0) (play.after_swap_stub (step slots HEAD 0 0 none) me)
  swaps_stub t l = returning slots id HEAD me (λ _. 0) (play.after_swap_stub (step slots HEAD 0 0 none) me) hand near named may
      (λ s k deep at.
      let c = swaps_stub_bare s k id (view_returned me.0) at named refl t l in
      let h = head_near s k in (
        c.0,
        λ u stage. (
          subst (λ q. MovesTo [] (PutLink q (word.head s.words)) me
              (c.0.view, carried_after [] c.0.act)) (some_inj (ap tail_of (sym l ∙ stage)))
              (moved_on me (c.0.view, carried_after [] c.0.act) []
              (PutLink t (word.head s.words)) c.1),
          omega arith,
        ),
      ))

  pub links_stub : (t old i : ℕ) → i ≡ LINKS + old → old < slots → me.0.stage ≡ PutLink t old → PlainAllows slots id me i (λ _. 1) (λ _. play.after_link_stub (step slots i 1 0 none) me 1)
  links_stub t old i is inside l = returning slots id i me (λ _. 1) (λ _. play.after_link_stub (step slots i 1 0 none) me 1) hand near named may
      (λ s k deep at.
      let c = links_stub_bare s k id (view_returned me.0) at named refl t old l (omega arith) in
      let sum : LINKS + old ≡ i = omega arith in (
        record {
          view = c.0.view;
          act = c.0.act;
          valid = c.0.valid;
          becomes =
              let step = c.0 in
              let kept = λ (q : ℕ). Becomes s k (view_returned me.0) step.view
              (stepped s q 1 id [] step.view step.act) in
              subst kept sum step.becomes;
        },
        λ u o stage. subst (λ q. MovesTo [] (PutRead q) me (c.0.view, carried_after [] c.0.act)) (some_inj (ap tail_of (sym l ∙ stage)))
            (moved_on me (c.0.view, carried_after [] c.0.act) [] (PutRead t) c.1),
      ))
