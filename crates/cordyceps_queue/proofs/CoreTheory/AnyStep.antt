-- Each accepted step keeps what a machine meets.
use Rattle.std.proofs.Common.{◌≡◌, ℕ, zero, suc, ◌≢◌, Bool, true, false, eqb, List, [], ◌∷◌, ◌++◌, Option, Some, None, refl, sym, ap, ◌∙◌, subst, inl, eqb-true, eq-eqb, true≢false}
use Rattle.cordyceps_queue.specs.History.{Event}
use Rattle.cordyceps_queue.specs.Past.{held_reversed, HasLooked, WasBlockedReversed}
use Rattle.cordyceps_queue.specs.declared.cores.stage.Stage.{Stage}
use Rattle.cordyceps_queue.specs.declared.cores.stage.Stage.TheVariants.{Rest, Cleared, Swapped, Holding, StubNull, Second, Null, PutClear, PutSwap, PutLink, PutRead}
use Rattle.cordyceps_queue.specs.declared.cores.steps.QueueStep.{QueueStep}
use Rattle.cordyceps_queue.specs.declared.cores.steps.QueueStep.TheVariants as step
use Rattle.cordyceps_queue.specs.declared.cores.steps.QueueAnswer.TheVariants as answer
use Rattle.cordyceps_queue.specs.Cores.Abstract.{AbstractParty, AbstractMachine, Move, clears, swaps, takes, gives_out, reads, reads_stub, looks, reads_put, heads_stub, heads, act, act_of, set_stage}
use Rattle.cordyceps_queue.specs.Cores.Meets.{Owes, tail_of, Chain, Meets, AtStage, Real}
use Rattle.cordyceps_queue.specs.Cores.StepKeeps.{SaysReversed, StepKeeps}
use Rattle.cordyceps_queue.proofs.CoreTheory.Basics.{some_inj, none_some, suc_zero, put_same}
use Rattle.cordyceps_queue.proofs.CoreTheory.ProducerSteps.{clear_keeps, chain_after_clear, swap_keeps, chain_after_swap, link_keeps, busy_keeps}
use Rattle.cordyceps_queue.proofs.CoreTheory.HolderSteps.{was_now, keeping, stage_keeps, tell_keeps, open_blocks, none_held, stub_out}
use Rattle.cordyceps_queue.proofs.CoreTheory.DequeueSteps.{take_keeps, chain_after_take, give_keeps, chain_after_give, pass_keeps, chain_after_pass, out_keeps, chain_after_out}
use Rattle.cordyceps_queue.proofs.CoreTheory.StepLeaves.{fits_as}
use Rattle.cordyceps_queue.proofs.CoreTheory.StubSteps.{clear_stub_keeps, swap_stub_keeps, chain_after_stub, link_stub_keeps}

abbrev Kept : {P E : Type 0} → P → List (Event P E) → Move P E → Type 0
Kept q h v = (c : Chain) × Meets v.after c (v.events ++ h) × SaysReversed q v.answer h

ne_of : (a b : ℕ) → eqb a b ≡ false → a ≢ b
ne_of a b e s = true≢false (sym (eq-eqb a b s) ∙ e)

module _ {P E : Type 0} (m : AbstractMachine P E) (c : Chain) (k : ℕ) (p : AbstractParty P) (at : m.party k ≡ Some p) (v : Move P E) where
  -- from a tail that is no stub
  gives_out_keep : (before h : List (Event P E)) (M : Meets m c (before ++ h)) → held_reversed (before ++ h) ≡ held_reversed h → (t r : ℕ) → tail_of p.stage ≡ Some t → ((a b : ℕ) → Owes p.stage a b → ⊥) → t ≢ 0 → m.next t ≡ Some r → (e : Option E) → m.cell t ≡ e → gives_out m k p t r e before ≡ Some v → Kept p.name h v
  gives_out_keep before h M same t r has nothing ne linked None full e = absurd (none_some e)
  gives_out_keep before h M same t r has nothing ne linked (Some x) full e =
      let now = out_keeps m c (before ++ h) M k p at t r has nothing ne linked x full in
      let (_, rest, front) = now.legal.0 in
      subst (Kept p.name h) (some_inj e) (chain_after_out m c (before ++ h) M k p at t r has nothing ne linked x full, now, (rest, sym same ∙ front))

  reads_keep : (before h : List (Event P E)) (M : Meets m c (before ++ h)) → held_reversed (before ++ h) ≡ held_reversed h → (t : ℕ) → tail_of p.stage ≡ Some t → ((a b : ℕ) → Owes p.stage a b → ⊥) → t ≢ 0 → HasLooked p.name (before ++ h) → (n : Option ℕ) → m.next t ≡ n → reads m k p t n before ≡ Some v → Kept p.name h v
  reads_keep before h M same t has nothing ne looked None next e =
      subst (Kept p.name h) (some_inj e) (
        c,
        stage_keeps m c (before ++ h) M k p at t has (Null t) refl (λ a b o. absurd (nothing a b o)) (
          record { keeps = keeping m c (before ++ h) M k p at t has; is_real = ne; looked = looked },
          (λ far. was_now p.name (before ++ h) looked (open_blocks m c (before ++ h) M k p at t has nothing next far)),
        ),
        tt,
      )
  reads_keep before h M same t has nothing ne looked (Some r) next e = gives_out_keep before h M same t r has nothing ne next (m.cell t) refl e

  module _ (h : List (Event P E)) (M : Meets m c h) where
    clears_keep : p.stage ≡ Rest → (x : E) (s : List ℕ) → p.spare ≡ s → clears m k p s x ≡ Some v → Kept p.name h v
    clears_keep rest x [] spare e = absurd (none_some e)
    clears_keep rest x (r ∷ rooms) spare e = subst (Kept p.name h) (some_inj e) (chain_after_clear m c h M k p at rest r rooms spare x, clear_keeps m c h M k p at rest r rooms spare x, tt)

    swaps_keep : (r : ℕ) → p.stage ≡ Cleared r → (o : Option E) → m.cell r ≡ o → swaps m k p r o ≡ Some v → Kept p.name h v
    swaps_keep r ready None full e = absurd (none_some e)
    swaps_keep r ready (Some x) full e = subst (Kept p.name h) (some_inj e) (chain_after_swap m c h M k p at r x ready full, swap_keeps m c h M k p at r x ready full, tt)

    takes_keep : p.stage ≡ Rest → (n : ℕ) → m.right ≡ n → takes m k p n ≡ Some v → Kept p.name h v
    takes_keep rest zero right e = subst (Kept p.name h) (some_inj e) (c, busy_keeps m c h M k p at rest right, (busy_keeps m c h M k p at rest right).legal.0)
    takes_keep rest (suc t) right e = subst (Kept p.name h) (some_inj e) (chain_after_take m c h M k p at t rest right, take_keeps m c h M k p at t rest right, (take_keeps m c h M k p at t rest right).legal.0)

    looked_on : (t : ℕ) → p.stage ≡ Holding t → Meets m c (Event.Look p.name ∷ h)
    looked_on t holding = tell_keeps m c h M k p at t (ap tail_of holding) (Event.Look p.name) holding (keeping m c h M k p at t (ap tail_of holding)).held_by refl refl (λ q s. s) (λ q n w. w)

    reads_stub_keep : p.stage ≡ Holding 0 → (n : Option ℕ) → m.next 0 ≡ n → reads_stub m k p n (Event.Look p.name ∷ []) ≡ Some v → Kept p.name h v
    reads_stub_keep holding None next e =
        let M1 = looked_on 0 holding in
        let nothing : (a b : ℕ) → Owes p.stage a b → ⊥ = λ a b o. subst (λ l. Owes l a b) holding o in
        subst (Kept p.name h) (some_inj e) (
          c,
          stage_keeps m c (Event.Look p.name ∷ h) M1 k p at 0 (ap tail_of holding) StubNull refl
              (λ a b o. nothing a b o) record {
                keeps = keeping m c (Event.Look p.name ∷ h) M1 k p at 0 (ap tail_of holding);
                looked = inl refl;
                blocked = λ far.
                    let has = ap tail_of holding in
                    inl (inl refl, open_blocks m c (Event.Look p.name ∷ h) M1 k p at 0 has nothing next far);
              },
          tt,
        )
    reads_stub_keep holding (Some r) next e =
        let M1 = looked_on 0 holding in
        subst (Kept p.name h) (some_inj e)
        (chain_after_pass m c (Event.Look p.name ∷ h) M1 k p at r holding next (inl refl), pass_keeps m c (Event.Look p.name ∷ h) M1 k p at r holding next (inl refl), tt)

    looks_keep : (t : ℕ) → p.stage ≡ Holding t → looks m k p t ≡ Some v → Kept p.name h v
    looks_keep zero holding e = reads_stub_keep holding (m.next 0) refl e
    looks_keep (suc t) holding e =
        reads_keep (Event.Look p.name ∷ []) h (looked_on (suc t) holding) refl (suc t) (ap tail_of holding) (λ a b o. subst (λ l. Owes l a b) holding o) suc_zero (inl refl) (m.next (suc t)) refl e

    -- back to Holding without an element
    fails_keep : (t : ℕ) → tail_of p.stage ≡ Some t → ((a b : ℕ) → Owes p.stage a b → ⊥) → WasBlockedReversed p.name h → Kept p.name h (record { after = set_stage m k p (Holding t); answer = answer.Inconsistent; events = [] })
    fails_keep t has nothing blocked = (c, stage_keeps m c h M k p at t has (Holding t) refl (λ a b o. absurd (nothing a b o)) (keeping m c h M k p at t has), blocked)

    heads_stub_keep : p.stage ≡ StubNull → (b : Bool) → eqb m.head 0 ≡ b → heads_stub m k p b ≡ Some v → Kept p.name h v
    heads_stub_keep stage true same e =
        let has : tail_of p.stage ≡ Some 0 = ap tail_of stage in
        let back : Meets (set_stage m k p (Holding 0)) c h = stage_keeps m c h M k p at 0 has (Holding 0) refl (λ a b o. absurd (subst (λ l. Owes l a b) stage o)) (keeping m c h M k p at 0 has) in
        subst (Kept p.name h) (some_inj e) (
          c,
          tell_keeps (set_stage m k p (Holding 0)) c h back k (record p { stage = Holding 0 }) (put_same m.party k (Some (record p { stage = Holding 0 }))) 0 refl (Event.Empty p.name) refl
              ((keeping m c h M k p at 0 has).held_by, none_held m c h M k p at 0 has refl (eqb-true m.head 0 same)) refl refl (λ q s. s) (λ q n w. w),
          none_held m c h M k p at 0 has refl (eqb-true m.head 0 same),
        )
    heads_stub_keep stage false apart e =
        subst (Kept p.name h) (some_inj e) (fails_keep 0 (ap tail_of stage) (λ a b o. subst (λ l. Owes l a b) stage o)
        ((fits_as m c h M k p at stage).blocked (ne_of m.head 0 apart)))

    heads_keep : (t : ℕ) → p.stage ≡ Null t → (b : Bool) → eqb m.head t ≡ b → heads m k p t b ≡ Some v → Kept p.name h v
    heads_keep t stage true same e =
        let f : AtStage m.head m.next m.cell c.owner c.keeper c.rooms h k p.name (Null t) = fits_as m c h M k p at stage in
        subst (Kept p.name h) (some_inj e) (
          c,
          stage_keeps m c h M k p at t (ap tail_of stage) (PutClear t) refl (λ a b o. absurd (subst (λ l. Owes l a b) stage o))
              (f.0, stub_out m c h M k p at t (ap tail_of stage) f.0.is_real (eqb-true m.head t same)),
          tt,
        )
    heads_keep t stage false apart e =
        subst (Kept p.name h) (some_inj e) (fails_keep t (ap tail_of stage) (λ a b o. subst (λ l. Owes l a b) stage o) ((fits_as m c h M k p at stage).1 (ne_of m.head t apart)))

    reads_put_keep : (t : ℕ) → p.stage ≡ PutRead t → (n : Option ℕ) → m.next t ≡ n → reads_put m k p t n ≡ Some v → Kept p.name h v
    reads_put_keep t stage None next e =
        let f : AtStage m.head m.next m.cell c.owner c.keeper c.rooms h k p.name (PutRead t) = fits_as m c h M k p at stage in
        let nothing : (a b : ℕ) → Owes p.stage a b → ⊥ = λ a b o. subst (λ l. Owes l a b) stage o in
        subst (Kept p.name h) (some_inj e) (fails_keep t (ap tail_of stage) nothing (was_now p.name h f.0.looked (open_blocks m c h M k p at t (ap tail_of stage) nothing next f.1)))
    reads_put_keep t stage (Some r) next e =
        let f : AtStage m.head m.next m.cell c.owner c.keeper c.rooms h k p.name (PutRead t) = fits_as m c h M k p at stage in
        gives_out_keep [] h M refl t r (ap tail_of stage) (λ a b o. subst (λ l. Owes l a b) stage o) f.0.is_real next (m.cell t) refl e

    act_keeps : (stage : Stage) → p.stage ≡ stage → (s : QueueStep E) → act m k p stage s ≡ Some v → Kept p.name h v
    act_keeps Rest l (step.Clear (Some x)) e = clears_keep l x p.spare refl e
    act_keeps Rest l step.Take e = takes_keep l m.right refl e
    act_keeps (Cleared r) l step.Swap e = swaps_keep r l (m.cell r) refl e
    act_keeps (Swapped r old) l step.Link e = subst (Kept p.name h) (some_inj e) (c, link_keeps m c h M k p at r old l, tt)
    act_keeps (Holding t) l step.ReadNext e = looks_keep t l e
    act_keeps (Holding t) l step.Give e = subst (Kept p.name h) (some_inj e) (chain_after_give m c h M k p at t l, give_keeps m c h M k p at t l, tt)
    act_keeps StubNull l step.ReadHead e = heads_stub_keep l (eqb m.head 0) refl e
    act_keeps (Second t) l step.ReadNext e =
        let f : Real c.keeper c.rooms h k p.name t = fits_as m c h M k p at l in
        reads_keep [] h M refl t (ap tail_of l) (λ a b o. subst (λ l. Owes l a b) l o) f.is_real f.looked (m.next t) refl e
    act_keeps (Null t) l step.ReadHead e = heads_keep t l (eqb m.head t) refl e
    act_keeps (PutClear t) l (step.Clear None) e = subst (Kept p.name h) (some_inj e) (c, clear_stub_keeps m c h M k p at t l, tt)
    act_keeps (PutSwap t) l step.Swap e = subst (Kept p.name h) (some_inj e) (chain_after_stub m c h M k p at t l, swap_stub_keeps m c h M k p at t l, tt)
    act_keeps (PutLink t old) l step.Link e = subst (Kept p.name h) (some_inj e) (c, link_stub_keeps m c h M k p at t old l, tt)
    act_keeps (PutRead t) l step.ReadNext e = reads_put_keep t l (m.next t) refl e
    act_keeps _ l _ e = absurd (none_some e)

pub step_keeps : (P E : Type 0) → StepKeeps P E
step_keeps P E m c h M k p s v at e = act_keeps m c k p at v h M p.stage refl s (ap (λ o. act_of m k o s) (sym at) ∙ e)
