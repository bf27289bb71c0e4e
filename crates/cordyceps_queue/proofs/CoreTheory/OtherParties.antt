-- One party goes to another stage: what stays so of the others.
use Rattle.std.proofs.Common.{◌≡◌, ◌≢◌, ℕ, suc, List, Option, Some, None, refl, sym, ap, ◌∙◌, subst, inl, inr}
use native.Mathlib.Decide.{ℕ_discrete}
use Rattle.cordyceps_queue.specs.History.{Event}
use Rattle.cordyceps_shared.specs.Places.{ItemAt}
use Rattle.cordyceps_queue.specs.Past.{holder_reversed, IsSettled, IsPendingAt, HasLooked, WasBlockedReversed}
use Rattle.cordyceps_queue.specs.declared.cores.stage.Stage.{Stage}
use Rattle.cordyceps_queue.specs.declared.cores.stage.Stage.TheVariants.{Rest, Cleared, Swapped, Holding, StubNull, Second, Null, PutClear, PutSwap, PutLink, PutRead}
use Rattle.cordyceps_queue.specs.Cores.Abstract.{update, AbstractParty, AbstractMachine}
use Rattle.cordyceps_queue.specs.Cores.Meets.{Owes, tail_of, Owner, Ready, IsOut, Owed, Joined, IsStranger, Keeps, Real}
use Rattle.cordyceps_queue.specs.Cores.Meets.{HasReady, HasOpen, AtStage, IsTaken, RightIs, Chain}
use Rattle.cordyceps_queue.proofs.CoreTheory.Basics.{open_with, ready_with, some_inj, some_none, none_some, put_same, put_other, put_all}

module _ {P : Type 0} (party : ℕ → Option (AbstractParty P)) (k : ℕ) (p q : AbstractParty P) (at : party k ≡ Some p) where
  owed_put : (a b : ℕ) → (Owes p.stage a b → Owes q.stage a b) → Owed party a b → Owed (update party k (Some q)) a b
  owed_put a b on o = elim (ℕ_discrete o.by k) [
    | yes same ↦
        let e : o.who ≡ p = some_inj (sym o.there ∙ ap party same ∙ at) in
        let owes = on (subst (λ r. Owes r.stage a b) e o.owes) in
        record { by = k; who = q; there = put_same party k (Some q); owes = owes }
    | no ne ↦ record { by = o.by; who = o.who; there = put_other party k (Some q) o.by ne ∙ o.there; owes = o.owes }
  ]

  pub joined_put : (next next' : ℕ → Option ℕ) (a b : ℕ) → next' a ≡ next a → (Owes p.stage a b → Owes q.stage a b) → Joined next party a b → Joined next' (update party k (Some q)) a b
  joined_put next next' a b same on (inl l) = inl (same ∙ l)
  joined_put next next' a b same on (inr o) = inr (same ∙ o.0, owed_put a b on o.1)

  pub names_put : q.name ≡ p.name → ((i j : ℕ) (x y : AbstractParty P) → party i ≡ Some x → party j ≡ Some y → x.name ≡ y.name → i ≡ j) → (i j : ℕ) (x y : AbstractParty P) → update party k (Some q) i ≡ Some x → update party k (Some q) j ≡ Some y → x.name ≡ y.name → i ≡ j
  names_put same apart i j x y ei ej =
      put_all (λ i x. x.name ≡ y.name → i ≡ j) party k q
      (λ i x _ ei. put_all (λ j y. x.name ≡ y.name → i ≡ j) party k q (λ j y _ ej. apart i j x y ei ej) (λ e. apart i k x p ei at (e ∙ same)) j y ej)
      (put_all (λ j y. q.name ≡ y.name → k ≡ j) party k q (λ j y _ ej e. apart k j p y at ej (sym same ∙ e)) (λ e. refl) j y ej)
      i x ei

  -- whose name no party has after a change of stages had none before
  pub strange : q.name ≡ p.name → (n : P) → IsStranger (update party k (Some q)) n → IsStranger party n
  strange same n away j x e = elim (ℕ_discrete j k) [
    | yes here ↦ λ s. away k q (put_same party k (Some q)) (same ∙ ap (λ (y : AbstractParty P). y.name) (some_inj (sym at ∙ ap party (sym here) ∙ e)) ∙ s)
    | no other ↦ away j x (put_other party k (Some q) j other ∙ e)
  ]

-- the party with the right is the same, among other parties or after another history
pub taken_with : {P E : Type 0} {right : ℕ} {party party' : ℕ → Option (AbstractParty P)} {h h' : List (Event P E)}
    {k : ℕ} (r : IsTaken right party h k) → party' k ≡ Some r.by → holder_reversed h' ≡ Some r.by.name
    → IsTaken right party' h' k
taken_with r there held =
    record { zero_is = r.zero_is; by = r.by; tail = r.tail; there = there; has = r.has; held = held }

-- neighbours are joined and the right is where it was, among parties of which all but those at rest are there still
module _ {P : Type 0} {party party' : ℕ → Option (AbstractParty P)} (stays : (j : ℕ) (p : AbstractParty P) → party j ≡ Some p → p.stage ≢ Rest → party' j ≡ Some p) where
  pub joined_yet : (next : ℕ → Option ℕ) (a b : ℕ) → Joined next party a b → Joined next party' a b
  joined_yet next a b (inl l) = inl l
  joined_yet next a b (inr (null, o)) =
      let there = stays o.by o.who o.there (λ rests. subst (λ l. Owes l a b) rests o.owes) in
      inr (null, record { by = o.by; who = o.who; there = there; owes = o.owes })

  pub right_yet : {E : Type 0} (right : ℕ) (rooms : List ℕ) (h : List (Event P E)) (keeper : Option ℕ) → RightIs right party rooms h keeper → RightIs right party' rooms h keeper
  right_yet right rooms h None r = r
  right_yet right rooms h (Some j) r = taken_with r (stays j r.by r.there (λ rests. none_some (sym (ap tail_of rests) ∙ r.has))) r.held

module _ {P E : Type 0} (party : ℕ → Option (AbstractParty P)) (k : ℕ) (p q : AbstractParty P) (at : party k ≡ Some p) where
  -- a party without the right
  pub right_put : (right : ℕ) (rooms : List ℕ) (h : List (Event P E)) (keeper : Option ℕ) → tail_of p.stage ≡ None → RightIs right party rooms h keeper → RightIs right (update party k (Some q)) rooms h keeper
  right_put right rooms h None none r = r
  right_put right rooms h (Some j) none r = elim (ℕ_discrete j k) [
    | yes same ↦
        let e : r.by ≡ p = some_inj (sym r.there ∙ ap party same ∙ at) in
        absurd (some_none (sym r.has ∙ ap (λ (x : AbstractParty P). tail_of x.stage) e ∙ none))
    | no ne ↦ taken_with r (put_other party k (Some q) j ne ∙ r.there) r.held
  ]

  -- a party that may have it, at the same stage
  pub right_same_stage : (right : ℕ) (rooms : List ℕ) (h : List (Event P E)) (keeper : Option ℕ) → q.name ≡ p.name → q.stage ≡ p.stage → RightIs right party rooms h keeper → RightIs right (update party k (Some q)) rooms h keeper
  right_same_stage right rooms h None name stage r = r
  right_same_stage right rooms h (Some j) name stage r = elim (ℕ_discrete j k) [
    | yes same ↦
        let is : p ≡ r.by = some_inj (sym at ∙ ap party (sym same) ∙ r.there) in record {
          zero_is = r.zero_is;
          by = q;
          tail = r.tail;
          there = ap (update party k (Some q)) same ∙ put_same party k (Some q);
          has = ap tail_of stage ∙ ap (λ (x : AbstractParty P). tail_of x.stage) is ∙ r.has;
          held = r.held ∙ ap (λ (x : AbstractParty P). Some x.name) (sym is) ∙ ap Some (sym name);
        }
    | no ne ↦ taken_with r (put_other party k (Some q) j ne ∙ r.there) r.held
  ]

-- what a step of another party leaves to the party with this name that has the right
pub record GoesRight {P E : Type 0} (head head' : ℕ) (next next' : ℕ → Option ℕ) (keeper keeper' : Option ℕ)
    (rooms rooms' : List ℕ) (h h' : List (Event P E)) (name : P) : Type 0 where
  pub keeper_is : keeper' ≡ keeper
  pub holder_is : holder_reversed h' ≡ holder_reversed h
  pub place : (i x : ℕ) → ItemAt rooms i x → ItemAt rooms' i x
  pub looked : HasLooked name h → HasLooked name h'
  pub blocked : (t : ℕ) → ItemAt rooms 0 t → HasLooked name h → (head ≢ t → WasBlockedReversed name h) → head' ≢ t
      → WasBlockedReversed name h'
  pub far : (t : ℕ) → ItemAt rooms 0 t → head ≢ t → head' ≢ t
  pub out : IsOut rooms → IsOut rooms'
  pub stub : IsOut rooms → next 0 ≡ None → next' 0 ≡ None
  pub before_stub : (i old : ℕ) → ItemAt rooms i old → ItemAt rooms (suc i) 0 → next old ≡ None → next' old ≡ None

-- what a step of another party leaves to party j, which has this name
pub record Goes {P E : Type 0} (head head' : ℕ) (next next' : ℕ → Option ℕ) (cell cell' : ℕ → Option E)
    (owner owner' : ℕ → Owner) (keeper keeper' : Option ℕ) (rooms rooms' : List ℕ) (h h' : List (Event P E)) (j : ℕ)
    (name : P) : Type 0 where
  pub settled : IsSettled name h → IsSettled name h'
  pub ready : (r : ℕ) → HasReady next cell owner h j name r → HasReady next' cell' owner' h' j name r
  pub opened : (r old : ℕ) → HasOpen next rooms h name r old → HasOpen next' rooms' h' name r old
  pub right : keeper ≡ Some j → GoesRight head head' next next' keeper keeper' rooms rooms' h h' name

-- the same, by machines and chains
abbrev pub GoesOn : {P E : Type 0} → AbstractMachine P E → AbstractMachine P E → Chain → Chain → List (Event P E) → List (Event P E) → ℕ → P → Type 0
GoesOn m m' c c' h h' j name = Goes m.head m'.head m.next m'.next m.cell m'.cell c.owner c'.owner c.keeper c'.keeper c.rooms c'.rooms h h' j name

-- a step beside a party that does not have the right, after which each null link is still null
pub goes_without : {P E : Type 0} {head head' : ℕ} {next next' : ℕ → Option ℕ} {cell : ℕ → Option E} {owner : ℕ → Owner}
    {keeper keeper' : Option ℕ} {rooms : List ℕ} {h h' : List (Event P E)} {j : ℕ} {name : P}
    → ((r : ℕ) → next r ≡ None → next' r ≡ None) → (IsSettled name h → IsSettled name h')
    → ((n : ℕ) → IsPendingAt name n h → IsPendingAt name n h') → (keeper ≡ Some j → ⊥)
    → Goes head head' next next' cell cell owner owner keeper keeper' rooms rooms h h' j name
goes_without none settled pending not = record {
  settled = settled;
  ready = λ r f. ready_with f (settled f.settled) f.ready (none r f.null) f.full;
  opened = λ r old f. open_with f (none old f.null) (pending _ f.pending);
  right = λ is. absurd (not is);
}

-- a step that leaves head and the chain as they were, beside the party with the right
pub right_stays : {P E : Type 0} {head : ℕ} {next next' : ℕ → Option ℕ} {keeper : Option ℕ} {rooms : List ℕ}
    {h h' : List (Event P E)} {name : P} → holder_reversed h' ≡ holder_reversed h
    → (HasLooked name h → HasLooked name h') → (WasBlockedReversed name h → WasBlockedReversed name h')
    → (IsOut rooms → next 0 ≡ None → next' 0 ≡ None)
    → ((i old : ℕ) → ItemAt rooms i old → ItemAt rooms (suc i) 0 → next old ≡ None → next' old ≡ None)
    → GoesRight head head next next' keeper keeper rooms rooms h h' name
right_stays holder looked blocked stub before_stub = record {
  keeper_is = refl;
  holder_is = holder;
  place = λ i x a. a;
  looked = looked;
  blocked = λ t a l was far. blocked (was far);
  far = λ t a ne. ne;
  out = λ o. o;
  stub = stub;
  before_stub = before_stub;
}

-- a step at which only rooms change hands that no party has cleared
pub goes_dealt : {P E : Type 0} {head : ℕ} {next : ℕ → Option ℕ} {cell : ℕ → Option E} {owner owner' : ℕ → Owner}
    {keeper : Option ℕ} {rooms : List ℕ} {h : List (Event P E)} {j : ℕ} {name : P}
    → ((r : ℕ) → owner r ≡ Ready j → owner' r ≡ Ready j)
    → Goes head head next next cell cell owner owner' keeper keeper rooms rooms h h j name
goes_dealt ready = record {
  settled = λ s. s;
  ready = λ r f. ready_with f f.settled (ready r f.ready) f.null f.full;
  opened = λ r old f. f;
  right = λ _. right_stays refl (λ l. l) (λ b. b) (λ _ n. n) (λ _ _ _ _ n. n);
}

module _ {P E : Type 0} {head head' : ℕ} {next next' : ℕ → Option ℕ} {cell cell' : ℕ → Option E} {owner owner' : ℕ → Owner} {keeper keeper' : Option ℕ} {rooms rooms' : List ℕ} {h h' : List (Event P E)} {j : ℕ} {name : P} (g : Goes head head' next next' cell cell' owner owner' keeper keeper' rooms rooms' h h' j name) where
  keeps_on : (t : ℕ) → Keeps keeper rooms h j name t → Keeps keeper' rooms' h' j name t
  keeps_on t K =
      let r = g.right K.kept in
      record { kept = r.keeper_is ∙ K.kept; held_by = r.holder_is ∙ K.held_by; tail = r.place 0 t K.tail; settled = g.settled K.settled }

  real_on : (t : ℕ) → Real keeper rooms h j name t → Real keeper' rooms' h' j name t
  real_on t K = record { keeps = keeps_on t K.keeps; is_real = K.is_real; looked = (g.right K.keeps.kept).looked K.looked }

  -- a party that takes no step is where it was
  pub bystander : (stage : Stage) → AtStage head next cell owner keeper rooms h j name stage → AtStage head' next' cell' owner' keeper' rooms' h' j name stage
  bystander Rest f = g.settled f
  bystander (Cleared r) f = g.ready r f
  bystander (Swapped r old) f = g.opened r old f
  bystander (Holding t) f = keeps_on t f
  bystander StubNull f =
      let r = g.right f.keeps.kept in
      record { keeps = keeps_on 0 f.keeps; looked = r.looked f.looked; blocked = r.blocked 0 f.keeps.tail f.looked f.blocked }
  bystander (Second t) f = real_on t f
  bystander (Null t) f = (real_on t f.0, (g.right f.0.keeps.kept).blocked t f.0.keeps.tail f.0.looked f.1)
  bystander (PutClear t) f = (real_on t f.0, (g.right f.0.keeps.kept).out f.1)
  bystander (PutSwap t) f =
      let r = g.right f.has.keeps.kept in record { has = real_on t f.has; out = r.out f.out; null = r.stub f.out f.null }
  bystander (PutLink t old) f =
      let r = g.right f.has.keeps.kept in record {
        has = real_on t f.has;
        at = f.at;
        old_at = r.place f.at old f.old_at;
        stub_at = r.place (suc f.at) 0 f.stub_at;
        null = r.before_stub f.at old f.old_at f.stub_at f.null;
      }
  bystander (PutRead t) f = (real_on t f.0, (g.right f.0.keeps.kept).far t f.0.keeps.tail f.1)

-- a party is where it was if the rooms that it has cleared stay its own
pub fits_dealt : {P E : Type 0} (m : AbstractMachine P E) (c : Chain) (h : List (Event P E)) (owner : ℕ → Owner) (j : ℕ) (name : P) → ((r : ℕ) → c.owner r ≡ Ready j → owner r ≡ Ready j) → (stage : Stage) → AtStage m.head m.next m.cell c.owner c.keeper c.rooms h j name stage → AtStage m.head m.next m.cell owner c.keeper c.rooms h j name stage
fits_dealt m c h owner j name ready stage f = let g : GoesOn m m c (record c { owner = owner }) h h j name = goes_dealt ready in bystander g stage f

module _ {P E : Type 0} (head : ℕ) (next : ℕ → Option ℕ) (cell : ℕ → Option E) (owner : ℕ → Owner) (keeper : Option ℕ) (rooms : List ℕ) (h : List (Event P E)) (k : ℕ) (name : P) where
  -- what each stage with the right says of it
  pub keeps_of : (stage : Stage) (t : ℕ) → tail_of stage ≡ Some t → AtStage head next cell owner keeper rooms h k name stage → Keeps keeper rooms h k name t
  keeps_of Rest t e f = absurd (none_some e)
  keeps_of (Cleared r) t e f = absurd (none_some e)
  keeps_of (Swapped r old) t e f = absurd (none_some e)
  keeps_of (Holding u) t e f = subst (Keeps keeper rooms h k name) (some_inj e) f
  keeps_of StubNull t e f = subst (Keeps keeper rooms h k name) (some_inj e) f.keeps
  keeps_of (Second u) t e f = subst (Keeps keeper rooms h k name) (some_inj e) f.keeps
  keeps_of (Null u) t e f = subst (Keeps keeper rooms h k name) (some_inj e) f.0.keeps
  keeps_of (PutClear u) t e f = subst (Keeps keeper rooms h k name) (some_inj e) f.0.keeps
  keeps_of (PutSwap u) t e f = subst (Keeps keeper rooms h k name) (some_inj e) f.has.keeps
  keeps_of (PutLink u old) t e f = subst (Keeps keeper rooms h k name) (some_inj e) f.has.keeps
  keeps_of (PutRead u) t e f = subst (Keeps keeper rooms h k name) (some_inj e) f.0.keeps

  -- a party beside the one with the right has none
  pub has_none : (stage : Stage) (o : Option ℕ) → tail_of stage ≡ o → (keeper ≡ Some k → ⊥) → AtStage head next cell owner keeper rooms h k name stage → tail_of stage ≡ None
  has_none stage None e not f = e
  has_none stage (Some t) e not f = absurd (not (keeps_of stage t e f).kept)
