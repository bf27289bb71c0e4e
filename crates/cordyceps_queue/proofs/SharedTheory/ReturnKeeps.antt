-- A step of a queue's party may first give back the slots in hand.
use Rattle.std.proofs.Common.{◌≡◌, ◌≢◌, ℕ, zero, suc, ◌<◌, List, [], ◌∷◌, ◌++◌, length, reverse, set, get_or, append-nil, Option, Some, None, refl, sym, ap, ◌∙◌, subst, inl, inr, arith, length-set, length-append}
use mathlib.Core.Option.{some}
use native.Mathlib.Decide.{ℕ_discrete}
use lib.ListN.{get_elem?}
use Rattle.atomic_table.specs.Table.{Act, keeps, gives, stepped, homes_after, carried_after, Valid}
use Rattle.atomic_table.specs.Table as table
use Rattle.atomic_table.proofs.Lists.{set_here, set_else}
use Rattle.cordyceps_shared.specs.Histories.{events}
use Rattle.cordyceps_shared.proofs.ChangedItems.{one_set}
use Rattle.cordyceps_shared.proofs.StepEvents.{at_length, owned_same, fits_same}
use Rattle.cordyceps_shared.specs.FreeChains.{MayJoin}
use Rattle.cordyceps_shared.proofs.FreeLinks.{links_append}
use Rattle.cordyceps_shared.proofs.Places.{empty_append}
use Rattle.cordyceps_shared.specs.Places.{ItemAt}
use Rattle.cordyceps_queue.specs.History.{Event, actor}
use Rattle.cordyceps_shared.specs.Shares.{Name}
use Rattle.cordyceps_queue.specs.declared.cores.stage.Stage.{Stage}
use Rattle.cordyceps_queue.specs.declared.cores.stage.Stage.TheVariants.{Cleared}
use Rattle.cordyceps_queue.specs.Cores.Meets.{Spare, Meets}
use Rattle.cordyceps_queue.specs.Shared.Plays.{SeatState, carry, MovesTo, HandsOut}
use Rattle.cordyceps_shared.specs.Slots.{Near, Homes, EmptyAtHome, Hand}
use Rattle.cordyceps_queue.specs.Shared.Rule.{TableState, party, machine_of, PlainHolds}
use Rattle.cordyceps_queue.specs.Shared.View.{View, knows, name, free_chain, back_chain, view_returned}
use Rattle.cordyceps_queue.specs.Cores.Abstract.{update}
use Rattle.cordyceps_queue.proofs.CoreTheory.Basics.{put_again}
use Rattle.cordyceps_queue.proofs.CoreTheory.ProducerSteps.{spare_shared, spare_pooled}
use Rattle.cordyceps_queue.proofs.SharedTheory.WordsAsMachine.{party_spelled, core, party_at, back_spare, linkeds_same, pool_stays, count_same, spent_else, Becomes, Stays, PlainAllows}
use Rattle.cordyceps_queue.proofs.SharedTheory.EnqueueKeeps.{views_put}

abbrev pub homes_given : {E : Type 0} → Homes E → List ℕ → Homes E
homes_given homes [] = homes
homes_given homes (b ∷ bs) = homes_given (set homes b (some None)) bs

set_twice : {A : Type 0} (l : List A) (i : ℕ) (a b : A) → set (set l i a) i b ≡ set l i b
set_twice [] i a b = refl
set_twice (x ∷ xs) zero a b = refl
set_twice (x ∷ xs) (suc i) a b = ap (λ l. x ∷ l) (set_twice xs i a b)

-- the act that gives back as many slots
abbrev pub give_all : {E : Type 0} → List ℕ → Act (Option E)
give_all [] = keeps
give_all (b ∷ bs) = table.chain gives (give_all bs)

module _ {E : Type 0} where
  pub give_homes : (bs : List ℕ) (hs : Homes E) → homes_after hs (carry bs) (give_all bs) ≡ homes_given hs bs
  give_homes [] hs = refl
  give_homes (b ∷ bs) hs = give_homes bs (set hs b (some None))

  pub give_carried : (bs : List ℕ) → carried_after (carry {E = E} bs) (give_all bs) ≡ []
  give_carried [] = refl
  give_carried (b ∷ bs) = give_carried bs

  pub give_valid : (bs : List ℕ) (hs : Homes E) → Valid hs (carry bs) (give_all bs)
  give_valid [] hs = tt
  give_valid (b ∷ bs) hs = (tt, give_valid bs (set hs b (some None)))

  given_length : (bs : List ℕ) (hs : Homes E) → length (homes_given hs bs) ≡ length hs
  given_length [] hs = refl
  given_length (b ∷ bs) hs = given_length bs (set hs b (some None)) ∙ length-set hs b (some None)

  given_else : (bs : List ℕ) (hs : Homes E) (x : ℕ) → ((i : ℕ) → ItemAt bs i x → ⊥) → get_elem? (homes_given hs bs) x ≡ get_elem? hs x
  given_else [] hs x away = refl
  given_else (b ∷ bs) hs x away = given_else bs (set hs b (some None)) x (λ i. away (suc i)) ∙ set_else hs b x (some None) (away 0)

  -- an empty slot at home stays so
  given_still : (bs : List ℕ) (hs : Homes E) (x : ℕ) → get_elem? hs x ≡ some (some None) → get_elem? (homes_given hs bs) x ≡ some (some None)
  given_still [] hs x e = e
  given_still (b ∷ bs) hs x e = given_still bs (set hs b (some None)) x (elim (ℕ_discrete x b) [
    | yes same ↦ subst (λ n. get_elem? (set hs b (some None)) n ≡ some (some None)) (sym same) (set_here hs b (some None) (let l = at_length hs x (some None) e in omega arith))
    | no ne ↦ set_else hs b x (some None) ne ∙ e
  ])

  given_here : (bs : List ℕ) (hs : Homes E) (i x : ℕ) → ItemAt bs i x → x < length hs → get_elem? (homes_given hs bs) x ≡ some (some None)
  given_here [] hs i x a l = absurd a
  given_here (b ∷ bs) hs zero x a l = given_still bs (set hs b (some None)) x (subst (λ n. get_elem? (set hs b (some None)) n ≡ some (some None)) (sym a) (set_here hs b (some None) (omega arith)))
  given_here (b ∷ bs) hs (suc i) x a l = given_here bs (set hs b (some None)) i x a (let e = length-set hs b (some None) in omega arith)

  given_all : (bs free : List ℕ) (hs : Homes E) → Near (length hs) bs → EmptyAtHome hs free → EmptyAtHome (homes_given hs bs) (free ++ bs)
  given_all bs free hs near empty = empty_append (homes_given hs bs) free bs (λ i x a. given_still bs hs x (empty i x a)) (λ i x a. given_here bs hs i x a (near i x a))

  abbrev pub table_returned : TableState E → ℕ → View E → TableState E
  table_returned s id v = record { words = s.words; homes = homes_given s.homes v.back; views = set s.views id (view_returned v) }

  pub settles : (s : TableState E) (k : PlainHolds s) (id : ℕ) (v : View E) → get_elem? s.views id ≡ some v → v.known.share ≢ [] → Near (length s.homes) v.back → MayJoin (free_chain v) (back_chain v) → Stays s k (table_returned s id v)
  settles s k id v at named near may =
      let w = view_returned v in
      let lt = at_length s.views id v at in
      let same : machine_of k.cell s.words s.views ≡ machine_of k.cell s.words (set s.views id w) = unchanged in
      let was_wide = k.wide in
      let was_stub = k.stub in
      let deep = given_length v.back s.homes in
      let mine : (x i : ℕ) → ItemAt v.back i x → k.chain.owner x ≡ Spare id = λ x i a. back_spare s k id v i x at named a in record {
        now = record {
          uses = k.uses;
          history = k.history;
          cell = k.cell;
          chain = k.chain;
          pool = k.pool;
          meets = subst (λ n. Meets n k.chain (reverse (events k.history))) same k.meets;
          wide = omega arith;
          stub = omega arith;
          full = λ i x ix ne. given_else v.back s.homes x (λ j a. spare_shared (mine x j a) (k.meets.shared i x ix)) ∙ k.full i x ix ne;
          empty = one_set (λ _ u. u.known.share ≢ [] → EmptyAtHome (homes_given s.homes v.back) u.free) s.views id w
              (λ _. given_all v.back v.free s.homes near (k.empty id v at named))
              (λ j u _ e some_name i x ix. given_still v.back s.homes x (k.empty j u e some_name i x ix));
          ready = λ j u r. one_set (λ _ z. z.known.share ≢ [] → z.stage ≡ Cleared r → k.cell r ≡ z.item) s.views id w (λ _ is. k.ready id v r at named is) (λ i z _ e some_name is. k.ready i z r e some_name is) j u;
          linked = linkeds_same s k id w (let l = k.linked id v at named in links_append s.words v.free v.back v.end v.to may l.0 l.1, tt);
          pooled = pool_stays s k k.chain.owner s.words (homes_given s.homes v.back) (λ r pooled. pooled) (λ r pooled. refl) (λ r pooled. given_else v.back s.homes r (λ j a. spare_pooled (mine r j a) pooled));
          all = let all = k.all in let long = length-append v.free v.back in let same = count_same s.views id v w at (omega arith) in omega arith;
          spent = spent_else s k id w named;
          fits = fits_same actor knows s.views k.history id v w at refl refl refl refl k.fits;
          owned = owned_same knows s.views k.history id v w at refl k.owned;
        };
        uses = refl;
        pool = refl;
        rooms = refl;
        calm = λ quiet. quiet;
      }
    where
      unchanged : machine_of k.cell s.words s.views ≡ machine_of k.cell s.words (set s.views id (view_returned v))
      unchanged = party_spelled s.words k.cell (set s.views id (view_returned v)) (sym (put_again (core s k).party id (party v) (party_at s k id v at named)) ∙ (ap (λ (l : List ℕ). update (core s k).party id (Some record { name = name v; stage = v.stage; spare = l })) (sym (append-nil (v.free ++ v.back))) ∙ views_put s k id v at named (view_returned v) named))

  -- what a step leads to from there is what it leads to from here
  becomes_returned : (s : TableState E) (k : PlainHolds s) (id : ℕ) (v w : View E) (t : TableState E) (back : Stays s k (table_returned s id v)) → Becomes (table_returned s id v) back.now (view_returned v) w t → Becomes s k v w t
  becomes_returned s k id v w t back b = record {
    now = b.now;
    uses = b.uses ∙ back.uses;
    pool = b.pool ∙ back.pool;
    bits = b.bits ∙ back.uses;
    calm = λ quiet. b.calm (back.calm quiet);
    rooms = λ i x ix. elim (b.rooms i x ix) [ inl h ↦ inl h | inr a ↦ inr (a.0, subst (λ l. ItemAt l a.0 x) back.rooms a.1) ];
    spare = λ i x ix. elim (b.spare i x ix) [
      | inl a ↦ inl (a.0, subst (λ l. ItemAt l a.0 x) (append-nil (v.free ++ v.back)) a.1)
      | inr a ↦ inr ((a.0.0, subst (λ l. ItemAt l a.0.0 x) back.rooms a.0.1), a.1)
    ];
  }

  -- a step from there is a step that gives back first
  pub returning : (slots id i : ℕ) (me : SeatState E) (f : ℕ → ℕ) (then : ℕ → SeatState E → Type 0) → me.1 ≡ carry me.0.back → Near slots me.0.back → me.0.known.share ≢ [] → MayJoin (free_chain me.0) (back_chain me.0)
      → PlainAllows slots id (view_returned me.0, []) i f then → PlainAllows slots id me i f then
  returning slots id i me f then hand near named may inner s k deep at =
      let v = me.0 in
      let bs = v.back in
      let homes = s.homes in
      let back = settles s k id v at named (λ j x a. let l = near j x a in omega arith) may in
      let r = inner (table_returned s id v) back.now (given_length bs homes ∙ deep) (set_here s.views id (view_returned v) (at_length s.views id v at)) in
      let a = table.chain (give_all bs) r.0.act in
      let n = f (get_or s.words i 0) in
      let h = sym (give_homes bs homes) in
      let c = sym (give_carried bs) in (
        record {
          view = r.0.view;
          act = a;
          valid = subst (λ z. Valid homes z a) (sym hand) (
            give_valid bs homes,
            subst (λ (z : Homes E × Hand E). Valid z.0 z.1 r.0.act)
                (λ j. (h j, c j)) r.0.valid,
          );
          becomes = subst (λ z. Becomes s k v r.0.view
              record { words = set s.words i n; homes = homes_after homes z a; views = set s.views id r.0.view })
              (sym hand)
              (subst (λ (z : Homes E × Hand E × List (View E)). let (at_home, held, views) = z in Becomes s k v r.0.view
              record { words = set s.words i n; homes = homes_after at_home held r.0.act; views = views })
              (λ j. (h j, c j, set_twice s.views id (view_returned v) r.0.view j))
              (becomes_returned s k id v r.0.view (stepped (table_returned s id v) i n id [] r.0.view r.0.act) back
              r.0.becomes));
        },
        subst (λ z. then (get_or s.words i 0) (r.0.view, carried_after z a)) (sym hand)
            (subst (λ z. then (get_or s.words i 0) (r.0.view, carried_after z r.0.act)) c r.1),
      )

  -- what a step comes to from there is what it comes to from here
  pub moved_on : (me k : SeatState E) (es : List (Event Name E)) (p : Stage) → MovesTo es p (view_returned me.0, []) k
      → MovesTo es p me k
  moved_on me k es p a = record {
    stage = a.stage;
    back = a.back;
    free = a.free ∙ append-nil (me.0.free ++ me.0.back);
    hand = a.hand;
    sees = a.sees;
    end = a.end;
  }

  pub handed_on : (me k : SeatState E) (es : List (Event Name E)) (slots t r : ℕ)
      → HandsOut es slots t r (view_returned me.0, []) k → HandsOut es slots t r me k
  handed_on me k es slots t r h = record {
    element = h.element;
    stage = h.stage;
    back = h.back;
    free = h.free ∙ append-nil (me.0.free ++ me.0.back);
    hand = h.hand;
    near = h.near;
    inside = h.inside;
    sees = h.sees;
    few = h.few;
    end = h.end;
    to = h.to;
  }
