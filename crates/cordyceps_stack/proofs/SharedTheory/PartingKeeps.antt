-- The rule of a transfer stack's table at the start, and where a party is split in two or takes another in.
use Rattle.std.proofs.Common.{◌≡◌, ◌≢◌, ◌≤◌, ℕ, List, [], ◌∷◌, ◌++◌, map, length, reverse, set, eqb, refl, sym, ap, ◌∙◌, subst, inl, inr, ⊎_elim, arith, append_assoc, length-append, take, drop, take-append-drop}
use mathlib.Core.Option.{some, none}
use lib.ListN.{get_elem?, length-map}
use Rattle.atomic_table.specs.Table.{opening, Splits, Joins, Allows, step, keeps}
use Rattle.cordyceps_shared.specs.FreeChains.{MayJoin}
use Rattle.cordyceps_shared.specs.Counts.{one_if, times}
use Rattle.cordyceps_shared.specs.Shares.{Name, whole}
use Rattle.cordyceps_shared.specs.Words.{head}
use Rattle.cordyceps_shared.specs.Words as word
use Rattle.cordyceps_shared.specs.declared.layout.TheConstants.{HEAD, LINKS}
use Rattle.cordyceps_shared.proofs.Counting.{tally_set, tally_snoc, tally_append, tally_cut}
use Rattle.cordyceps_shared.proofs.ChangedItems.{two_set, set_more, was_there}
use Rattle.cordyceps_shared.proofs.Splits.{owned_cut, fits_cut}
use Rattle.cordyceps_shared.proofs.Absorbs.{owned_join, fits_join}
use Rattle.cordyceps_shared.proofs.PartyNames.{keeps_some, gives_some, joined_some}
use Rattle.cordyceps_shared.proofs.EventOwners.{renamed_else, relabel, events_relabel, relabel_append, without_relabel}
use Rattle.cordyceps_shared.proofs.Standings as seats
use Rattle.cordyceps_shared.proofs.StepEvents.{owned_same, fits_forgot}
use Rattle.cordyceps_stack.specs.History.{Event, Load, Taken, held, Legal, actor, SomeChange}
use Rattle.cordyceps_stack.specs.Shared.View.{Idle, View, knows, newcomer, held_rooms, count_with_party, room_count}
use Rattle.cordyceps_stack.specs.Shared.Words.{History, Since, AtDoing}
use Rattle.cordyceps_stack.specs.Shared.Slots.{Hand, all_vacant, AtHome, AreNew}
use Rattle.cordyceps_stack.specs.declared.shared.slot.Slot.{Slot}
use Rattle.cordyceps_stack.specs.Shared.Rule.{RuleHolds}
use Rattle.cordyceps_stack.specs.Shared.Plays.{SeatState}
use Rattle.cordyceps_stack.specs.Shared.Order.{crosswise}
use Rattle.cordyceps_stack.specs.Shared.Parting.{view_keeping, view_giving, view_absorbing, view_absorbed, view_without_told, after_learn}
use Rattle.cordyceps_stack.proofs.Histories.{legal_none}
use Rattle.cordyceps_stack.proofs.SharedTheory.OrderHolds.{order_once, order_home, order_length}
use Rattle.cordyceps_stack.proofs.SharedTheory.SlotMoves.{vacant_cut, vacant_joined, home_append, home_front, home_back}
use Rattle.cordyceps_stack.proofs.SharedTheory.WordsKeep.{does_frame, rests, forks}
use Rattle.cordyceps_stack.proofs.SharedTheory.StepsKeep.{step_keeps, untouched, unwritten, few_rooms}

pub legal_front : {P E : Type 0} (xs ys : List (Event P E)) → Legal (xs ++ ys) → Legal xs
legal_front xs ys l before after p batch e = l before (after ++ ys) p batch (ap (λ z. z ++ ys) e ∙ append_assoc before (Taken p batch ∷ after) ys)

module _ {E : Type 0} where
  pub opens : (rooms : ℕ) (words : List ℕ) (slots : List (Slot E)) → length words ≡ LINKS → head words ≡ 0 → word.pool words ≡ 0 → AreNew slots rooms → RuleHolds (opening words slots (newcomer rooms))
  opens rooms words slots wide top no_pool new =
      let first : View E = newcomer rooms in
      let known = seats.opens actor knows first refl in record {
        history = [];
        chain = [];
        pool = record { rooms = []; end = 0 };
        meets = record {
          legal = legal_none;
          top = top;
          holds = refl;
          apart = λ r. omega (arith, order_once rooms r);
          each = λ j v e. subst (λ (z : View E). AtDoing words [] j z.doing) (seats.only first v j e).1 tt;
        };
        wide = wide;
        full = tt;
        free = λ j v e. subst (λ (z : View E). AtHome (map some slots) (all_vacant z.free.rooms z.free.end)) (seats.only first v j e).1 (order_home slots rooms rooms (omega arith) new.linked);
        pooled = tt;
        word_is = inl (no_pool, refl);
        all = let many = new.many in let long = order_length (crosswise rooms) rooms in let kept = length-map slots (λ (x : Slot E). some x) in omega arith;
        spent = λ j v e none_of. let no : whole ≡ [] = ap (λ (z : View E). z.known.share) (seats.only first v j e).1 ∙ none_of in absurd (cc);
        fits = known.1;
        owned = known.0;
      }

module _ {E : Type 0} where
  -- ---- splitting
  pub splits : (id n : ℕ) (v : View E) → v.known.share ≢ [] → Splits RuleHolds id v (view_keeping n v) (view_giving n v)
  splits id n v named s k at =
      let left = view_keeping n v in
      let right = view_giving n v in
      let kept : Hand E = all_vacant left.free.rooms left.free.end in
      let given : Hand E = all_vacant right.free.rooms right.free.end in
      let home : AtHome s.homes (given ++ kept) = subst (AtHome s.homes) (vacant_cut E n v.free) (k.free id v at) in record {
        history = k.history;
        chain = k.chain;
        pool = k.pool;
        meets = forks k.pool.rooms s.words k.chain s.views k.history id v left right k.meets at (λ r. let cut = tally_cut (λ q. one_if (eqb q r)) n v.free.rooms in omega arith) (k.meets.each id v at) (λ _. tt);
        wide = k.wide;
        full = k.full;
        free = set_more (λ _ u. AtHome s.homes (all_vacant u.free.rooms u.free.end)) s.views id left right (home_back s.homes given kept home) (home_front s.homes given kept home) (λ i u _ e. k.free i u e);
        pooled = k.pooled;
        word_is = k.word_is;
        all =
            let all = k.all in
            let long = length-append (take n v.free.rooms) (drop n v.free.rooms) in
            let same = ap (λ (l : List ℕ). length l) (take-append-drop n v.free.rooms) in
            omega (arith, tally_set (room_count {E = E}) s.views id v left at, tally_snoc (room_count {E = E}) (set s.views id left) right);
        spent = set_more (λ _ u. u.known.share ≡ [] → room_count u ≡ 0) s.views id left right (λ e. absurd (keeps_some v.known.share named e)) (λ e. absurd (gives_some v.known.share named e)) (λ i u _ e. k.spent i u e);
        fits = fits_cut actor knows s.views k.history id v left right at refl refl k.owned k.fits;
        owned = owned_cut knows s.views k.history id v left right at refl refl named k.owned;
      }

  -- ---- taking another in
  since_relabel : (a b : ℕ) (ws : List ℕ) (h : History E) (i read : ℕ) → i ≢ a → i ≢ b → Since ws h i read → Since ws (relabel a b h) i read
  since_relabel a b ws h i read na nb s =
      let e : Event Name E = Load s.name in record {
        before = relabel a b s.before;
        name = s.name;
        later = relabel a b s.later;
        is = ap (λ z. relabel a b z) s.is ∙ (relabel_append a b s.before ((i, e) ∷ s.later) ∙ ap (λ z. relabel a b s.before ++ (z, e) ∷ relabel a b s.later) (renamed_else a b i nb));
        none = without_relabel a b i s.later na s.none;
        same = ⊎_elim (λ t. inl t) (λ c. inr (subst (λ z. SomeChange z) (sym (events_relabel a b s.later)) c)) s.same;
      }

  pub joins : (id other : ℕ) (v w : View E) → v.doing ≡ Idle → w.doing ≡ Idle → v.known.share ≢ [] → MayJoin v.free w.free → Joins RuleHolds id v other w (view_absorbing v w) view_absorbed
  joins id other v w idle idle_too named may s k at apart there =
      let h = relabel id other k.history in
      let one = set s.views id (view_absorbing v w) in
      let m = k.meets in
      let there_first : get_elem? s.views other ≡ some w = was_there s.views id other (view_absorbing v w) w apart there in
      let same = events_relabel id other k.history in record {
        history = h;
        chain = k.chain;
        pool = k.pool;
        meets = record {
          legal = subst (λ z. Legal z) (sym same) m.legal;
          top = m.top;
          holds = m.holds ∙ ap (λ z. reverse (held z)) (sym same);
          apart = λ r.
              let pv = ap (λ d. times r (held_rooms d)) idle in
              let pw = ap (λ d. times r (held_rooms d)) idle_too in
              omega (arith, m.apart r, tally_set (count_with_party r) s.views id v (view_absorbing v w) at, tally_set (count_with_party r) one other w view_absorbed there, tally_append (λ q. one_if (eqb q r)) v.free.rooms w.free.rooms);
          each = two_set (λ i u. AtDoing s.words h i u.doing) s.views id other (view_absorbing v w) view_absorbed tt tt (λ i u n o e. does_frame s.words s.words k.history h i u.doing (λ read. since_relabel id other s.words k.history i read n o) (m.each i u e));
        };
        wide = k.wide;
        full = k.full;
        free = two_set (λ _ u. AtHome s.homes (all_vacant u.free.rooms u.free.end)) s.views id other (view_absorbing v w) view_absorbed
            (subst (AtHome s.homes) (sym (vacant_joined E v.free w.free may)) (home_append s.homes (all_vacant v.free.rooms v.free.end) (all_vacant w.free.rooms w.free.end) (k.free id v at) (k.free other w there_first))) tt (λ i u _ _ e. k.free i u e);
        pooled = k.pooled;
        word_is = k.word_is;
        all =
            let all = k.all in
            let pv = ap (λ d. length (held_rooms d)) idle in
            let pw = ap (λ d. length (held_rooms d)) idle_too in
            let long = length-append v.free.rooms w.free.rooms in
            omega (arith, tally_set (room_count {E = E}) s.views id v (view_absorbing v w) at, tally_set (room_count {E = E}) one other w view_absorbed there);
        spent = two_set (λ _ u. u.known.share ≡ [] → room_count u ≡ 0) s.views id other (view_absorbing v w) view_absorbed (λ e. absurd (joined_some v.known.share w.known.share named e)) (λ _. refl) (λ i u _ _ e. k.spent i u e);
        fits = fits_join actor knows s.views k.history id other v w (view_absorbing v w) view_absorbed at apart there refl refl k.fits;
        owned = owned_join knows s.views k.history id other v w (view_absorbing v w) view_absorbed at apart there refl refl named k.owned;
      }

  pub learns : (slots id : ℕ) (me : SeatState E) → me.0.doing ≡ Idle → length me.0.known.told ≤ length me.0.known.seen → Allows RuleHolds slots id me HEAD (λ n. n) (after_learn (step slots HEAD 0 0 none) me)
  learns slots id me idle short s k deep at fits =
      let v = me.0 in
      let w = view_without_told v in
      let few = few_rooms s k id v at in
      let meets = rests k.pool.rooms s.words k.chain s.views k.history id v w k.meets at (λ r. omega arith) (k.meets.each id v at) in (
        w,
        keeps,
        tt,
        unwritten s HEAD s.homes (set s.views id w)
            (step_keeps s k id v w s.words s.homes k.chain k.history (untouched s k id v w at refl (λ e. k.spent id v at e)) meets refl k.full (k.free id v at) (λ _ _ _ _ _ _. refl)
            (fits_forgot actor knows s.views k.history id v w at refl refl refl k.fits) (owned_same knows s.views k.history id v w at refl k.owned)),
        record {
          view_is = refl;
          hand = refl;
          known = seats.is_known actor knows (λ z. Legal z) legal_front s.views k.history id v k.owned k.fits at k.meets.legal short;
          few = omega arith;
        },
      )
