-- The rule of a queue's table at the start, and where a party is split in two or takes another in.
use Rattle.std.proofs.Common.{◌≡◌, ◌≢◌, ◌⊎◌, ℕ, zero, suc, ◌+◌, ◌≤◌, List, [], ◌∷◌, ◌++◌, map, reverse, length, replicate, set, take, drop, Option, Some, None, refl, sym, ap, ◌∙◌, subst, inl, inr, arith, length-set, length-append, append-nil, take-append-drop}
use Rattle.std.proofs.lemmas.List.{reverse-append}
use mathlib.Core.Option.{some, some-injective}
use native.Mathlib.Decide.{ℕ_discrete}
use lib.ListN.{get_elem?, length-map, length-replicate}
use Rattle.atomic_table.specs.Table.{opening}
use Rattle.atomic_table.proofs.Lists.{at_longer, set_else}
use Rattle.cordyceps_shared.specs.Words as word
use Rattle.cordyceps_shared.specs.Histories.{events}
use Rattle.cordyceps_shared.specs.Knowing.{SharesDisjoint}
use Rattle.cordyceps_shared.specs.Shares.{Name, whole}
use Rattle.cordyceps_shared.proofs.ChangedItems.{one_set, two_set, set_more, was_there}
use Rattle.cordyceps_shared.proofs.Counting.{tally_set, tally_snoc}
use Rattle.cordyceps_shared.proofs.Splits.{owned_cut, fits_cut}
use Rattle.cordyceps_shared.proofs.Absorbs.{owned_join, fits_join}
use Rattle.cordyceps_shared.proofs.PartyNames.{keeps_some, gives_some, joined_some}
use Rattle.cordyceps_shared.proofs.Places.{at_take, empty_new, empty_drop, empty_take, empty_append}
use Rattle.cordyceps_shared.proofs.EventOwners.{relabel, events_relabel}
use Rattle.cordyceps_shared.proofs.Standings as seats
use Rattle.cordyceps_shared.proofs.StepEvents.{at_length, owned_same, fits_forgot}
use Rattle.cordyceps_queue.specs.declared.cores.stage.Stage.TheVariants.{Rest, Cleared}
use Rattle.cordyceps_queue.specs.Bells.{IsQuiet}
use Rattle.cordyceps_queue.specs.History.{Event, actor}
use Rattle.cordyceps_shared.specs.Places.{ItemAt}
use Rattle.cordyceps_queue.specs.Cores.Meets.{Owner, Shared, Spare, Pooled, OwnsRooms, AtStage, Meets}
use Rattle.cordyceps_queue.specs.Shared.Parting.{view_keeping, view_giving, view_absorbing, view_absorbed, view_without_told}
use Rattle.cordyceps_queue.specs.Past.{IsLegalReversed}
use Rattle.cordyceps_queue.specs.Shared.Plays.{LegalReversed}
use Rattle.cordyceps_shared.specs.FreeChains.{Links, MayJoin, leads}
use Rattle.cordyceps_shared.proofs.FreeLinks.{links_drop, links_take, links_append}
use Rattle.cordyceps_queue.specs.Shared.Parts.{AreNew}
use Rattle.cordyceps_shared.specs.Slots.{Homes, EmptyAtHome}
use Rattle.cordyceps_queue.specs.Shared.Rule.{TableState, History, link_of, party, party_of, machine_of, PlainHolds}
use Rattle.cordyceps_queue.specs.Shared.View.{View, knows, newcomer, down_from, free_chain, begun_count, room_count}
use Rattle.cordyceps_queue.specs.Cores.Abstract.{AbstractParty}
use Rattle.cordyceps_queue.proofs.CoreTheory.Basics.{at_only, put_again}
use Rattle.cordyceps_queue.proofs.CoreTheory.NewMachines.{new_owner, is_unmade}
use Rattle.cordyceps_queue.proofs.CoreTheory.ProducerSteps.{spare_one, spare_pooled}
use Rattle.cordyceps_queue.proofs.SharedTheory.SeatNames.{party_was, names_differ}
use Rattle.cordyceps_queue.proofs.CoreTheory.SplitParties.{deal, deal_else, deal_here, deal_fixed, deal_others, deal_kept, deal_given, deal_behind}
use Rattle.cordyceps_queue.proofs.SharedTheory.Regroups.{Regroups, regroups_keep}
use Rattle.cordyceps_queue.proofs.SharedTheory.WordsAsMachine.{party_spelled, core, party_at, rooms_of, parties_put, pool_stays, count_same, spent_else, Stays}

pub at_down_from : (n i r : ℕ) → ItemAt (down_from n) i r → (i + r ≡ n) × (1 ≤ r)
at_down_from zero i r a = absurd a
at_down_from (suc n) zero r a = (omega arith, omega arith)
at_down_from (suc n) (suc i) r a = let t = at_down_from n i r a in let e = t.0 in (omega arith, t.1)

pub length_down_from : (n : ℕ) → length (down_from n) ≡ n
length_down_from zero = refl
length_down_from (suc n) = ap suc (length_down_from n)

links_down : (words : List ℕ) (n : ℕ) → ((r : ℕ) → r ≤ n → word.next words r ≡ r) → Links words (down_from n) 1
links_down words zero linked = tt
links_down words (suc n) linked = (linked (suc n) (omega arith) ∙ leads_down n, links_down words n (λ r l. linked r (omega arith)))
  where
    leads_down : (n : ℕ) → suc n ≡ leads (down_from n) 1
    leads_down zero = refl
    leads_down (suc n) = refl

module _ (E : Type 0) where
  vacant_empty : (rooms : ℕ) → let homes : Homes E = map some (replicate (rooms + 1) None) in EmptyAtHome homes (down_from rooms)
  vacant_empty rooms = empty_new (rooms + 1) (down_from rooms) (λ i r a. let t = at_down_from rooms i r a in let e = t.0 in omega arith)

  -- the plain rule, with no use begun, and the stub alone in the chain
  pub record Opens (rooms : ℕ) (words : List ℕ) : Type 0 where
    pub now : PlainHolds {E = E} (opening words (replicate (rooms + 1) None) (newcomer rooms))
    pub uses : now.uses ≡ []
    pub rooms_are : now.chain.rooms ≡ 0 ∷ []
    pub pool_is : now.pool ≡ record { rooms = []; end = 0 }
    pub quiet : IsQuiet (events now.history)

  pub opens : (rooms : ℕ) (words : List ℕ) → AreNew words rooms → Opens rooms words
  opens rooms words new =
      let wide = new.wide in
      let head = new.head in
      let right = new.right in
      let link = new.linked 0 (omega arith) in
      let first : View E = newcomer rooms in
      let known = seats.opens actor knows first refl in
      let homes : Homes E = map some (replicate (rooms + 1) None) in
      let deep : length homes ≡ rooms + 1 = length-map (replicate (rooms + 1) None) some ∙ length-replicate (rooms + 1) None in
      let owner : ℕ → Owner = deal (Spare 0) (down_from rooms) new_owner in record {
        now = record {
          uses = [];
          history = [];
          cell = λ _. None;
          chain = record { rooms = 0 ∷ []; owner = owner; keeper = None };
          pool = record { rooms = []; end = 0 };
          meets = record {
            legal = tt;
            last = record { at = 0; long = refl; head_at = head };
            ends = ap (λ n. link_of (word.next words n)) head ∙ ap link_of link;
            joined = λ i a b ia ib. absurd ib;
            once = λ i j r ir jr. (at_only 0 i r ir).0 ∙ sym (at_only 0 j r jr).0;
            shared = λ i r ir. ap owner (at_only 0 i r ir).1 ∙ stub rooms;
            stub = stub rooms;
            unmade = λ r l. deal_else (Spare 0) (down_from rooms) new_owner r (λ i a. let t = at_down_from rooms i r a in let e = t.0 in absurd (omega arith)) ∙ is_unmade r (omega arith);
            holds = refl;
            right = record { unheld = refl; tail = 0; right_is = right; tail_at = refl };
            fits = λ k p e. subst (λ (q : AbstractParty Name). AtStage (word.head words) (λ r. link_of (word.next words r)) (λ (_ : ℕ). let x : Option E = None in x) owner None (0 ∷ []) [] k q.name q.stage) (is_first rooms k p e).1 tt;
            rooms = λ k p e. let t = is_first rooms k p e in subst (λ (z : ℕ × AbstractParty Name). OwnsRooms owner z.0 z.1.spare) (λ c. (sym t.0 c, t.1 c)) (subst (λ z. OwnsRooms owner 0 z) (sym (append-nil (down_from rooms))) (mine rooms));
            names = λ j k p q ej ek same. (is_first rooms j p ej).0 ∙ sym (is_first rooms k q ek).0;
            strangers = λ q away. tt;
          };
          wide = omega arith;
          stub = omega arith;
          full = λ i r ir ne. absurd (ne (at_only 0 i r ir).1);
          empty = λ j v e some_name. subst (λ (z : View E). EmptyAtHome homes z.free) (seats.only first v j e).1 (vacant_empty rooms);
          ready = λ j v r e some_name is. absurd (let c = ap (λ (z : View E). z.stage) (seats.only first v j e).1 ∙ is in cc);
          linked = λ j v e some_name. subst (λ (z : View E). Links words z.free z.end × Links words z.back z.to) (seats.only first v j e).1 (links_down words rooms (λ r l. new.linked r (omega arith)), tt);
          pooled = record { own = λ i r a. absurd a; once = λ i j r a b. absurd a; linked = tt; empty = λ i r a. absurd a };
          all = let long = length_down_from rooms in omega arith;
          spent = λ j v e none_of. let no : whole ≡ [] = ap (λ (z : View E). z.known.share) (seats.only first v j e).1 ∙ none_of in absurd (cc);
          fits = known.1;
          owned = known.0;
        };
        uses = refl;
        rooms_are = refl;
        pool_is = refl;
        quiet = refl;
      }
    where
      is_first : (n k : ℕ) (p : AbstractParty Name) → (let first : View E = newcomer n in party_of (get_elem? (first ∷ []) k) ≡ Some p) → let first : View E = newcomer n in (k ≡ 0) × (party first ≡ p)
      is_first n k p e =
          let first : View E = newcomer n in
          let w = party_was (get_elem? (first ∷ []) k) p e in
          let o = seats.only first w.view k w.there in
          (o.0, ap party o.1 ∙ w.is)

      stub : (n : ℕ) → deal (Spare 0) (down_from n) new_owner 0 ≡ Shared
      stub n = deal_else (Spare 0) (down_from n) new_owner 0 (λ i a. let t = at_down_from n i 0 a in let l = t.1 in absurd (omega arith))

      mine : (n : ℕ) → OwnsRooms (deal (Spare 0) (down_from n) new_owner) 0 (down_from n)
      mine n = record {
        own = λ i r a. deal_here (Spare 0) (down_from n) new_owner i r a;
        once = λ i j r x y. let t = at_down_from n i r x in let u = at_down_from n j r y in let e = t.0 in let f = u.0 in omega arith;
      }

-- ---- splitting
at_rest : {E : Type 0} (views : List (View E)) (id : ℕ) (v : View E) (i : ℕ) (u : View E) → get_elem? views id ≡ some v → v.stage ≡ Rest → i ≡ id → get_elem? views i ≡ some u → u.stage ≡ Rest
at_rest {E} views id v i u at rest same e = ap (λ (z : View E). z.stage) (some-injective u v (sym e ∙ ap (get_elem? views) same ∙ at)) ∙ rest

module _ {E : Type 0} (s : TableState E) (k : PlainHolds s) (id n : ℕ) (v : View E) (named : v.known.share ≢ []) (rest : v.stage ≡ Rest) (bare : v.back ≡ []) (at : get_elem? s.views id ≡ some v) where
  abbrev left_view : View E
  left_view = view_keeping n v

  abbrev right : View E
  right = view_giving n v

  abbrev far : ℕ
  far = length (set s.views id left_view)

  abbrev cut_views : List (View E)
  cut_views = set s.views id left_view ++ right ∷ []

  abbrev owner_cut : ℕ → Owner
  owner_cut = deal (Spare far) (take n v.free) k.chain.owner

  free_rooms : OwnsRooms k.chain.owner id v.free
  free_rooms = subst (OwnsRooms k.chain.owner id) (ap (λ l. v.free ++ l) bare ∙ append-nil v.free) (rooms_of s k id v at named)

  taken : (i r : ℕ) → ItemAt (take n v.free) i r → k.chain.owner r ≡ Spare id
  taken i r a = free_rooms.own i r (at_take n v.free i r a).0

  cut_owned : SharesDisjoint knows cut_views k.history
  cut_owned = owned_cut knows s.views k.history id v left_view right at refl refl named k.owned

  cut_groups : Regroups s.views cut_views k.chain owner_cut
  cut_groups = record {
    fixed = deal_fixed k.chain.owner id (Spare far) (take n v.free) taken;
    stays = λ i u e. elim (ℕ_discrete i id) [
      | yes same ↦ inr (at_rest s.views id v i u at rest same e)
      | no ne ↦ inl (at_longer (set s.views id left_view) (right ∷ []) i u (set_else s.views id i left_view ne ∙ e))
    ];
    comes = set_more (λ i u. (get_elem? s.views i ≡ some u) ⊎ ((u.stage ≡ Rest) × ((z : View E) → get_elem? s.views i ≡ some z → z.stage ≡ Rest))) s.views id left_view right
        (inr (rest, λ z e. at_rest s.views id v id z at rest refl e))
        (inr (refl, λ z e. let l = at_length s.views far z e in let same = length-set s.views id left_view in absurd (omega arith)))
        (λ i u ne e. inl e);
    rooms = set_more (λ j u. u.known.share ≢ [] → OwnsRooms owner_cut j (u.free ++ u.back)) s.views id left_view right
        (λ _. subst (OwnsRooms owner_cut id) (sym (ap (λ l. drop n v.free ++ l) bare ∙ append-nil (drop n v.free))) (deal_kept k.chain.owner id v.free free_rooms n (Spare far)))
        (λ _. subst (OwnsRooms owner_cut far) (sym (append-nil (take n v.free))) (deal_given k.chain.owner id v.free free_rooms n far))
        (λ j u ne there some_name. deal_others k.chain.owner id (Spare far) (take n v.free) taken j (u.free ++ u.back) ne (rooms_of s k j u there some_name));
    names = names_differ cut_views k.history cut_owned;
  }

  pub cut_kept : Stays s k record { words = s.words; homes = s.homes; views = cut_views }
  cut_kept = record {
    now = record {
      uses = k.uses;
      history = k.history;
      cell = k.cell;
      chain = record k.chain { owner = owner_cut };
      pool = k.pool;
      meets = regroups_keep s.views cut_views k.chain owner_cut k.cell s.words (reverse (events k.history)) k.meets cut_groups;
      wide = k.wide;
      stub = k.stub;
      full = k.full;
      empty = set_more (λ _ u. u.known.share ≢ [] → EmptyAtHome s.homes u.free) s.views id left_view right
          (λ _. empty_drop s.homes n v.free (k.empty id v at named))
          (λ _. empty_take s.homes n v.free (k.empty id v at named))
          (λ j u ne there some_name. k.empty j u there some_name);
      ready = λ j u r. set_more (λ _ z. z.known.share ≢ [] → z.stage ≡ Cleared r → k.cell r ≡ z.item) s.views id left_view right
          (λ _ is. absurd (cc))
          (λ _ is. absurd (cc))
          (λ i z ne there some_name. k.ready i z r there some_name)
          j u;
      linked = set_more (λ _ u. u.known.share ≢ [] → Links s.words u.free u.end × Links s.words u.back u.to) s.views id left_view right
          (λ _. let l = k.linked id v at named in (links_drop s.words v.free n v.end l.0, l.1))
          (λ _. (links_take s.words v.free n v.end (k.linked id v at named).0, tt))
          (λ j u ne there some_name. k.linked j u there some_name);
      pooled = pool_stays s k owner_cut s.words s.homes (λ r pooled. deal_fixed k.chain.owner id (Spare far) (take n v.free) taken r Pooled pooled (λ j e. spare_pooled e refl)) (λ r pooled. refl) (λ r pooled. refl);
      all =
          let all = k.all in
          let long = length-append (take n v.free) (drop n v.free) in
          let same = ap (λ (l : List ℕ). length l) (take-append-drop n v.free) in
          omega (arith, tally_set (room_count {E = E}) s.views id v left_view at, tally_snoc (room_count {E = E}) (set s.views id left_view) right);
      spent = set_more (λ _ u. u.known.share ≡ [] → room_count u ≡ 0) s.views id left_view right (λ e. absurd (keeps_some v.known.share named e)) (λ e. absurd (gives_some v.known.share named e)) (λ j u _ e. k.spent j u e);
      fits = fits_cut actor knows s.views k.history id v left_view right at refl refl k.owned k.fits;
      owned = cut_owned;
    };
    uses = refl;
    pool = refl;
    rooms = refl;
    calm = λ quiet. quiet;
  }

-- ---- a party takes another in
module _ {E : Type 0} (s : TableState E) (k : PlainHolds s) (id other : ℕ) (v w : View E) (rest : v.stage ≡ Rest) (rest_too : w.stage ≡ Rest) (bare : v.back ≡ []) (bare_too : w.back ≡ []) (named : v.known.share ≢ []) (named_too : w.known.share ≢ []) (may : MayJoin (free_chain v) (free_chain w))
    (at : get_elem? s.views id ≡ some v) (apart : other ≢ id) (there : get_elem? (set s.views id (view_absorbing v w)) other ≡ some w) where
  abbrev joint : List (View E)
  joint = set (set s.views id (view_absorbing v w)) other view_absorbed

  abbrev owner_join : ℕ → Owner
  owner_join = deal (Spare id) w.free k.chain.owner

  abbrev relabelled_history : History E
  relabelled_history = relabel id other k.history

  abbrev past : List (Event Name E)
  past = reverse (events k.history)

  same_past : past ≡ reverse (events relabelled_history)
  same_past = ap (λ z. reverse z) (sym (events_relabel id other k.history))

  there_first : get_elem? s.views other ≡ some w
  there_first = was_there s.views id other (view_absorbing v w) w apart there

  first_rooms : OwnsRooms k.chain.owner id v.free
  first_rooms = subst (OwnsRooms k.chain.owner id) (ap (λ l. v.free ++ l) bare ∙ append-nil v.free) (rooms_of s k id v at named)

  second_rooms : OwnsRooms k.chain.owner other w.free
  second_rooms = subst (OwnsRooms k.chain.owner other) (ap (λ l. w.free ++ l) bare_too ∙ append-nil w.free) (rooms_of s k other w there_first named_too)

  joint_owned : SharesDisjoint knows joint relabelled_history
  joint_owned = owned_join knows s.views k.history id other v w (view_absorbing v w) view_absorbed at apart there refl refl named k.owned

  join_groups : Regroups s.views joint k.chain owner_join
  join_groups = record {
    fixed = deal_fixed k.chain.owner other (Spare id) w.free second_rooms.own;
    stays = λ i u e. elim (ℕ_discrete i id) [
      | yes same ↦ inr (at_rest s.views id v i u at rest same e)
      | no ne ↦ elim (ℕ_discrete i other) [
        | yes same ↦ inr (at_rest s.views other w i u there_first rest_too same e)
        | no no_other ↦ inl (set_else (set s.views id (view_absorbing v w)) other i view_absorbed no_other ∙ set_else s.views id i (view_absorbing v w) ne ∙ e)
      ]
    ];
    comes = two_set (λ i u. (get_elem? s.views i ≡ some u) ⊎ ((u.stage ≡ Rest) × ((z : View E) → get_elem? s.views i ≡ some z → z.stage ≡ Rest))) s.views id other (view_absorbing v w) view_absorbed
        (inr (refl, λ z e. at_rest s.views id v id z at rest refl e))
        (inr (refl, λ z e. at_rest s.views other w other z there_first rest_too refl e))
        (λ i u ne no_other e. inl e);
    rooms = two_set (λ j u. u.known.share ≢ [] → OwnsRooms owner_join j (u.free ++ u.back)) s.views id other (view_absorbing v w) view_absorbed
        (λ _. subst (OwnsRooms owner_join id) (sym (append-nil (v.free ++ w.free))) (deal_behind k.chain.owner id v.free w.free first_rooms (λ i r a free. apart (sym (spare_one free (second_rooms.own i r a)))) second_rooms.once))
        (λ some_name. absurd (some_name refl))
        (λ j u ne no_other at some_name. deal_others k.chain.owner other (Spare id) w.free second_rooms.own j (u.free ++ u.back) no_other (rooms_of s k j u at some_name));
    names = names_differ joint relabelled_history joint_owned;
  }

  pub joint_kept : Stays s k record { words = s.words; homes = s.homes; views = joint }
  joint_kept = record {
    now = record {
      uses = k.uses;
      history = relabelled_history;
      cell = k.cell;
      chain = record k.chain { owner = owner_join };
      pool = k.pool;
      meets = subst (λ l. Meets (machine_of k.cell s.words joint) (record k.chain { owner = owner_join }) l) same_past
          (regroups_keep s.views joint k.chain owner_join k.cell s.words past k.meets join_groups);
      wide = k.wide;
      stub = k.stub;
      full = k.full;
      empty = two_set (λ _ u. u.known.share ≢ [] → EmptyAtHome s.homes u.free) s.views id other (view_absorbing v w) view_absorbed
          (λ _. empty_append s.homes v.free w.free (k.empty id v at named) (k.empty other w there_first named_too))
          (λ some_name. absurd (some_name refl))
          (λ j u ne no_other e some_name. k.empty j u e some_name);
      ready = λ j u r. two_set (λ _ z. z.known.share ≢ [] → z.stage ≡ Cleared r → k.cell r ≡ z.item) s.views id other (view_absorbing v w) view_absorbed
          (λ _ is. absurd (cc))
          (λ _ is. absurd (cc))
          (λ i z ne no_other e some_name. k.ready i z r e some_name)
          j u;
      linked = two_set (λ _ u. u.known.share ≢ [] → Links s.words u.free u.end × Links s.words u.back u.to) s.views id other (view_absorbing v w) view_absorbed
          (λ _. (links_append s.words v.free w.free v.end w.end may (k.linked id v at named).0 (k.linked other w there_first named_too).0, tt))
          (λ some_name. absurd (some_name refl))
          (λ j u ne no_other e some_name. k.linked j u e some_name);
      pooled = pool_stays s k owner_join s.words s.homes (λ r pooled. deal_fixed k.chain.owner other (Spare id) w.free second_rooms.own r Pooled pooled (λ j e. spare_pooled e refl)) (λ r pooled. refl) (λ r pooled. refl);
      all =
          let all = k.all in
          let none_back = ap (λ (l : List ℕ). length l) bare in
          let none_too = ap (λ (l : List ℕ). length l) bare_too in
          let quiet = ap begun_count rest in
          let quiet_too = ap begun_count rest_too in
          let long = length-append v.free w.free in
          omega (arith, tally_set (room_count {E = E}) s.views id v (view_absorbing v w) at, tally_set (room_count {E = E}) (set s.views id (view_absorbing v w)) other w view_absorbed there);
      spent = two_set (λ _ u. u.known.share ≡ [] → room_count u ≡ 0) s.views id other (view_absorbing v w) view_absorbed (λ e. absurd (joined_some v.known.share w.known.share named e)) (λ _. refl) (λ j u _ _ e. k.spent j u e);
      fits = fits_join actor knows s.views k.history id other v w (view_absorbing v w) view_absorbed at apart there refl refl k.fits;
      owned = joint_owned;
    };
    uses = refl;
    pool = refl;
    rooms = refl;
    calm = λ quiet. subst (λ l. IsQuiet l) (sym (events_relabel id other k.history)) quiet;
  }

-- ---- what a party learns that took another in
legal_after : {P E : Type 0} (us vs : List (Event P E)) → IsLegalReversed (us ++ vs) → IsLegalReversed vs
legal_after [] vs l = l
legal_after (x ∷ us) vs l = legal_after us vs l.1

pub legal_front : {E : Type 0} (xs ys : List (Event Name E)) → LegalReversed (xs ++ ys) → LegalReversed xs
legal_front xs ys l = legal_after (reverse ys) (reverse xs) (subst (λ z. IsLegalReversed z) (reverse-append xs ys) l)

module _ {E : Type 0} (s : TableState E) (k : PlainHolds s) (id : ℕ) (v : View E) (at : get_elem? s.views id ≡ some v) (named : v.known.share ≢ []) where
  pub forgot_kept : Stays s k record { words = s.words; homes = s.homes; views = set s.views id (view_without_told v) }
  forgot_kept = record {
    now = record {
      uses = k.uses;
      history = k.history;
      cell = k.cell;
      chain = k.chain;
      pool = k.pool;
      meets = subst (λ m. Meets m k.chain (reverse (events k.history))) unchanged k.meets;
      wide = k.wide;
      stub = k.stub;
      full = k.full;
      empty = one_set (λ _ u. u.known.share ≢ [] → EmptyAtHome s.homes u.free) s.views id (view_without_told v) (λ _. k.empty id v at named) (λ j u _ e some_name. k.empty j u e some_name);
      ready = λ j u r. one_set (λ _ z. z.known.share ≢ [] → z.stage ≡ Cleared r → k.cell r ≡ z.item) s.views id (view_without_told v) (λ _ is. k.ready id v r at named is) (λ i z _ e some_name is. k.ready i z r e some_name is) j u;
      linked = one_set (λ _ u. u.known.share ≢ [] → Links s.words u.free u.end × Links s.words u.back u.to) s.views id (view_without_told v) (λ _. k.linked id v at named) (λ j u _ e some_name. k.linked j u e some_name);
      pooled = k.pooled;
      all = let all = k.all in let same = count_same s.views id v (view_without_told v) at refl in omega arith;
      spent = spent_else s k id (view_without_told v) named;
      fits = fits_forgot actor knows s.views k.history id v (view_without_told v) at refl refl refl k.fits;
      owned = owned_same knows s.views k.history id v (view_without_told v) at refl k.owned;
    };
    uses = refl;
    pool = refl;
    rooms = refl;
    calm = λ quiet. quiet;
  }
    where
      unchanged : machine_of k.cell s.words s.views ≡ machine_of k.cell s.words (set s.views id (view_without_told v))
      unchanged = party_spelled s.words k.cell (set s.views id (view_without_told v)) (sym (put_again (core s k).party id (party v) (party_at s k id v at named)) ∙ sym (parties_put s.views id (view_without_told v) (at_length s.views id v at) named))
