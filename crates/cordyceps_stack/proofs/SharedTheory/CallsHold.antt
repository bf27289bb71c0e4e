-- What the calls of a shared transfer stack promise, from what their parts leave.
use Rattle.std.proofs.Common.{◌≡◌, ◌+◌, ◌<◌, ℕ, List, [], ◌∷◌, ◌++◌, map, reverse, length, replicate, Bool, refl, sym, ap, ◌∙◌, subst, arith, length-append, length-drop, true, false, None}
use Rattle.std.specs.Prelude.{IsTrue, Result, Ok, Err, MatchResult, is_ok}
use Rattle.atomic_table.specs.Seated.{TableId}
use Rattle.cordyceps_shared.specs.FreeChains.{Tracks, FreeChain}
use Rattle.cordyceps_shared.specs.Histories.{plain, AllOwn}
use Rattle.cordyceps_shared.specs.Knowing.{Known, IsPrefixOf, IsKnown}
use Rattle.cordyceps_shared.specs.Places.{ItemAt}
use Rattle.cordyceps_shared.specs.Slots.{Near}
use Rattle.cordyceps_shared.specs.Shares.{Name, whole, IsShare}
use Rattle.cordyceps_shared.specs.Standings.{name_of, new_party, Absorbs, GivesBack}
use Rattle.cordyceps_shared.proofs.Adding.{keeps_not_whole, not_whole, plain_unmarked, merged_prefix, whole_adds}
use Rattle.cordyceps_shared.proofs.Places.{near_drop, near_take, near_append}
use Rattle.cordyceps_shared.proofs.PartyNames.{joined_some, joined_disjoint, keeps_some, gives_some}
use Rattle.cordyceps_shared.proofs.Ordering.{whole_share, keeps_share, gives_share, joined_share}
use Rattle.cordyceps_stack.specs.Shared.Parts as parts
use Rattle.cordyceps_stack.specs.Shared.Plays as plays
use Rattle.cordyceps_stack.specs.Shared.Parts.{HasTried, HasPushed, HasPushedAll, HasBacked, HasMissed, TookAll, EmptiesHand, HasAbsorbed, standing, IsSeated}
use Rattle.cordyceps_shared.specs.declared.free.FreeRooms.{FreeRooms}
use Rattle.cordyceps_stack.specs.History.{Event, Load, Push, Taken, held, Legal, actor}
use Rattle.cordyceps_stack.specs.Cores.Stages.{room_elements}
use Rattle.cordyceps_stack.specs.Shared.Plays.{SeatState, Sees, IsResting, to_hand_out}
use Rattle.cordyceps_stack.specs.Shared.Parting.{view_keeping, view_giving, view_absorbing}
use Rattle.cordyceps_stack.specs.Shared.Rule.{IsTable}
use Rattle.cordyceps_stack.specs.Shared.Calls.{PartyOf, PushesAt, PushesAllAt, Misses, Takes, Looks, Refills, HasAllRooms, LacksRooms, Adds, EndsLooked, pushes_of}
use Rattle.cordyceps_stack.specs.Shared.View.{View, newcomer, name}
use Rattle.cordyceps_stack.specs.Shared.Order.{crosswise}
use Rattle.cordyceps_stack.proofs.SharedTheory.OrderHolds.{order_length, order_at, tracks_new}
use Rattle.cordyceps_stack.proofs.SharedTheory.PartsJoin.{not_overtaken}
use Rattle.cordyceps_stack.proofs.SharedTheory.WordsKeep.{length_elements}
use Rattle.cordyceps_stack.proofs.Histories.{legal_none}

module _ {E : Type 0} where
  pub new_seated : (z table : TableId) (rooms : ℕ) (m : SeatState E) (free : FreeRooms) → (z ≡ table) × IsTable table → table.slots ≡ rooms → m ≡ (newcomer rooms, []) → free ≡ record { first = rooms; last = 0; count = rooms } → IsSeated z m free
  new_seated z table rooms m free at wide is have = record {
    table = subst (λ q. IsTable q) (sym at.0) at.1;
    rests = record {
      idle = ap (λ (q : SeatState E). q.0.doing) is;
      empty = ap (λ (q : SeatState E). q.1) is;
      named = λ e. let no : whole ≡ [] = sym (ap (λ (q : SeatState E). q.0.known.share) is) ∙ e in absurd (cc);
      near = λ i r a. subst (λ n. r < n) (sym (ap (λ (q : TableId). q.slots) at.0 ∙ wide)) (order_at rooms rooms i r (omega arith) (subst (λ (q : SeatState E). ItemAt q.0.free.rooms i r) is a));
    };
    tracks = subst (λ (q : FreeRooms × SeatState E). Tracks q.0 q.1.0.free) (λ i. (sym have i, sym is i)) (tracks_new rooms);
    legal = subst (λ (q : SeatState E). Legal (plain q.0.known.seen)) (sym is) legal_none;
    alone = λ _. subst (λ (q : SeatState E). AllOwn q.0.known.seen) (sym is) tt;
    share = subst (λ (q : SeatState E). IsShare q.0.known.share) (sym is) whole_share;
  }

  pub new_standing : (z table : TableId) (rooms : ℕ) (m : SeatState E) → z ≡ table → m ≡ (newcomer rooms, []) → standing z m.0 ≡ new_party table rooms
  new_standing z table rooms m at is = (λ i. standing (at i) (is i).0) ∙ ap (λ n. let p : PartyOf E = new_party table n in p) (order_length (crosswise rooms) rooms)

  pub kept_seated : (z z' : TableId) (n : ℕ) (m k : SeatState E) (free left : FreeRooms) → IsSeated z m free → z' ≡ z → k ≡ (view_keeping n m.0, []) → Tracks left k.0.free → IsSeated z' k left
  kept_seated z z' n m k free left s at is have = record {
    table = subst (λ q. IsTable q) (sym at) s.table;
    rests = record {
      idle = ap (λ (q : SeatState E). q.0.doing) is ∙ s.rests.idle;
      empty = ap (λ (q : SeatState E). q.1) is;
      named = λ e. keeps_some m.0.known.share s.rests.named (sym (ap (λ (q : SeatState E). q.0.known.share) is) ∙ e);
      near = subst (λ (q : TableId × SeatState E). Near q.0.slots q.1.0.free.rooms) (λ i. (sym at i, sym is i)) (near_drop z.slots n m.0.free.rooms s.rests.near);
    };
    tracks = have;
    legal = subst (λ (q : SeatState E). Legal (plain q.0.known.seen)) (sym is) s.legal;
    alone = λ e. absurd (keeps_not_whole m.0.known.share (sym (ap (λ (q : SeatState E). q.0.known.share) is) ∙ e));
    share = subst (λ (q : SeatState E). IsShare q.0.known.share) (sym is) (keeps_share m.0.known.share s.share);
  }

  pub given_seated : (z z' : TableId) (n : ℕ) (m k : SeatState E) (free some_of : FreeRooms) → IsSeated z m free → z' ≡ z → k ≡ (view_giving n m.0, []) → Tracks some_of k.0.free → IsSeated z' k some_of
  given_seated z z' n m k free some_of s at is have = record {
    table = subst (λ q. IsTable q) (sym at) s.table;
    rests = record {
      idle = ap (λ (q : SeatState E). q.0.doing) is;
      empty = ap (λ (q : SeatState E). q.1) is;
      named = λ e. gives_some m.0.known.share s.rests.named (sym (ap (λ (q : SeatState E). q.0.known.share) is) ∙ e);
      near = subst (λ (q : TableId × SeatState E). Near q.0.slots q.1.0.free.rooms) (λ i. (sym at i, sym is i)) (near_take z.slots n m.0.free.rooms s.rests.near);
    };
    tracks = have;
    legal = subst (λ (q : SeatState E). Legal (plain q.0.known.seen)) (sym is) (subst (λ h. Legal h) (sym (plain_unmarked m.0.known.seen)) s.legal);
    alone = λ e. absurd (not_whole m.0.known.share (sym (ap (λ (q : SeatState E). q.0.known.share) is) ∙ e));
    share = subst (λ (q : SeatState E). IsShare q.0.known.share) (sym is) (gives_share m.0.known.share s.share);
  }

  pub absorbed_seated : (z y z' : TableId) (m o k : SeatState E) (mine theirs all : FreeRooms) → IsSeated z m mine → IsSeated y o theirs → y ≡ z → z' ≡ z → HasAbsorbed m o k → IsKnown (λ h. Legal h) (view_absorbing m.0 o.0).known → Tracks all k.0.free → IsSeated z' k all
  absorbed_seated z y z' m o k mine theirs all s other beside at is known have = record {
    table = subst (λ q. IsTable q) (sym at) s.table;
    rests = record {
      idle = is.doing;
      empty = is.hand;
      named = λ e. joined_some m.0.known.share o.0.known.share s.rests.named (sym (ap (λ (q : Known (Event Name E)). q.share) is.known) ∙ e);
      near = subst (λ (q : TableId × List ℕ). Near q.0.slots q.1) (λ i. (sym at i, sym is.rooms i))
          (near_append z.slots m.0.free.rooms o.0.free.rooms s.rests.near (subst (λ (q : TableId). Near q.slots o.0.free.rooms) beside other.rests.near));
    };
    tracks = have;
    legal = subst (λ (q : Known (Event Name E)). Legal (plain q.seen)) (sym is.known) known.legal;
    alone = λ e. subst (λ (q : Known (Event Name E)). AllOwn q.seen) (sym is.known) (known.alone (sym (ap (λ (q : Known (Event Name E)). q.share) is.known) ∙ e));
    share = subst (λ (q : Known (Event Name E)). IsShare q.share) (sym is.known)
        (joined_share m.0.known.share o.0.known.share (joined_disjoint known.long m.0.known.share o.0.known.share known.once) s.share other.share);
  }

  pub absorbs : (z y z' : TableId) (m o k : SeatState E) → z' ≡ z → HasAbsorbed m o k → IsKnown (λ h. Legal h) (view_absorbing m.0 o.0).known → Absorbs (λ h. Legal h) (standing z m.0) (standing y o.0) (standing z' k.0)
  absorbs z y z' m o k at is known = record {
    table = at;
    seen = ap (λ (q : Known (Event Name E)). q.seen) is.known;
    apart = known.apart;
    names = joined_disjoint known.long m.0.known.share o.0.known.share known.once;
    mine = subst (λ (q : Known (Event Name E)). IsPrefixOf (plain m.0.known.seen) (plain q.seen)) (sym is.known) (merged_prefix m.0.known.seen o.0.known.seen);
    theirs = subst (λ (q : Known (Event Name E)). IsPrefixOf (plain o.0.known.seen) (plain q.seen)) (sym is.known) known.told;
    legal = subst (λ (q : Known (Event Name E)). Legal (plain q.seen)) (sym is.known) known.legal;
    alone = λ e. subst (λ (q : Known (Event Name E)). AllOwn q.seen) (sym is.known) (known.alone (sym (ap (λ (q : Known (Event Name E)). q.share) is.known) ∙ e));
    share = ap (λ (q : Known (Event Name E)). q.share) is.known;
    rooms = ap (λ (l : List ℕ). length l) is.rooms ∙ length-append m.0.free.rooms o.0.free.rooms;
  }

  pub refilled_seated : (z z' : TableId) (m k : SeatState E) (free all : FreeRooms) → IsSeated z m free → z' ≡ z → IsResting z.slots k → Sees m.0 [] k.0 → Tracks all k.0.free → IsSeated z' k all
  refilled_seated z z' m k free all s at rests sees have = record {
    table = subst (λ q. IsTable q) (sym at) s.table;
    rests = subst (λ (q : TableId). IsResting q.slots k) (sym at) rests;
    tracks = have;
    legal = sees.legal;
    alone = sees.alone;
    share = subst IsShare (sym sees.share) s.share;
  }

  pub gave_seated : (z z' : TableId) (n : ℕ) (gave : Bool) (m k : SeatState E) (free left : FreeRooms) → IsSeated z m free → z' ≡ z → parts.GivesBack n gave m k → Tracks left k.0.free → IsSeated z' k left
  gave_seated z z' n true m k free left s at is have = record {
    table = subst (λ q. IsTable q) (sym at) s.table;
    rests = record {
      idle = ap (λ (q : SeatState E). q.0.doing) is ∙ s.rests.idle;
      empty = ap (λ (q : SeatState E). q.1) is ∙ s.rests.empty;
      named = λ e. s.rests.named (sym (ap (λ (q : SeatState E). q.0.known.share) is) ∙ e);
      near = subst (λ (q : TableId × SeatState E). Near q.0.slots q.1.0.free.rooms) (λ i. (sym at i, sym is i)) (near_drop z.slots n m.0.free.rooms s.rests.near);
    };
    tracks = have;
    legal = subst (λ (q : SeatState E). Legal (plain q.0.known.seen)) (sym is) s.legal;
    alone = λ e. subst (λ (q : SeatState E). AllOwn q.0.known.seen) (sym is) (s.alone (sym (ap (λ (q : SeatState E). q.0.known.share) is) ∙ e));
    share = subst (λ (q : SeatState E). IsShare q.0.known.share) (sym is) s.share;
  }
  gave_seated z z' n false m k free left s at is have = record {
    table = subst (λ q. IsTable q) (sym at) s.table;
    rests = subst (λ (q : TableId × SeatState E). IsResting q.0.slots q.1) (λ i. (sym at i, sym is i)) s.rests;
    tracks = have;
    legal = subst (λ (q : SeatState E). Legal (plain q.0.known.seen)) (sym is) s.legal;
    alone = λ e. subst (λ (q : SeatState E). AllOwn q.0.known.seen) (sym is) (s.alone (sym (ap (λ (q : SeatState E). q.0.known.share) is) ∙ e));
    share = subst (λ (q : SeatState E). IsShare q.0.known.share) (sym is) s.share;
  }

  -- ---- what a call added
  pub adds : (z z' : TableId) (v w : View E) (es : List (Event Name E)) → Sees v es w → z' ≡ z → Adds (standing z v) es (standing z' w)
  adds z z' v w es g at = (record { rest = g.rest; is = g.is; adds = g.adds; foreign = g.foreign; legal = g.legal; share = g.share; alone = g.alone }, at)

  pub pushes_at : (z z' : TableId) (tries : ℕ) (x : E) (first : Bool) (m k : SeatState E) → HasPushed tries x first m k → z' ≡ z → PushesAt tries x first (standing z m.0) (standing z' k.0)
  pushes_at z z' tries x first m k h at = (adds z z' m.0 k.0 (replicate tries (Load (name m.0)) ++ Push (name m.0) x ∷ []) h.sees at, h.ends, h.free)

  pub pushes_all_at : (z z' : TableId) (tries : ℕ) (es : List E) (first : Bool) (m k : SeatState E) → HasPushedAll tries es first m k → z' ≡ z → PushesAllAt tries es first (standing z m.0) (standing z' k.0)
  pushes_all_at z z' tries es first m k h at = (adds z z' m.0 k.0 (replicate tries (Load (name m.0)) ++ pushes_of (name m.0) es) h.sees at, h.ends, h.free)

  pub misses_once : (z z' : TableId) (m k : SeatState E) → HasMissed m k → z' ≡ z → Misses (standing z m.0) (standing z' k.0)
  misses_once z z' m k h at = (adds z z' m.0 k.0 (Load (name m.0) ∷ []) h.sees at, h.overtaken, ap (λ (ys : FreeChain). length ys.rooms) h.free)

  pub looks_once : (z z' : TableId) (none : Bool) (m k : SeatState E) → Sees m.0 (Load (name m.0) ∷ []) k.0 → EndsLooked (IsTrue none) (name m.0) k.0.known.seen → k.0.free ≡ m.0.free → z' ≡ z → Looks none (standing z m.0) (standing z' k.0)
  looks_once z z' none m k g ends free at = (adds z z' m.0 k.0 (Load (name m.0) ∷ []) g at, ends, ap (λ (ys : FreeChain). length ys.rooms) free)

  pub takes : (z z' : TableId) (slots found : ℕ) (m mid k : SeatState E) → TookAll slots found m mid → EmptiesHand slots mid k → z' ≡ z → Takes (room_elements (to_hand_out mid.0.doing)) (standing z m.0) (standing z' k.0)
  takes z z' slots found m mid k t h at =
      let g = t.sees in (
        (
          record {
            rest = g.rest;
            is = ap (λ (q : Known (Event Name E)). q.seen) h.known ∙ g.is;
            adds = g.adds;
            foreign = g.foreign;
            legal = subst (λ (q : Known (Event Name E)). Legal (plain q.seen)) (sym h.known) g.legal;
            share = ap (λ (q : Known (Event Name E)). q.share) h.known ∙ g.share;
            alone = λ e. subst (λ (q : Known (Event Name E)). AllOwn q.seen) (sym h.known) (g.alone (sym (ap (λ (q : Known (Event Name E)). q.share) h.known) ∙ e));
          },
          at,
        ),
        h.free ∙ ((λ i. length (t.free i).rooms + length (to_hand_out mid.0.doing)) ∙ ap (λ n. length m.0.free.rooms + n) (sym (length_elements (to_hand_out mid.0.doing)))),
      )

  pub refills : (z z' : TableId) (n : ℕ) (m k : SeatState E) → length k.0.free.rooms ≡ length m.0.free.rooms + n → Sees m.0 [] k.0 → z' ≡ z → Refills n (standing z m.0) (standing z' k.0)
  refills z z' n m k free sees at = (adds z z' m.0 k.0 [] sees at, free)

  pub has_all : (z z' : TableId) (k : SeatState E) → z' ≡ z → length (held (plain k.0.known.seen)) + length k.0.free.rooms ≡ z.slots → HasAllRooms (standing z' k.0)
  has_all z z' k at all = let slots = ap (λ (q : TableId). q.slots) at in omega arith

  pub gives_back : (z z' : TableId) (n : ℕ) (gave : Bool) (m k : SeatState E) → parts.GivesBack n gave m k → z' ≡ z → GivesBack n gave (standing z m.0) (standing z' k.0)
  gives_back z z' n true m k is at = (λ i. standing (at i) (is i).0) ∙ ap (λ c. let p : PartyOf E = record { table = z; seen = m.0.known.seen; share = m.0.known.share; rooms = c } in p) (length-drop n m.0.free.rooms)
  gives_back z z' n false m k is at = (λ i. standing (at i) (is i).0)

  pub lacks_rooms : (z z' t : TableId) (n : ℕ) (b : Bool) (m k : SeatState E) → z' ≡ z → z ≡ t → parts.GivesBack n b m k → b ≡ false → plays.LacksRooms t.slots m → m.0.known.share ≡ whole → LacksRooms (standing z' k.0)
  lacks_rooms z z' t n b m k at there g not lacks is =
      let same = subst (λ c. parts.GivesBack n c m k) not g in
      let less = lacks is in
      let slots = ap (λ (q : TableId). q.slots) (at ∙ there) in
      let rooms = ap (λ (q : SeatState E). length q.0.free.rooms) same in
      let seen = ap (λ (q : SeatState E). length (held (plain q.0.known.seen))) same in
      omega arith

  -- a whole party's exchange does not fail
  pub whole_hits : (m k : SeatState E) → HasMissed m k → m.0.known.share ≡ whole → ⊥
  whole_hits m k h is = not_overtaken k.0.known.seen (h.sees.alone (h.sees.share ∙ is)) h.overtaken

  pub whole_tries : (slots room next : ℕ) (x : E) (m f : SeatState E) → HasTried slots room x next None m f → m.0.known.share ≡ whole → ⊥
  whole_tries slots room next x m f tried is = let missed = tried.answer in not_overtaken f.0.known.seen (missed.sees.alone (missed.sees.share ∙ is)) missed.overtaken

  -- a whole party takes exactly what its history holds
  pub takes_held : (u w : PartyOf E) (batch : List E) → u.share ≡ whole → Takes batch u w → batch ≡ reverse (held (plain u.seen))
  takes_held u w batch is t = t.0.0.legal (plain u.seen) [] (name_of u) batch (whole_adds actor (λ h. Legal h) u w (Taken (name_of u) batch ∷ []) is t.0)

  -- ---- a try to push
  pub tries_once : (z z' : TableId) (r : Result Bool E) (x : E) (m k : SeatState E) → MatchResult r (λ first. HasPushed 1 x first m k) (λ back. (back ≡ x) × HasMissed m k) → z' ≡ z
      → MatchResult r (λ first. PushesAt 1 x first (standing z m.0) (standing z' k.0)) (λ back. (back ≡ x) × Misses (standing z m.0) (standing z' k.0))
  tries_once z z' (Ok first) x m k t at = pushes_at z z' 1 x first m k t at
  tries_once z z' (Err back) x m k t at = (t.0, misses_once z z' m k t.1 at)

  -- ---- a try to push all
  pub tries_all : {A : Type 0} (el : E → A) (els : List A) (z z' : TableId) (r : Result Bool (List A)) (m k : SeatState E)
      → MatchResult r (λ first. (pushed : List E) × (els ≡ map el pushed) × HasPushedAll 1 pushed first m k) (λ back. (back ≡ els) × HasBacked m k) → z' ≡ z
      → MatchResult r (λ first. (pushed : List E) × (els ≡ map el pushed) × PushesAllAt 1 pushed first (standing z m.0) (standing z' k.0)) (λ back. (back ≡ els) × Misses (standing z m.0) (standing z' k.0))
  tries_all el els z z' (Ok first) m k t at = let (pushed, all, has) = t in (pushed, all, pushes_all_at z z' 1 pushed first m k has at)
  tries_all el els z z' (Err back) m k t at = let h = t.1 in (t.0, (adds z z' m.0 k.0 (Load (name m.0) ∷ []) h.sees at, h.overtaken, h.free))

  pub whole_pushes_all : {A : Type 0} (el : E → A) (els : List A) (r : Result Bool (List A)) (m k : SeatState E)
      → MatchResult r (λ first. (pushed : List E) × (els ≡ map el pushed) × HasPushedAll 1 pushed first m k) (λ back. (back ≡ els) × HasBacked m k) → m.0.known.share ≡ whole → is_ok r ≡ true
  whole_pushes_all el els (Ok first) m k t is = refl
  whole_pushes_all el els (Err back) m k t is = let h = t.1 in absurd (not_overtaken k.0.known.seen (h.sees.alone (h.sees.share ∙ is)) h.overtaken)

  pub whole_pushes : (r : Result Bool E) (x : E) (m k : SeatState E) → MatchResult r (λ first. HasPushed 1 x first m k) (λ back. (back ≡ x) × HasMissed m k) → m.0.known.share ≡ whole → is_ok r ≡ true
  whole_pushes (Ok first) x m k t is = refl
  whole_pushes (Err back) x m k t is = absurd (whole_hits m k t.1 is)
