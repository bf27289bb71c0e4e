-- What a party of a shared queue is when it is new, split off, or has taken another in.
use Rattle.std.proofs.Common.{◌≡◌, ◌≢◌, Some, ℕ, zero, suc, ◌+◌, List, [], ◌∷◌, ◌++◌, length, refl, sym, ap, ◌∙◌, subst, arith, length-append, add-one}
use Rattle.atomic_table.specs.Seated.{TableId}
use Rattle.cordyceps_shared.specs.Slots.{Near}
use Rattle.cordyceps_shared.specs.Histories.{plain, AllOwn}
use Rattle.cordyceps_shared.specs.Knowing.{Known, IsPrefixOf, IsKnown}
use Rattle.cordyceps_shared.specs.Shares.{Name, IsShare}
use Rattle.cordyceps_shared.specs.Standings.{new_party, Absorbs}
use Rattle.cordyceps_shared.proofs.Choices.{first_or, rest_from}
use Rattle.cordyceps_shared.proofs.Adding.{keeps_not_whole, not_whole, plain_unmarked, merged_prefix}
use Rattle.cordyceps_shared.proofs.PartyNames.{joined_some, joined_disjoint, keeps_some, gives_some}
use Rattle.cordyceps_shared.proofs.Ordering.{whole_share, keeps_share, gives_share, joined_share}
use Rattle.cordyceps_shared.proofs.EventCounts.{of_kept, of_given}
use Rattle.cordyceps_queue.specs.Shared.Parts.{standing, IsSeated, HasAbsorbed, TracksEnd}
use Rattle.cordyceps_queue.specs.declared.shared.spare.Spare.{Spare}
use Rattle.cordyceps_queue.specs.Shared.Parting.{view_keeping, view_giving, view_absorbing}
use Rattle.cordyceps_queue.specs.Shared.Plays.{SeatState, IsResting}
use Rattle.cordyceps_queue.specs.Shared.Plays as seen
use Rattle.cordyceps_queue.specs.Shared.Rule.{IsTable}
use Rattle.cordyceps_queue.specs.Shared.Calls.{same_name, capacity, Legal, NonePending, NoneHolds}
use Rattle.cordyceps_queue.specs.History.{Event, holder, IsPending}
use Rattle.cordyceps_queue.specs.Shared.View.{View, newcomer, down_from, free_chain}
use Rattle.cordyceps_queue.proofs.Legality.{told_legal}
use Rattle.cordyceps_shared.proofs.Places.{near_drop, near_take, near_append}
use Rattle.cordyceps_queue.proofs.SharedTheory.PartingKeeps.{at_down_from, length_down_from}

-- ---- a new party
down_first : (n r : ℕ) (rs : List ℕ) → down_from n ≡ r ∷ rs → n + 1 ≡ suc r
down_first zero r rs e = absurd (cc)
down_first (suc n) r rs e = add-one (suc n) ∙ ap (λ l. suc (first_or 0 l)) e

down_last : (n : ℕ) (before : List ℕ) (r : ℕ) → down_from n ≡ before ++ r ∷ [] → 1 ≡ r
down_last zero [] r e = absurd (cc)
down_last zero (b ∷ before) r e = absurd (cc)
down_last (suc zero) [] r e = ap (first_or 0) e
down_last (suc (suc n)) [] r e = absurd (cc)
down_last (suc n) (b ∷ before) r e = down_last n before r (ap rest_from e)

near_down_from : (slots rooms : ℕ) → slots ≡ rooms + 1 → Near slots (down_from rooms)
near_down_from slots rooms is i r a = let t = at_down_from rooms i r a in let e = t.0 in omega arith

pub capacity_is : (z : TableId) (rooms : ℕ) → z.slots ≡ rooms + 1 → capacity z ≡ rooms
capacity_is z rooms wide = omega arith

tracks_new : (n : ℕ) → TracksEnd record { rooms = record { first = n + 1; last = 1; count = n }; end = 1 } record { rooms = down_from n; end = 1 }
tracks_new n = record { tracks = record { count = sym (length_down_from n); first = down_first n; last = down_last n }; end = λ _. refl }

module _ {E : Type 0} where
  new_rests : (slots rooms : ℕ) → slots ≡ rooms + 1 → let first : View E = newcomer rooms in IsResting slots (first, [])
  new_rests slots rooms is = record {
    stage = refl;
    back = refl;
    hand = refl;
    named = λ e. absurd (cc);
    near = near_down_from slots rooms is;
  }

  pub new_seated : (z table : TableId) (rooms : ℕ) (m : SeatState E) (spare : Spare) → z ≡ table → IsTable table → table.slots ≡ rooms + 1 → m ≡ (newcomer rooms, []) → spare ≡ record { rooms = record { first = rooms + 1; last = 1; count = rooms }; end = 1 } → IsSeated z m spare
  new_seated z table rooms m spare at is wide new have = subst (λ (q : TableId × SeatState E). IsSeated q.0 q.1 spare) (λ i. (sym at i, sym new i)) record {
    table = is;
    rests = new_rests table.slots rooms wide;
    tracks = subst (λ q. TracksEnd q record { rooms = down_from rooms; end = 1 }) (sym have) (tracks_new rooms);
    legal = told_legal same_name [] tt;
    alone = λ _. tt;
    share = whole_share;
    linked = λ q of p. cc;
    unheld = λ q of e. cc;
  }

  pub new_standing : (z table : TableId) (rooms : ℕ) (m : SeatState E) → z ≡ table → m ≡ (newcomer rooms, []) → standing z m.0 ≡ new_party table rooms
  new_standing z table rooms m at is = (λ i. standing (at i) (is i).0) ∙ ap (λ n. new_party table n) (length_down_from rooms)

  -- ---- a party that was split
  pub kept_seated : (z z' : TableId) (n : ℕ) (m k : SeatState E) (spare left : Spare) → IsSeated z m spare → z' ≡ z → k ≡ (view_keeping n m.0, []) → TracksEnd left (free_chain k.0) → IsSeated z' k left
  kept_seated z z' n m k spare left s at is have = subst (λ (q : TableId × SeatState E). IsSeated q.0 q.1 left) (λ i. (sym at i, sym is i)) record {
    table = s.table;
    rests = record {
      stage = s.rests.stage;
      back = s.rests.back;
      hand = refl;
      named = keeps_some m.0.known.share s.rests.named;
      near = near_drop z.slots n m.0.free s.rests.near;
    };
    tracks = subst (λ (q : SeatState E). TracksEnd left (free_chain q.0)) is have;
    legal = s.legal;
    alone = λ e. absurd (keeps_not_whole m.0.known.share e);
    share = keeps_share m.0.known.share s.share;
    linked = λ q of. s.linked q (of_kept m.0.known.share q of);
    unheld = λ q of. s.unheld q (of_kept m.0.known.share q of);
  }

  pub given_seated : (z z' : TableId) (n : ℕ) (m k : SeatState E) (spare some_of : Spare) → IsSeated z m spare → z' ≡ z → k ≡ (view_giving n m.0, []) → TracksEnd some_of (free_chain k.0) → IsSeated z' k some_of
  given_seated z z' n m k spare some_of s at is have = subst (λ (q : TableId × SeatState E). IsSeated q.0 q.1 some_of) (λ i. (sym at i, sym is i)) record {
    table = s.table;
    rests = record {
      stage = refl;
      back = refl;
      hand = refl;
      named = gives_some m.0.known.share s.rests.named;
      near = near_take z.slots n m.0.free s.rests.near;
    };
    tracks = subst (λ (q : SeatState E). TracksEnd some_of (free_chain q.0)) is have;
    legal = subst (λ h. Legal h) (sym (plain_unmarked m.0.known.seen)) s.legal;
    alone = λ e. absurd (not_whole m.0.known.share e);
    share = gives_share m.0.known.share s.share;
    linked = λ q of. subst (λ h. IsPending same_name q h → ⊥) (sym (plain_unmarked m.0.known.seen)) (s.linked q (of_given m.0.known.share q of));
    unheld = λ q of. subst (λ h. holder h ≢ Some q) (sym (plain_unmarked m.0.known.seen)) (s.unheld q (of_given m.0.known.share q of));
  }

  -- ---- a party that took another in
  pub absorbed_seated : (z y z' : TableId) (m o k : SeatState E) (mine theirs all : Spare) → IsSeated z m mine → IsSeated y o theirs → y ≡ z → z' ≡ z → HasAbsorbed m o k
      → IsKnown (λ h. seen.LegalReversed h) (view_absorbing m.0 o.0).known → NonePending (view_absorbing m.0 o.0).known.share (plain (view_absorbing m.0 o.0).known.seen) → NoneHolds (view_absorbing m.0 o.0).known.share (plain (view_absorbing m.0 o.0).known.seen) → TracksEnd all (free_chain k.0) → IsSeated z' k all
  absorbed_seated z y z' m o k mine theirs all s other same at is known linked unheld have =
      let now = view_absorbing m.0 o.0 in
      let back = sym is.known in record {
        table = subst (λ q. IsTable q) (sym at) s.table;
        rests = record {
          stage = is.stage;
          back = is.back;
          hand = is.hand;
          named = λ e.
              let named = sym (ap (λ (q : Known (Event Name E)). q.share) is.known) ∙ e in
              joined_some m.0.known.share o.0.known.share s.rests.named named;
          near =
              let theirs = subst (λ (q : TableId). Near q.slots o.0.free) same other.rests.near in
              let both = near_append z.slots m.0.free o.0.free s.rests.near theirs in
              subst (λ (q : TableId × List ℕ). Near q.0.slots q.1) (λ i. (sym at i, sym is.free i)) both;
        };
        tracks = have;
        legal = subst (λ (q : Known (Event Name E)). Legal (plain q.seen)) back (told_legal same_name (plain now.known.seen) known.legal);
        alone = λ e. subst (λ (q : Known (Event Name E)). AllOwn q.seen) back (known.alone (sym (ap (λ (q : Known (Event Name E)). q.share) is.known) ∙ e));
        share = subst (λ (q : Known (Event Name E)). IsShare q.share) back (joined_share m.0.known.share o.0.known.share (joined_disjoint known.long m.0.known.share o.0.known.share known.once) s.share other.share);
        linked = subst (λ (q : Known (Event Name E)). NonePending q.share (plain q.seen)) back linked;
        unheld = subst (λ (q : Known (Event Name E)). NoneHolds q.share (plain q.seen)) back unheld;
      }

  pub absorbs : (z y z' : TableId) (m o k : SeatState E) → m.0.back ≡ [] → o.0.back ≡ [] → z' ≡ z → HasAbsorbed m o k → IsKnown (λ h. seen.LegalReversed h) (view_absorbing m.0 o.0).known → Absorbs (λ h. Legal h) (standing z m.0) (standing y o.0) (standing z' k.0)
  absorbs z y z' m o k bare bare_too at is known =
      let now = view_absorbing m.0 o.0 in
      let back = sym is.known in record {
        table = at;
        seen = ap (λ (q : Known (Event Name E)). q.seen) is.known;
        apart = known.apart;
        names = joined_disjoint known.long m.0.known.share o.0.known.share known.once;
        mine = subst (λ (q : Known (Event Name E)). IsPrefixOf (plain m.0.known.seen) (plain q.seen)) back (merged_prefix m.0.known.seen o.0.known.seen);
        theirs = subst (λ (q : Known (Event Name E)). IsPrefixOf (plain o.0.known.seen) (plain q.seen)) back known.told;
        legal = subst (λ (q : Known (Event Name E)). Legal (plain q.seen)) back (told_legal same_name (plain now.known.seen) known.legal);
        alone = λ e. subst (λ (q : Known (Event Name E)). AllOwn q.seen) back (known.alone (sym (ap (λ (q : Known (Event Name E)). q.share) is.known) ∙ e));
        share = ap (λ (q : Known (Event Name E)). q.share) is.known;
        rooms = (λ i. length (is.back i ++ is.free i)) ∙ (length-append m.0.free o.0.free ∙ (λ i. length (sym bare i ++ m.0.free) + length (sym bare_too i ++ o.0.free)));
      }
