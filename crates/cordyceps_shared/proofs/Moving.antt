-- What parties put in and took out, and what both did where one gave rooms to the other and took it in again.
use Rattle.std.proofs.Common.{◌≡◌, ℕ, List, [], ◌++◌, Bool, true, false, flat_map, refl, sym, ap, ◌∙◌, subst, append-nil}
use Rattle.std.proofs.lemmas.List.Concat.{flat_map-append}
use Rattle.atomic_table.specs.Seated.{TableId}
use Rattle.cordyceps_shared.specs.Acting.{Moves}
use Rattle.cordyceps_shared.specs.Histories.{plain, AllOwn}
use Rattle.cordyceps_shared.specs.Interleaving.{Interleaves}
use Rattle.cordyceps_shared.specs.Shares.{Name, whole, IsShare}
use Rattle.cordyceps_shared.specs.Standings.{Standing, new_party, keeping, giving, Adds, Absorbs, GivesBack}
use Rattle.cordyceps_shared.proofs.Acting.{acts_of, acts_none, acts_then, acts_alone, acts_both}
use Rattle.cordyceps_shared.proofs.Ordering.{whole_share}
use Rattle.cordyceps_shared.proofs.Interleaving.{interleaves_same, interleaves_flat_map}

module _ {X A : Type 0} (puts takes : X → List A) where
  -- ---- calls in turn
  pub moves_none : (u : Standing X) → Moves puts takes [] [] u u
  moves_none u = record { events = []; acts = acts_none u; put_in = refl; took_out = refl }

  pub moves_then : (s g t h : List A) (u v w : Standing X) → Moves puts takes s g u v → Moves puts takes t h v w → Moves puts takes (s ++ t) (g ++ h) u w
  moves_then s g t h u v w a b = record {
    events = a.events ++ b.events;
    acts = acts_then u v w a.events b.events a.acts b.acts;
    put_in = flat_map-append puts a.events b.events ∙ (λ i. a.put_in i ++ b.put_in i);
    took_out = flat_map-append takes a.events b.events ∙ (λ i. a.took_out i ++ b.took_out i);
  }

  -- a party that gives rooms to the pool moves nothing
  pub moves_given : (n : ℕ) (gave : Bool) (u w : Standing X) → GivesBack n gave u w → Moves puts takes [] [] u w
  moves_given n true u w g = subst (λ (z : Standing X). Moves puts takes [] [] u z) (sym g) record {
    events = [];
    acts = record { rest = []; is = sym (append-nil u.seen); adds = refl; table = refl; share = refl };
    put_in = refl;
    took_out = refl;
  }
  moves_given n false u w g = subst (λ (z : Standing X). Moves puts takes [] [] u z) (sym g) (moves_none u)

module _ {X A : Type 0} (puts takes : X → List A) (Legal : List X → Type 0) where
  -- a call that added these events
  pub moves_by : (actor : X → Name) (u w : Standing X) (es : List X) → Adds actor Legal u es w → Moves puts takes (flat_map puts es) (flat_map takes es) u w
  moves_by actor u w es a = record { events = es; acts = acts_of actor Legal u w es a; put_in = refl; took_out = refl }

  -- ---- a party gave n rooms to another, each moved what it did, and the party took the other in: what was put in, and what was
  -- taken out, is an interleaving of what both did
  pub moves_both : (n : ℕ) (u v o w : Standing X) (s g t h : List A) → IsShare u.share → Moves puts takes s g (keeping n u) v
      → Moves puts takes t h (giving n u) o → Absorbs Legal v o w
      → (sent got : List A) × Interleaves s t sent × Interleaves g h got × Moves puts takes sent got u w
  moves_both n u v o w s g t h share a b m =
      let all = acts_both Legal n u v o w a.events b.events share a.acts b.acts m in
      let sent = flat_map puts all.0 in
      let got = flat_map takes all.0 in
      let put_in : Interleaves s t sent = interleaves_same (flat_map puts a.events) s (flat_map puts b.events) t sent sent a.put_in b.put_in refl
      (interleaves_flat_map puts a.events b.events all.0 all.1) in
      let took_out : Interleaves g h got = interleaves_same (flat_map takes a.events) g (flat_map takes b.events) h got got a.took_out b.took_out refl
      (interleaves_flat_map takes a.events b.events all.0 all.1) in (
        sent,
        got,
        put_in,
        took_out,
        record {
          events = all.0;
          acts = all.2;
          put_in = refl;
          took_out = refl;
        },
      )

  -- ---- nothing is lost: held says what a history holds
  module _ (held : List X → List A) (kept : (h : List X) → Legal h → flat_map takes h ++ held h ≡ flat_map puts h) where
    -- what the party of a new collection put in, if every event is its own, is what it took out and then what is held
    pub moves_whole : (u w : Standing X) (sent got : List A) → u.seen ≡ [] → Moves puts takes sent got u w → Legal (plain w.seen) → AllOwn w.seen
        → sent ≡ got ++ held (plain w.seen)
    moves_whole u w sent got new a legal alone =
        let all = acts_alone u w a.events new a.acts alone in
        sym a.put_in ∙ (ap (flat_map puts) (sym all) ∙ (sym (kept (plain w.seen) legal) ∙ ap (λ z. z ++ held (plain w.seen)) (ap (flat_map takes) all ∙ a.took_out)))

    -- the party of a new collection gave n rooms to another, and took it in again: it is whole, and what both put in is what both
    -- took out and then what is held
    pub all_moved : (k n : ℕ) (id : TableId) (v o w : Standing X) (s g t h : List A) → Moves puts takes s g (keeping n (new_party id k)) v
        → Moves puts takes t h (giving n (new_party id k)) o → Absorbs Legal v o w
        → (w.share ≡ whole) × ((sent got : List A) × Interleaves s t sent × Interleaves g h got × (sent ≡ got ++ held (plain w.seen)))
    all_moved k n id v o w s g t h a b m =
        let both = moves_both n (new_party id k) v o w s g t h whole_share a b m in
        let is : w.share ≡ whole = both.4.acts.share in
        (is, (both.0, both.1, both.2, both.3, moves_whole (new_party id k) w both.0 both.1 refl both.4 m.legal (m.alone is)))
