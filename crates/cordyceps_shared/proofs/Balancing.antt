-- The rooms of parties over several calls: what elements took and gave, what came from the pool and what went there.
use Rattle.std.proofs.Common.{◌≡◌, ℕ, ◌+◌, ◌≤◌, List, [], ◌++◌, Bool, true, false, flat_map, length, refl, ap, arith, length-append}
use Rattle.atomic_table.specs.Seated.{TableId}
use Rattle.cordyceps_shared.specs.Acting.{Balances}
use Rattle.cordyceps_shared.specs.Histories.{plain, AllOwn}
use Rattle.cordyceps_shared.specs.Interleaving.{Interleaves}
use Rattle.cordyceps_shared.specs.Shares.{Name, IsShare}
use Rattle.cordyceps_shared.specs.Standings.{Standing, new_party, keeping, giving, Adds, Absorbs, GivesBack}
use Rattle.cordyceps_shared.proofs.Interleaving.{length_interleaved}
use Rattle.cordyceps_shared.proofs.Moving.{moves_none, moves_then, moves_given, moves_by, moves_both, moves_whole}

-- how many rooms the pool got where it took n or none
abbrev pub rooms_given : ℕ → Bool → ℕ
rooms_given n true = n
rooms_given n false = 0

module _ {X A : Type 0} (puts takes : X → List A) where
  -- ---- calls in turn
  pub balances_none : (u : Standing X) → Balances puts takes [] [] 0 0 u u
  balances_none u = record { moves = moves_none puts takes u; rooms = refl }

  pub balances_then : (s g t h : List A) (d r e q : ℕ) (u v w : Standing X) → Balances puts takes s g d r u v → Balances puts takes t h e q v w
      → Balances puts takes (s ++ t) (g ++ h) (d + e) (r + q) u w
  balances_then s g t h d r e q u v w a b = record {
    moves = moves_then puts takes s g t h u v w a.moves b.moves;
    rooms = omega (arith, a.rooms, b.rooms, length-append s t, length-append g h);
  }

  -- a party that gives rooms to the pool
  pub balances_given : (n : ℕ) (gave : Bool) (u w : Standing X) → n ≤ u.rooms → GivesBack n gave u w → Balances puts takes [] [] 0 (rooms_given n gave) u w
  balances_given n true u w room g = record { moves = moves_given puts takes n true u w g; rooms = let left = ap (λ (z : Standing X). z.rooms) g in omega (arith, room, left) }
  balances_given n false u w room g = record { moves = moves_given puts takes n false u w g; rooms = let left = ap (λ (z : Standing X). z.rooms) g in omega (arith, left) }

module _ {X A : Type 0} (puts takes : X → List A) (Legal : List X → Type 0) where
  -- a call that added these events, and drew so many rooms from the pool
  pub balances_by : (actor : X → Name) (u w : Standing X) (es : List X) (drawn : ℕ) → Adds actor Legal u es w
      → w.rooms + length (flat_map puts es) ≡ u.rooms + length (flat_map takes es) + drawn
      → Balances puts takes (flat_map puts es) (flat_map takes es) drawn 0 u w
  balances_by actor u w es drawn a rooms = record { moves = moves_by puts takes Legal actor u w es a; rooms = omega (arith, rooms) }

  -- ---- a party gave n rooms to another, each did what it did, and the party took the other in
  pub balances_both : (n : ℕ) (u v o w : Standing X) (s g t h : List A) (d r e q : ℕ) → IsShare u.share → n ≤ u.rooms
      → Balances puts takes s g d r (keeping n u) v → Balances puts takes t h e q (giving n u) o → Absorbs Legal v o w
      → (sent got : List A) × Interleaves s t sent × Interleaves g h got × Balances puts takes sent got (d + e) (r + q) u w
  balances_both n u v o w s g t h d r e q share room a b m =
      let both = moves_both puts takes Legal n u v o w s g t h share a.moves b.moves m in (
        both.0,
        both.1,
        both.2,
        both.3,
        record {
          moves = both.4;
          rooms = omega (arith, room, a.rooms, b.rooms, m.rooms, length_interleaved s t both.0 both.2, length_interleaved g h both.1 both.3);
        },
      )

  -- ---- no room is lost: held says what a history holds
  module _ (held : List X → List A) (kept : (h : List X) → Legal h → flat_map takes h ++ held h ≡ flat_map puts h) where
    -- the rooms of a party of a new collection whose events are all its own, those of what is held, and those that it gave to the pool
    -- and did not draw again, are all rooms of the collection
    pub balances_whole : (k : ℕ) (id : TableId) (w : Standing X) (sent got : List A) (drawn given : ℕ) → Balances puts takes sent got drawn given (new_party id k) w
        → Legal (plain w.seen) → AllOwn w.seen → w.rooms + length (held (plain w.seen)) + given ≡ k + drawn
    balances_whole k id w sent got drawn given c legal alone =
        let left = held (plain w.seen) in
        let all = ap (λ (z : List A). length z) (moves_whole puts takes Legal held kept (new_party id k) w sent got refl c.moves legal alone) in
        omega (arith, c.rooms, all, length-append got left)
