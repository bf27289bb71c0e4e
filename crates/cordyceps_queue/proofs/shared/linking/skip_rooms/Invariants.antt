use Rattle.std.proofs.Common.{◌≡◌, ◌<◌, ℕ, suc, List, [], ◌∷◌, ◌++◌, take, drop}
use Rattle.cordyceps_shared.specs.FreeChains.{leads}
use Rattle.cordyceps_queue.proofs.shared.linking.skip_rooms.Given as goal

abbrev pub invariant-loop-room : goal.invariant-loop-room
invariant-loop-room g l =
    let rooms = l.initial.seat.me.0.free in record {
      table : l.seat.table_id ≡ l.initial.seat.table_id;
      me : l.seat.me ≡ l.initial.seat.me;
      at : (r : ℕ) (rs : List ℕ) → drop l._room rooms ≡ r ∷ rs → l.at ≡ suc r;
      last : (before : List ℕ) (r : ℕ) → take l._room rooms ≡ before ++ r ∷ [] → l.last ≡ r;
      end : 0 < l._room → l.at ≡ leads (drop l._room rooms) l.initial.seat.me.0.end;
    }
