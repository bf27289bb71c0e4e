-- What a try to push promises that takes rooms of the pool first, from what its parts promise.
use Rattle.std.proofs.Common.{◌≡◌, ◌<◌, ℕ, [], ◌∷◌, Bool, refl, ap, subst, arith}
use Rattle.std.specs.Prelude.{IsTrue}
use Rattle.cordyceps_shared.specs.Shares.{first_name}
use Rattle.cordyceps_shared.specs.Standings.{name_of}
use Rattle.cordyceps_shared.proofs.Adding.{adds_then}
use Rattle.cordyceps_stack.specs.History.{Load, Push, Legal, actor}
use Rattle.cordyceps_stack.specs.Shared.Calls.{PartyOf, Adds, EndsPushed, PushesAt, PushesRefilled}
use Rattle.cordyceps_stack.specs.Shared.Calls.{Misses, MissesRefilled, Refills}

module _ {E : Type 0} where
  -- the name is the same after a refill
  same_name : (n : ℕ) (u v : PartyOf E) → Refills n u v → name_of v ≡ name_of u
  same_name n u v a = ap first_name a.0.0.share

  -- ---- with a room of its own
  pub pushes_now : (e : E) (first : Bool) (u w : PartyOf E) → PushesAt 1 e first u w → PushesRefilled e first u w
  pushes_now e first u w b =
      let (added, ends, rooms) = b in
      record { adds = added; ends = ends; taken = 0; rooms = omega arith; untouched = λ _. refl }

  pub misses_now : (u w : PartyOf E) → 0 < u.rooms → Misses u w → MissesRefilled u w
  misses_now u w some_of b =
      let (added, overtaken, rooms) = b in record {
        adds = added;
        overtaken = overtaken;
        taken = 0;
        rooms = omega arith;
        some = omega arith;
        untouched = λ _. refl;
      }

  -- ---- after a refill
  pub pushes_then : (e : E) (first : Bool) (n : ℕ) (u v w : PartyOf E) → Refills n u v → u.rooms ≡ 0
      → PushesAt 1 e first v w → PushesRefilled e first u w
  pushes_then e first n u v w a none b =
      let more = a.1 in
      let (adds, ends, left) = b in
      let same = same_name n u v a in
      let added = subst (λ q. Adds v (Load q ∷ Push q e ∷ []) w) same adds in record {
        adds = adds_then actor (λ h. Legal h) u v w [] (Load (name_of u) ∷ Push (name_of u) e ∷ []) a.0 added;
        ends = subst (λ q. EndsPushed e (IsTrue first) q w.seen) same ends;
        taken = n;
        rooms = omega arith;
        untouched = λ some_of. absurd (omega arith);
      }

  pub misses_then : (n : ℕ) (u v w : PartyOf E) → Refills n u v → u.rooms ≡ 0 → 0 < v.rooms → Misses v w
      → MissesRefilled u w
  misses_then n u v w a none some_of b =
      let more = a.1 in
      let (adds, overtaken, left) = b in
      let added = subst (λ q. Adds v (Load q ∷ []) w) (same_name n u v a) adds in record {
        adds = adds_then actor (λ h. Legal h) u v w [] (Load (name_of u) ∷ []) a.0 added;
        overtaken = overtaken;
        taken = n;
        rooms = omega arith;
        some = omega arith;
        untouched = λ some_of. absurd (omega arith);
      }
