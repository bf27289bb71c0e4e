-- What giving all rooms back promises, from what its parts promise.
use Rattle.std.proofs.Common.{◌≡◌, ℕ, ◌≤◌, [], Bool, true, false, refl, sym, ap, subst, arith}
use Rattle.cordyceps_shared.specs.Standings.{GivesBack}
use Rattle.cordyceps_shared.proofs.Adding.{adds_then}
use Rattle.cordyceps_queue.specs.History.{actor}
use Rattle.cordyceps_queue.specs.Shared.Calls.{PartyOf, Legal, Adds, Refills, GivesAllBack, HasAllRooms, LacksRooms}

module _ {E : Type 0} where
  -- a refill, and then all rooms
  pub gives_all : (n rooms : ℕ) (b : Bool) (u v w : PartyOf E) → Refills n u v → rooms ≡ v.rooms → GivesBack rooms b v w → GivesAllBack b u w
  gives_all n rooms true u v w a all g =
      let seen : Adds u [] w = subst (λ z. Adds u [] z) (sym g) a.0 in
      let left = ap (λ (z : PartyOf E). z.rooms) g in (seen, omega arith)
  gives_all n rooms false u v w a all g =
      let seen : Adds u [] w = subst (λ z. Adds u [] z) (sym g) a.0 in
      let same = ap (λ (z : PartyOf E). z.rooms) g in
      let more = a.1 in (seen, omega arith)

  -- a whole party that had all rooms cannot fail
  pub never_fails : (rooms : ℕ) (b : Bool) (v w : PartyOf E) → GivesBack rooms b v w → HasAllRooms v → (b ≡ false → LacksRooms w) → b ≡ true
  never_fails rooms true v w g all lacks = refl
  never_fails rooms false v w g all lacks =
      let less = subst (λ z. LacksRooms z) g (lacks refl) in absurd (omega arith)

  -- two tries, of which the first failed
  pub gives_later : (b : Bool) (u v w : PartyOf E) → Adds u [] v → u.rooms ≤ v.rooms → GivesAllBack b v w → GivesAllBack b u w
  gives_later true u v w a more g = (adds_then actor (λ h. Legal h) u v w [] [] a g.0, g.1)
  gives_later false u v w a more g = let still = g.1 in (adds_then actor (λ h. Legal h) u v w [] [] a g.0, omega arith)
