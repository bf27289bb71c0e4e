-- Each block of a free list is in one place: of one user, and of all users of a legal history.
use Rattle.std.proofs.Common.{◌≡◌, ℕ, ◌+◌, List, [], ◌∷◌, ◌++◌, reverse, Option, Some, None, ap, arith}
use Rattle.cordyceps_shared.specs.Counts.{tally}
use Rattle.cordyceps_shared.proofs.Counting.{tally_append, tally_reverse}
use Rattle.cordyceps_stack.specs.History.{Event, held, taken_elements}
use Rattle.cordyceps_stack.proofs.Histories.{nothing_lost}
use Rattle.freelist.specs.Whereabouts.{Whereabouts, Call, Gets, Fetches, Puts, PutsRemote, HandsBack, Opens, Finishes, Splits, Joins, Idles, Gains, Loses, prepend_option, Without, Does, Run, gains, losses, Story, IsOf, everywhere, at_start, at_end, all_gains, all_losses}

module _ {B : Type 0} (f : B → ℕ) where
  pub tally_prepend : (o : Option B) (bs : List B) → tally f (prepend_option o bs) ≡ tally f (prepend_option o []) + tally f bs
  tally_prepend None bs = omega arith
  tally_prepend (Some b) bs = omega arith

  tally_without : (b : B) (old new : List B) → Without b old new → tally f old ≡ f b + tally f new
  tally_without b old new w = omega (arith, ap (tally f) w.old_is, ap (tally f) w.new_is, tally_append f w.before (b ∷ w.after), tally_append f w.before w.after)

  -- the blocks with a user, in its local part, and put back
  abbrev pub at : Whereabouts B → ℕ
  at s = tally f s.with_user + (tally f s.local + tally f s.put_back)

  call_keeps : (c : Call B) (s t : Whereabouts B) → Does c s t →
      at t + (tally f (losses (c ∷ [])) + tally f s.fetched) ≡ at s + (tally f (gains (c ∷ [])) + tally f t.fetched)
  call_keeps (Gets b) s t d =
      omega (arith, ap (tally f) d.0, ap (λ z. tally f z.with_user) d.1, ap (λ z. tally f z.put_back) d.1, ap (λ z. tally f z.fetched) d.1)
  call_keeps (Fetches batch first) s t d =
      let user : tally f t.with_user ≡ tally f (prepend_option first s.with_user) = ap (λ z. tally f z.with_user) d.5 in
      let back : tally f t.put_back ≡ tally f s.put_back = ap (λ z. tally f z.put_back) d.5 in
      let more : tally f t.fetched ≡ tally f (s.fetched ++ reverse batch) = ap (λ z. tally f z.fetched) d.5 in
      omega (arith, user, back, more, ap (tally f) d.2, ap (tally f) d.3, tally_prepend first t.local, tally_prepend first s.with_user, tally_append f s.fetched (reverse batch), tally_reverse f batch)
  call_keeps (Puts b) s t d =
      omega (arith, ap (tally f) d.1, ap (λ z. tally f z.local) d.2, ap (λ z. tally f z.put_back) d.2, ap (λ z. tally f z.fetched) d.2)
  call_keeps (PutsRemote b) s t d =
      omega (arith, ap (tally f) d.1, ap (λ z. tally f z.local) d.2, ap (λ z. tally f z.put_back) d.2, ap (λ z. tally f z.fetched) d.2, tally_append f s.put_back (b ∷ []))
  call_keeps HandsBack s t d = omega (arith, ap at d.2, ap (λ z. tally f z.fetched) d.2)
  call_keeps Opens s t d = omega (arith, ap at d.3, ap (λ z. tally f z.fetched) d.3)
  call_keeps Finishes s t d =
      omega (arith, ap (λ z. tally f z.with_user) d.3, ap (λ z. tally f z.local) d.3, ap (λ z. tally f z.put_back) d.3, ap (λ z. tally f z.fetched) d.3, tally_append f (reverse s.local) s.with_user, tally_reverse f s.local)
  call_keeps (Splits n) s t d = omega (arith, ap at d.2, ap (λ z. tally f z.fetched) d.2)
  call_keeps Joins s t d = omega (arith, ap at d.2, ap (λ z. tally f z.fetched) d.2)
  call_keeps (Idles k) s t d = omega (arith, ap at d.1, ap (λ z. tally f z.fetched) d.1)
  call_keeps (Gains b) s t d =
      omega (arith, ap (λ z. tally f z.with_user) d, ap (λ z. tally f z.local) d, ap (λ z. tally f z.put_back) d, ap (λ z. tally f z.fetched) d)
  call_keeps (Loses b) s t d =
      omega (arith, tally_without b s.with_user t.with_user d.0, ap (λ z. tally f z.local) d.1, ap (λ z. tally f z.put_back) d.1, ap (λ z. tally f z.fetched) d.1)

  lost_first : (c : Call B) (cs : List (Call B)) → tally f (losses (c ∷ cs)) ≡ tally f (losses (c ∷ [])) + tally f (losses cs)
  lost_first (Loses b) cs = omega arith
  lost_first c cs = omega arith

  gained_first : (c : Call B) (cs : List (Call B)) → tally f (gains (c ∷ cs)) ≡ tally f (gains (c ∷ [])) + tally f (gains cs)
  gained_first (Gains b) cs = omega arith
  gained_first c cs = omega arith

  -- of one user, what it has, what is local, what it put back and what it let go of is what it had, what it came by and what
  -- it took of what is shared
  pub kept : (cs : List (Call B)) (s t : Whereabouts B) → Run cs s t →
      at t + (tally f (losses cs) + tally f s.fetched) ≡ at s + (tally f (gains cs) + tally f t.fetched)
  kept [] s t r = omega (arith, ap at r, ap (λ z. tally f z.fetched) r)
  kept (c ∷ cs) s t r =
      omega (arith, call_keeps c s r.0 r.1, kept cs r.0 t r.2, lost_first c cs, gained_first c cs)

module _ {B : Type 0} (f : B → ℕ) where
  all_kept : (users : List (Story B)) →
      at_end f users + (tally (λ u. tally f u.end.put_back) users + all_losses f users)
      ≡ at_start f users + (all_gains f users + tally (λ u. tally f u.end.fetched) users)
  all_kept [] = omega arith
  all_kept (u ∷ users) =
      omega (arith, all_kept users, kept f u.calls u.start u.end u.runs, ap (tally f) u.new.0, ap (tally f) u.new.1)

module _ {P H B : Type 0} (block : H → B) (f : B → ℕ) where
  -- of all users together, what is with them, local and held, and what they let go of, is what was there at the start, and what
  -- they came by
  pub each_once : (users : List (Story B)) (h : List (Event P H)) → IsOf block users h →
      everywhere block f users h + all_losses f users ≡ at_start f users + all_gains f users
  each_once users h is =
      let g : H → ℕ = λ e. f (block e) in
      omega (arith, all_kept f users, is.pushed f, is.took f, ap (tally g) (nothing_lost h is.legal), tally_append g (taken_elements h) (held h))
