-- Blocked histories are the same, read from either end.
use Rattle.std.proofs.Common.{◌≡◌, ℕ, suc, ◌+◌, ◌-◌, ◌<◌, List, [], ◌∷◌, ◌++◌, length, reverse, refl, ap, sym, ◌∙◌, subst, inl, inr, arith}
use Rattle.std.proofs.lemmas.List.{reverse-reverse}
use Rattle.cordyceps_queue.specs.History as told
use Rattle.cordyceps_queue.specs.History.{Event, Swap, Link, Take, Busy, Look, Out, Empty, Free, Ring, Clear, is_swap, is_link, is_look, looks_by}
use Rattle.cordyceps_queue.specs.Past as past
use Rattle.cordyceps_queue.specs.Past.{IsOpen, HasLooked}
use Rattle.cordyceps_queue.proofs.CoreTheory.Basics.{open_from}
use Rattle.cordyceps_queue.proofs.HistoryEnds.{count-reverse}
use Rattle.cordyceps_queue.proofs.Legality.{one_same, one_other, came_of, went_of, front_legal, turned_split, turned_at, counts, settled_or_open, stood, stands, not_by}
use Rattle.cordyceps_queue.proofs.CoreTheory.HolderSteps.{was_now}

module _ {P E : Type 0} (same : Discrete P) where
  -- `h` has the oldest event first
  pub told_blocked : (h : List (Event P E)) → past.IsLegalReversed (reverse h) → past.IsBlockedReversed (reverse h) → told.IsBlocked same h
  told_blocked h legal b =
      let (q, n, near, pending) = b in
      let S = stood same (reverse h) legal q n pending in
      let came : length (told.came (reverse S.before)) ≡ length (told.went h) + n = ap length (came_of (reverse S.before) ∙ ap past.came_reversed (reverse-reverse S.before)) ∙ S.there ∙ ap (λ l. length l + n) (sym (went_of h)) in
      record {
        by = q;
        pending = ap suc (sym (count-reverse same is_link q h)) ∙ (counts same (reverse h) legal q).1 (open_from (reverse h) q n pending) ∙ count-reverse same is_swap q h;
        past = reverse S.before;
        element = S.element;
        later = reverse S.later;
        is = sym (reverse-reverse h) ∙ turned_at (reverse h) S.later S.before (Swap q S.element) S.is;
        last = count-reverse same is_swap q S.later ∙ S.last;
        held_there = omega (arith, came);
        near = omega (arith, came);
      }

  pub past_blocked : (h : List (Event P E)) → past.IsLegalReversed (reverse h) → told.IsBlocked same h → past.IsBlockedReversed (reverse h)
  past_blocked h legal B =
      let n : ℕ = length (told.came B.past) - length (told.went h) in
      let is : reverse h ≡ reverse B.later ++ Swap B.by B.element ∷ reverse B.past = turned_at h B.past B.later (Swap B.by B.element) B.is in
      let came : length (past.came_reversed (reverse B.past)) ≡ length (past.went_reversed (reverse h)) + n =
      ap length (sym (came_of B.past)) ∙ (let l = B.held_there in let e : length (told.came B.past) ≡ length (told.went h) + n = omega arith in e) ∙ ap (λ l. length l + n) (went_of h) in
      let unlinked : IsOpen B.by (reverse h) = elim (settled_or_open same (reverse h) B.by) [
        | inl s ↦ let c = (counts same (reverse h) legal B.by).0 s in let l = count-reverse same is_link B.by h in let w = count-reverse same is_swap B.by h in let e = B.pending in absurd (omega arith)
        | inr o ↦ o
      ] in
      let at = stands same (reverse B.later) (reverse B.past) B.by B.element n (subst past.IsLegalReversed is legal) (subst (IsOpen B.by) is unlinked) (count-reverse same is_swap B.by B.later ∙ B.last)
      (subst (λ g. length (past.came_reversed (reverse B.past)) ≡ length (past.went_reversed g) + n) is came) in
      (B.by, n, (let l = B.near in omega arith), subst (past.IsPendingAt B.by n) (sym is) at)

  looked_counts : (q : P) (g : List (Event P E)) → HasLooked q g → 0 < looks_by same q g
  looked_counts q [] l = absurd l
  looked_counts q (Look p ∷ g) (inl e) = let z = one_same (same q p) e in omega arith
  looked_counts q (Look p ∷ g) (inr l) = let r = looked_counts q g l in omega arith
  looked_counts q (Swap p e ∷ g) l = looked_counts q g l
  looked_counts q (Link p ∷ g) l = looked_counts q g l
  looked_counts q (Take p ∷ g) l = looked_counts q g l
  looked_counts q (Busy p ∷ g) l = looked_counts q g l
  looked_counts q (Out p e ∷ g) l = looked_counts q g l
  looked_counts q (Empty p ∷ g) l = looked_counts q g l
  looked_counts q (Free p ∷ g) l = looked_counts q g l
  looked_counts q (Ring p ∷ g) l = looked_counts q g l
  looked_counts q (Clear p ∷ g) l = looked_counts q g l

  counts_looked : (q : P) (g : List (Event P E)) → 0 < looks_by same q g → HasLooked q g
  counts_looked q [] l = absurd (omega arith)
  counts_looked q (Look p ∷ g) l = elim (same q p) [ yes e ↦ inl e | no n ↦ let z = one_other (same q p) n in inr (counts_looked q g (omega arith)) ]
  counts_looked q (Swap p e ∷ g) l = counts_looked q g l
  counts_looked q (Link p ∷ g) l = counts_looked q g l
  counts_looked q (Take p ∷ g) l = counts_looked q g l
  counts_looked q (Busy p ∷ g) l = counts_looked q g l
  counts_looked q (Out p e ∷ g) l = counts_looked q g l
  counts_looked q (Empty p ∷ g) l = counts_looked q g l
  counts_looked q (Free p ∷ g) l = counts_looked q g l
  counts_looked q (Ring p ∷ g) l = counts_looked q g l
  counts_looked q (Clear p ∷ g) l = counts_looked q g l

  -- where a blocked prefix ends that has the party's last look
  record Cut (q : P) (g : List (Event P E)) : Type 0 where
    later : List (Event P E)
    before : List (Event P E)
    is : g ≡ later ++ before
    none : looks_by same q later ≡ 0
    looked : HasLooked q before
    blocked : past.IsBlockedReversed before

  cut_now : (q : P) (g : List (Event P E)) → HasLooked q g → past.IsBlockedReversed g → Cut q g
  cut_now q g l b = record { later = []; before = g; is = refl; none = refl; looked = l; blocked = b }

  no_look : (q : P) (x : Event P E) (l : List (Event P E)) → past.IsNoLook q x → looks_by same q (x ∷ l) ≡ looks_by same q l
  no_look q (Look p) l other = let z = one_other (same q p) other in omega arith
  no_look q _ l other = refl

  cut : (q : P) (g : List (Event P E)) → past.WasBlockedReversed q g → Cut q g
  cut q [] w = absurd w
  cut q (x ∷ g) (inl w) = cut_now q (x ∷ g) w.0 w.1
  cut q (x ∷ g) (inr w) =
      let c = cut q g w.1 in
      record { later = x ∷ c.later; before = c.before; is = ap (λ l. x ∷ l) c.is; none = no_look q x c.later w.0 ∙ c.none; looked = c.looked; blocked = c.blocked }

  is_no_look : (q : P) (x : Event P E) (l : List (Event P E)) → looks_by same q (x ∷ l) ≡ 0 → past.IsNoLook q x
  is_no_look q (Look p) l none = not_by same q p (looks_by same q l) none
  is_no_look q _ l none = tt

  uncut : (q : P) (later before : List (Event P E)) → looks_by same q later ≡ 0 → HasLooked q before → past.IsBlockedReversed before → past.WasBlockedReversed q (later ++ before)
  uncut q [] before none l b = was_now q before l b
  uncut q (x ∷ later) before none l b =
      let other = is_no_look q x later none in
      inr (other, uncut q later before (sym (no_look q x later other) ∙ none) l b)

  pub told_was_blocked : (h : List (Event P E)) → past.IsLegalReversed (reverse h) → (q : P) → past.WasBlockedReversed q (reverse h) → told.WasBlocked same q h
  told_was_blocked h legal q w =
      let C = cut q (reverse h) w in
      let back : reverse (reverse C.before) ≡ C.before = reverse-reverse C.before in
      let front : past.IsLegalReversed (reverse (reverse C.before)) = subst past.IsLegalReversed (sym back) (front_legal C.later C.before (subst past.IsLegalReversed C.is legal)) in
      record {
        past = reverse C.before;
        later = reverse C.later;
        is = sym (reverse-reverse h) ∙ turned_split (reverse h) C.later C.before C.is;
        looked = let l = looked_counts q C.before C.looked in omega (arith, count-reverse same is_look q C.before);
        last = count-reverse same is_look q C.later ∙ C.none;
        blocked = told_blocked (reverse C.before) front (subst past.IsBlockedReversed (sym back) C.blocked);
      }

  pub past_was_blocked : (h : List (Event P E)) → past.IsLegalReversed (reverse h) → (q : P) → told.WasBlocked same q h → past.WasBlockedReversed q (reverse h)
  past_was_blocked h legal q W =
      let is : reverse h ≡ reverse W.later ++ reverse W.past = turned_split h W.past W.later W.is in
      let front : past.IsLegalReversed (reverse W.past) = front_legal (reverse W.later) (reverse W.past) (subst past.IsLegalReversed is legal) in
      let looked : 0 < looks_by same q (reverse W.past) = let l = W.looked in omega (arith, count-reverse same is_look q W.past) in
      subst (past.WasBlockedReversed q) (sym is) (uncut q (reverse W.later) (reverse W.past) (count-reverse same is_look q W.later ∙ W.last) (counts_looked q (reverse W.past) looked) (past_blocked W.past front W.blocked))
