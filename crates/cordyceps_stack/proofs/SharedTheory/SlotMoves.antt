-- Slots in hand and at home: what a step takes and returns, and how the slots of free chains are cut and joined.
use Rattle.std.proofs.Common.{◌≡◌, ◌≢◌, ◌⊎◌, ℕ, suc, ◌≤◌, ◌<◌, List, [], ◌∷◌, ◌++◌, length, set, take, drop, refl, sym, ap, ◌∙◌, subst, inl, inr, ⊎_elim, arith, append-nil, take-append-drop, length-set}
use mathlib.Core.Option.{some, none}
use mathlib.Core.Logic.{dite}
use native.Mathlib.Decide.{ℕ_discrete}
use lib.ListN.{get_elem?}
use Rattle.atomic_table.specs.Table.{Act, keeps, takes, gives, homes_after, carried_after, Valid}
use Rattle.atomic_table.specs.Table as table
use Rattle.atomic_table.proofs.Lists.{set_here, set_else}
use Rattle.cordyceps_shared.specs.Counts.{times}
use Rattle.cordyceps_shared.specs.FreeChains.{FreeChain, leads, end_after, first_rooms, rest_rooms, joined, with_last, MayJoin, IsTied}
use Rattle.cordyceps_shared.proofs.Counting.{one_here, one_else}
use Rattle.cordyceps_shared.proofs.StepEvents.{at_length}
use Rattle.cordyceps_stack.specs.declared.shared.slot.Slot.{Slot}
use Rattle.cordyceps_stack.specs.Shared.Slots.{Homes, Hand, start, rooms_of, filled, vacant, in_use, in_use_to, all_vacant, AtHome, last_link}

-- ---- the rooms of slots
module _ {E : Type 0} where
  pub rooms_in_use : (xs : List (ℕ × E)) → rooms_of (in_use xs) ≡ rooms_of xs
  rooms_in_use [] = refl
  rooms_in_use (x ∷ xs) = ap (λ rs. x.0 ∷ rs) (rooms_in_use xs)

  pub rooms_to : (xs : List (ℕ × E)) (end : ℕ) → rooms_of (in_use_to xs end) ≡ rooms_of xs
  rooms_to [] end = refl
  rooms_to (x ∷ xs) end = ap (λ rs. x.0 ∷ rs) (rooms_to xs end)

  -- ---- rooms in use above others
  pub start_onto : (xs ys : List (ℕ × E)) → start (xs ++ ys) ≡ leads (rooms_of xs) (start ys)
  start_onto [] ys = refl
  start_onto (x ∷ xs) ys = refl

  pub in_use_onto : (xs ys : List (ℕ × E)) → in_use (xs ++ ys) ≡ in_use_to xs (start ys) ++ in_use ys
  in_use_onto [] ys = refl
  in_use_onto (x ∷ xs) ys = λ i. (x.0, filled x.1 (start_onto xs ys i)) ∷ in_use_onto xs ys i

  leads_last : (xs : List (ℕ × E)) (r end : ℕ) (x : E) → leads (rooms_of (xs ++ (r, x) ∷ [])) end ≡ leads (rooms_of xs) (suc r)
  leads_last [] r end x = refl
  leads_last (y ∷ ys) r end x = refl

  pub in_use_last : (xs : List (ℕ × E)) (r end : ℕ) (x : E) → in_use_to (xs ++ (r, x) ∷ []) end ≡ in_use_to xs (suc r) ++ (r, filled x end) ∷ []
  in_use_last [] r end x = refl
  in_use_last (y ∷ ys) r end x = λ i. (y.0, filled y.1 (leads_last ys r end x i)) ∷ in_use_last ys r end x i

pub leads_append : (xs ys : List ℕ) (end : ℕ) → leads (xs ++ ys) end ≡ leads xs (leads ys end)
leads_append [] ys end = refl
leads_append (x ∷ xs) ys end = refl

module _ (E : Type 0) where
  pub rooms_vacant : (rooms : List ℕ) (end : ℕ) → rooms_of (all_vacant {E = E} rooms end) ≡ rooms
  rooms_vacant [] end = refl
  rooms_vacant (r ∷ rs) end = ap (λ l. r ∷ l) (rooms_vacant rs end)

  -- ---- the slots of free chains
  pub vacant_append : (xs ys : List ℕ) (end : ℕ) → all_vacant {E = E} (xs ++ ys) end ≡ all_vacant xs (leads ys end) ++ all_vacant ys end
  vacant_append [] ys end = refl
  vacant_append (x ∷ xs) ys end = λ i. (x, vacant (leads_append xs ys end i)) ∷ vacant_append xs ys end i

  pub vacant_cut : (n : ℕ) (free : FreeChain) → all_vacant {E = E} free.rooms free.end ≡ all_vacant (first_rooms n free).rooms (first_rooms n free).end ++ all_vacant (rest_rooms n free).rooms (rest_rooms n free).end
  vacant_cut n free = ap (λ l. all_vacant l free.end) (sym (take-append-drop n free.rooms)) ∙ vacant_append (take n free.rooms) (drop n free.rooms) free.end

  vacant_onto : (rooms : List ℕ) (end o : ℕ) → (rooms ≡ []) ⊎ (end ≡ o) → all_vacant {E = E} rooms end ≡ all_vacant rooms o
  vacant_onto [] end o may = refl
  vacant_onto (r ∷ rs) end o may = ap (all_vacant (r ∷ rs)) (⊎_elim (λ no. absurd (cc)) (λ e. e) may)

  pub vacant_joined : (free other : FreeChain) → MayJoin free other → all_vacant {E = E} (joined free other).rooms (joined free other).end ≡ all_vacant free.rooms free.end ++ all_vacant other.rooms other.end
  vacant_joined free other may = by other.rooms refl
    where
      by : (others : List ℕ) → other.rooms ≡ others → all_vacant {E = E} (joined free other).rooms (joined free other).end ≡ all_vacant free.rooms free.end ++ all_vacant other.rooms other.end
      by [] no_other = (λ i. all_vacant (free.rooms ++ no_other i) (end_after free.end (no_other i) other.end))
          ∙ (ap (λ l. all_vacant l free.end) (append-nil free.rooms) ∙ (sym (append-nil (all_vacant free.rooms free.end)) ∙ ap (λ l. all_vacant free.rooms free.end ++ all_vacant l other.end) (sym no_other)))
      by (o ∷ others) some_of =
          let tied : (free.rooms ≡ []) ⊎ (free.end ≡ leads other.rooms other.end) = ⊎_elim (λ e. inl e) (λ m. ⊎_elim (λ e. let no = sym e ∙ some_of in absurd (cc)) (λ e. inr e) m) may in
          ap (λ l. all_vacant (free.rooms ++ other.rooms) (end_after free.end l other.end)) some_of
          ∙ (vacant_append free.rooms other.rooms other.end ∙ ap (λ l. l ++ all_vacant other.rooms other.end) (sym (vacant_onto free.rooms free.end (leads other.rooms other.end) tied)))

  pub vacant_last : (free : FreeChain) (r link : ℕ) → IsTied free (suc r) → all_vacant {E = E} (with_last r link free).rooms link ≡ all_vacant free.rooms free.end ++ (r, vacant link) ∷ []
  vacant_last free r link tied = vacant_append free.rooms (r ∷ []) link ∙ ap (λ l. l ++ (r, vacant link) ∷ []) (sym (vacant_onto free.rooms free.end (suc r) tied))

  pub last_vacant : (r : ℕ) (rs : List ℕ) (end : ℕ) → last_link (all_vacant {E = E} (r ∷ rs) end) ≡ end
  last_vacant r [] end = refl
  last_vacant r (s ∷ rs) end = last_vacant s rs end

-- a list whose count at r is none has only other rooms
other_room : (r s : ℕ) (rooms : List ℕ) → times r (s ∷ rooms) ≡ 0 → r ≢ s
other_room r s rooms none_of e = let here = one_here r in let same = ap (λ z. times r (z ∷ rooms)) (sym e) in omega arith

module _ {E : Type 0} where
  -- ---- at home
  pub home_frame : (homes homes' : Homes E) (slots : Hand E) → ((r : ℕ) → 1 ≤ times r (rooms_of slots) → get_elem? homes' r ≡ get_elem? homes r) → AtHome homes slots → AtHome homes' slots
  home_frame homes homes' [] same h = tt
  home_frame homes homes' (x ∷ xs) same h = let here = one_here x.0 in (same x.0 (omega arith) ∙ h.0, home_frame homes homes' xs (λ r m. same r (omega arith)) h.1)

  pub home_append : (homes : Homes E) (xs ys : Hand E) → AtHome homes xs → AtHome homes ys → AtHome homes (xs ++ ys)
  home_append homes [] ys h k = k
  home_append homes (x ∷ xs) ys h k = (h.0, home_append homes xs ys h.1 k)

  pub home_front : (homes : Homes E) (xs ys : Hand E) → AtHome homes (xs ++ ys) → AtHome homes xs
  home_front homes [] ys h = tt
  home_front homes (x ∷ xs) ys h = (h.0, home_front homes xs ys h.1)

  pub home_back : (homes : Homes E) (xs ys : Hand E) → AtHome homes (xs ++ ys) → AtHome homes ys
  home_back homes [] ys h = h
  home_back homes (x ∷ xs) ys h = home_back homes xs ys h.1

  pub home_near : (homes : Homes E) (slots : Hand E) → AtHome homes slots → (r : ℕ) → 1 ≤ times r (rooms_of slots) → r < length homes
  home_near homes [] h r m = absurd (omega arith)
  home_near homes (x ∷ xs) h r m = dite (ℕ_discrete x.0 r)
      (λ e. subst (λ s. s < length homes) e (at_length homes x.0 (some x.1) h.0))
      (λ n. let other = one_else x.0 r n in home_near homes xs h.1 r (omega arith))

  -- ---- slots are taken
  pub take_all : Hand E → Act (Slot E)
  take_all [] = keeps
  take_all (x ∷ xs) = table.chain (take_all xs) (takes x.0 x.1)

  pub untaken : (xs : Hand E) (hs : Homes E) (cs : Hand E) (r : ℕ) → times r (rooms_of xs) ≡ 0 → get_elem? (homes_after hs cs (take_all xs)) r ≡ get_elem? hs r
  unfolding take_all
  untaken [] hs cs r none_of = refl
  untaken (x ∷ xs) hs cs r none_of = set_else (homes_after hs cs (take_all xs)) x.0 r none (other_room r x.0 (rooms_of xs) none_of) ∙ untaken xs hs cs r (omega arith)

  pub taken_valid : (xs : Hand E) (hs : Homes E) (cs : Hand E) → AtHome hs xs → ((r : ℕ) → times r (rooms_of xs) ≤ 1) → Valid hs cs (take_all xs)
  unfolding take_all
  taken_valid [] hs cs home once = tt
  taken_valid (x ∷ xs) hs cs home once =
      let here = one_here x.0 in
      let few = once x.0 in
      (taken_valid xs hs cs home.1 (λ r. let o = once r in omega arith), untaken xs hs cs x.0 (omega arith) ∙ home.0)

  pub taken_carried : (xs cs : Hand E) → carried_after cs (take_all xs) ≡ xs ++ cs
  unfolding take_all
  taken_carried [] cs = refl
  taken_carried (x ∷ xs) cs = ap (λ z. (x.0, x.1) ∷ z) (taken_carried xs cs)

  pub taken_long : (xs : Hand E) (hs : Homes E) (cs : Hand E) → length (homes_after hs cs (take_all xs)) ≡ length hs
  unfolding take_all
  taken_long [] hs cs = refl
  taken_long (x ∷ xs) hs cs = length-set (homes_after hs cs (take_all xs)) x.0 none ∙ taken_long xs hs cs

  -- ---- slots are returned
  pub give_all : Hand E → Act (Slot E)
  give_all [] = keeps
  give_all (x ∷ xs) = table.chain gives (give_all xs)

  pub given_valid : (xs : Hand E) (hs : Homes E) → Valid hs xs (give_all xs)
  unfolding give_all
  given_valid [] hs = tt
  given_valid (x ∷ xs) hs = (tt, given_valid xs (set hs x.0 (some x.1)))

  pub given_carried : (xs : Hand E) → carried_after xs (give_all xs) ≡ []
  unfolding give_all
  given_carried [] = refl
  given_carried (x ∷ xs) = given_carried xs

  pub ungiven : (xs : Hand E) (hs : Homes E) (r : ℕ) → times r (rooms_of xs) ≡ 0 → get_elem? (homes_after hs xs (give_all xs)) r ≡ get_elem? hs r
  unfolding give_all
  ungiven [] hs r none_of = refl
  ungiven (x ∷ xs) hs r none_of = ungiven xs (set hs x.0 (some x.1)) r (omega arith) ∙ set_else hs x.0 r (some x.1) (other_room r x.0 (rooms_of xs) none_of)

  pub given_home : (xs : Hand E) (hs : Homes E) → ((r : ℕ) → times r (rooms_of xs) ≤ 1) → ((r : ℕ) → 1 ≤ times r (rooms_of xs) → r < length hs) → AtHome (homes_after hs xs (give_all xs)) xs
  unfolding give_all
  given_home [] hs once inside = tt
  given_home (x ∷ xs) hs once inside =
      let here = one_here x.0 in
      let few = once x.0 in
      let now = set hs x.0 (some x.1) in (
        ungiven xs now x.0 (omega arith) ∙ set_here hs x.0 (some x.1) (inside x.0 (omega arith)),
        given_home xs now (λ r. let o = once r in omega arith) (λ r m. subst (λ n. r < n) (sym (length-set hs x.0 (some x.1))) (inside r (omega arith))),
      )

  pub given_long : (xs : Hand E) (hs : Homes E) → length (homes_after hs xs (give_all xs)) ≡ length hs
  unfolding give_all
  given_long [] hs = refl
  given_long (x ∷ xs) hs = given_long xs (set hs x.0 (some x.1)) ∙ length-set hs x.0 (some x.1)
