-- Each step of a party keeps the word head of a transfer stack beside its history.
use Rattle.std.proofs.Common.{◌≡◌, ◌≢◌, ◌⊎◌, ℕ, suc, ◌+◌, ◌≤◌, ◌<◌, List, [], ◌∷◌, ◌++◌, map, reverse, length, set, eqb, refl, sym, ap, ◌∙◌, subst, inl, inr, ⊎_elim, arith, append_assoc}
use Rattle.std.proofs.lemmas.List.{reverse-append, reverse-reverse, map-append}
use mathlib.Core.Option.{some}
use lib.ListN.{get_elem?}
use Rattle.atomic_table.proofs.Lists.{at_snoc}
use Rattle.cordyceps_shared.specs.Counts.{one_if, times}
use Rattle.cordyceps_shared.specs.FreeChains.{leads}
use Rattle.cordyceps_shared.specs.Histories.{events, of_seat}
use Rattle.cordyceps_shared.specs.Shares.{Name}
use Rattle.cordyceps_shared.specs.Words.{head}
use Rattle.cordyceps_shared.specs.declared.layout.TheConstants.{HEAD}
use Rattle.cordyceps_shared.proofs.ChangedItems.{one_set}
use Rattle.cordyceps_shared.proofs.Counting.{tally_set, tally_snoc, tally_append}
use Rattle.cordyceps_shared.proofs.HistoryMarks.{events_more, without_more}
use Rattle.cordyceps_shared.proofs.Words.{head_set}
use Rattle.cordyceps_stack.specs.History.{Event, Load, Push, Taken, held, held_after, Legal, IsChange, SomeChange}
use Rattle.cordyceps_stack.specs.Cores.Stages.{room_elements}
use Rattle.cordyceps_stack.specs.Shared.Calls.{pushes_of}
use Rattle.cordyceps_stack.specs.Shared.Plays.{rooms_then, elements_then}
use Rattle.cordyceps_stack.specs.Shared.Slots.{start, rooms_of}
use Rattle.cordyceps_stack.specs.Shared.View.{Doing, Idle, Loaded, LoadedAll, Holding, Walking, View, taking, held_rooms, in_chain, count_with_party}
use Rattle.cordyceps_stack.specs.Shared.Words.{History, Since, AtDoing, WordsMeet}
use Rattle.cordyceps_stack.proofs.Histories.{MayFollow, held_more, held_from-append, legal_more, change_more, change_last, change_after, held_pushes, legal_pushes}
use Rattle.cordyceps_stack.proofs.SharedTheory.SlotMoves.{start_onto}

module _ {E : Type 0} where
  -- what a party has loaded stays loaded while others step
  since_event : (ws ws' : List ℕ) (h : History E) (j read i : ℕ) (x : Event Name E) → i ≢ j → (head ws' ≡ head ws) ⊎ IsChange x → Since ws h j read → Since ws' (h ++ (i, x) ∷ []) j read
  since_event ws ws' h j read i x other moved s = record {
    before = s.before;
    name = s.name;
    later = s.later ++ (i, x) ∷ [];
    is = ap (λ (z : History E). z ++ (i, x) ∷ []) s.is ∙ append_assoc s.before ((j, Load s.name) ∷ s.later) ((i, x) ∷ []);
    none = without_more j s.later i (x ∷ []) other s.none;
    same = let more = sym (events_more s.later i (x ∷ [])) in
        ⊎_elim (λ e. ⊎_elim (λ t. inl (e ∙ t)) (λ c. inr (subst (λ l. SomeChange l) more (change_more (events s.later) (x ∷ []) c))) s.same)
        (λ c. inr (subst (λ l. SomeChange l) more (change_last (events s.later) x c))) moved;
  }

  pub since_now : (ws : List ℕ) (h : History E) (j : ℕ) (n : Name) → Since ws (h ++ (j, Load n) ∷ []) j (head ws)
  since_now ws h j n = record { before = h; name = n; later = []; is = refl; none = tt; same = inl refl }

  -- what a party does stays right, where its load does
  pub does_frame : (ws ws' : List ℕ) (h h' : History E) (j : ℕ) (doing : Doing E) → ((read : ℕ) → Since ws h j read → Since ws' h' j read) → AtDoing ws h j doing → AtDoing ws' h' j doing
  does_frame ws ws' h h' j Idle since k = tt
  does_frame ws ws' h h' j (Loaded r read) since k = since read k
  does_frame ws ws' h h' j (LoadedAll rooms read) since k = since read k
  does_frame ws ws' h h' j (Holding rooms) since k = tt
  does_frame ws ws' h h' j (Walking xs) since k = tt

  held_event : (h : History E) (j : ℕ) (x : Event Name E) → held (events (h ++ (j, x) ∷ [])) ≡ held_after (held (events h)) x
  held_event h j x = ap (λ z. held z) (events_more h j (x ∷ [])) ∙ held_more (events h) x

  legal_event : (h : History E) (j : ℕ) (x : Event Name E) → Legal (events h) → MayFollow (events h) x → Legal (events (h ++ (j, x) ∷ []))
  legal_event h j x l a = subst (λ z. Legal z) (sym (events_more h j (x ∷ []))) (legal_more (events h) x l a)

  pub rooms_taking : (xs : List (ℕ × E)) → held_rooms (taking xs) ≡ rooms_of xs
  rooms_taking [] = refl
  rooms_taking (x ∷ xs) = refl

  does_taking : (ws : List ℕ) (h : History E) (j : ℕ) (xs : List (ℕ × E)) → AtDoing ws h j (taking xs)
  does_taking ws h j [] = tt
  does_taking ws h j (x ∷ xs) = tt

  emptied : (ws ws' : List ℕ) (n : Name) (chain : List (ℕ × E)) → head ws' ≡ 0 → head ws ≡ start chain → (head ws' ≡ head ws) ⊎ IsChange (Taken n (room_elements chain))
  emptied ws ws' n [] e s = inl (e ∙ sym s)
  emptied ws ws' n (x ∷ xs) e s = inr (λ c. let no : ⊥ = cc in no)

  -- several pushes of the party i
  since_pushes : (ws ws' : List ℕ) (h : History E) (j read i : ℕ) (es : List (Event Name E)) → i ≢ j → SomeChange es → Since ws h j read → Since ws' (h ++ of_seat i es) j read
  since_pushes ws ws' h j read i es other moved s = record {
    before = s.before;
    name = s.name;
    later = s.later ++ of_seat i es;
    is = ap (λ (z : History E). z ++ of_seat i es) s.is ∙ append_assoc s.before ((j, Load s.name) ∷ s.later) (of_seat i es);
    none = without_more j s.later i es other s.none;
    same = inr (subst (λ l. SomeChange l) (sym (events_more s.later i es)) (change_after (events s.later) es moved));
  }

  pub elements_onto : (xs ys : List (ℕ × E)) → room_elements (xs ++ ys) ≡ room_elements xs ++ room_elements ys
  elements_onto [] ys = refl
  elements_onto (x ∷ xs) ys = ap (λ l. x.1 ∷ l) (elements_onto xs ys)

  pub length_elements : (xs : List (ℕ × E)) → length (room_elements xs) ≡ length xs
  length_elements [] = refl
  length_elements (x ∷ xs) = ap suc (length_elements xs)

  some_push : (n : Name) (es : List E) (x : E) → SomeChange (pushes_of n (es ++ x ∷ []))
  some_push n es x = subst (λ l. SomeChange (map (Push n) l)) (sym (reverse-append es (x ∷ []))) (inl tt)

-- the pool has these rooms, which no step here changes
module _ {E : Type 0} (pool : List ℕ) where
  -- one party goes from v to w. No room is in two places, and what the others have loaded stays loaded
  advance : (ws ws' : List ℕ) (chain chain' : List (ℕ × E)) (views : List (View E)) (h h' : History E) (j : ℕ) (v w : View E) → WordsMeet ws chain pool views h → get_elem? views j ≡ some v
      → Legal (events h') → head ws' ≡ start chain' → room_elements chain' ≡ reverse (held (events h'))
      → ((r : ℕ) → in_chain r chain' + count_with_party r w ≤ in_chain r chain + count_with_party r v)
      → AtDoing ws' h' j w.doing
      → ((i read : ℕ) → i ≢ j → Since ws h i read → Since ws' h' i read)
      → WordsMeet ws' chain' pool (set views j w) h'
  advance ws ws' chain chain' views h h' j v w m at legal top holds few mine others = record {
    legal = legal;
    top = top;
    holds = holds;
    apart = λ r. omega (arith, m.apart r, few r, tally_set (count_with_party r) views j v w at);
    each = one_set (λ i u. AtDoing ws' h' i u.doing) views j w mine (λ i u ne e. does_frame ws ws' h h' i u.doing (λ read. others i read ne) (m.each i u e));
  }

  -- the party's own step changes neither head nor history
  pub rests : (ws : List ℕ) (chain : List (ℕ × E)) (views : List (View E)) (h : History E) (j : ℕ) (v w : View E) → WordsMeet ws chain pool views h → get_elem? views j ≡ some v
      → ((r : ℕ) → count_with_party r w ≤ count_with_party r v) → AtDoing ws h j w.doing → WordsMeet ws chain pool (set views j w) h
  rests ws chain views h j v w m at few mine = advance ws ws chain chain views h h j v w m at m.legal m.top m.holds (λ r. omega (arith, few r)) mine (λ i read other s. s)

  pub loads : (ws : List ℕ) (chain : List (ℕ × E)) (views : List (View E)) (h : History E) (j : ℕ) (v w : View E) (n : Name) → WordsMeet ws chain pool views h → get_elem? views j ≡ some v
      → ((r : ℕ) → count_with_party r w ≤ count_with_party r v) → AtDoing ws (h ++ (j, Load n) ∷ []) j w.doing → WordsMeet ws chain pool (set views j w) (h ++ (j, Load n) ∷ [])
  loads ws chain views h j v w n m at few mine =
      let h' = h ++ (j, Load n) ∷ [] in
      advance ws ws chain chain views h h' j v w m at (legal_event h j (Load n) m.legal tt) m.top (m.holds ∙ ap (λ es. reverse es) (sym (held_event h j (Load n)))) (λ r. omega (arith, few r)) mine
      (λ i read other. since_event ws ws h i read j (Load n) (λ z. other (sym z)) (inl refl))

  pub pushes : (ws : List ℕ) (chain : List (ℕ × E)) (views : List (View E)) (h : History E) (j : ℕ) (v w : View E) (r : ℕ) (n : Name) (x : E) → WordsMeet ws chain pool views h → get_elem? views j ≡ some v
      → held_rooms v.doing ≡ r ∷ [] → w.doing ≡ Idle → w.free ≡ v.free → HEAD < length ws
      → WordsMeet (set ws HEAD (suc r)) ((r, x) ∷ chain) pool (set views j w) (h ++ (j, Push n x) ∷ [])
  pushes ws chain views h j v w r n x m at was now free inside =
      let ws' = set ws HEAD (suc r) in
      let h' = h ++ (j, Push n x) ∷ [] in
      advance ws ws' chain ((r, x) ∷ chain) views h h' j v w m at (legal_event h j (Push n x) m.legal tt)
      (head_set ws (suc r) inside)
      (ap (λ (l : List E). x ∷ l) m.holds ∙ (sym (reverse-append (held (events h)) (x ∷ [])) ∙ ap (λ es. reverse es) (sym (held_event h j (Push n x)))))
      (λ s. let a : count_with_party s w ≡ times s v.free.rooms + 0 = (λ i. times s (free i).rooms + times s (held_rooms (now i))) in let b : count_with_party s v ≡ times s v.free.rooms + (one_if (eqb r s) + 0) = ap (λ l. times s v.free.rooms + times s l) was in omega arith)
      (subst (λ (d : Doing E). AtDoing ws' h' j d) (sym now) tt)
      (λ i read other. since_event ws ws' h i read j (Push n x) (λ z. other (sym z)) (inr tt))

  pub pushes_all : (ws : List ℕ) (chain : List (ℕ × E)) (views : List (View E)) (h : History E) (j : ℕ) (v w : View E) (before : List (ℕ × E)) (r : ℕ) (n : Name) (x : E) → WordsMeet ws chain pool views h → get_elem? views j ≡ some v
      → held_rooms v.doing ≡ rooms_then before r → w.doing ≡ Idle → w.free ≡ v.free → HEAD < length ws
      → WordsMeet (set ws HEAD (leads (rooms_of before) (suc r))) (before ++ (r, x) ∷ chain) pool (set views j w) (h ++ of_seat j (pushes_of n (elements_then before x)))
  pushes_all ws chain views h j v w before r n x m at was now free inside =
      let first = leads (rooms_of before) (suc r) in
      let ws' = set ws HEAD first in
      let chain' = before ++ (r, x) ∷ chain in
      let es = elements_then before x in
      let h' = h ++ of_seat j (pushes_of n es) in
      let more : events h' ≡ events h ++ pushes_of n es = events_more h j (pushes_of n es) in
      let old = held (events h) in
      let held_now : held (events h') ≡ old ++ reverse es = ap (λ z. held z) more ∙ (held_from-append [] (events h) (pushes_of n es) ∙ held_pushes n (reverse es) old) in
      advance ws ws' chain chain' views h h' j v w m at (subst (λ z. Legal z) (sym more) (legal_pushes (events h) n (reverse es) m.legal))
      (head_set ws first inside ∙ sym (start_onto before ((r, x) ∷ chain)))
      (elements_onto before ((r, x) ∷ chain) ∙ (sym (append_assoc (room_elements before) (x ∷ []) (room_elements chain)) ∙ ((λ i. sym (reverse-reverse es) i ++ m.holds i) ∙ (sym (reverse-append old (reverse es)) ∙ ap (λ z. reverse z) (sym held_now)))))
      (λ s.
      let a : count_with_party s w ≡ times s v.free.rooms + 0 = (λ i. times s (free i).rooms + times s (held_rooms (now i))) in
      let b : count_with_party s v ≡ times s v.free.rooms + times s (rooms_then before r) = ap (λ l. times s v.free.rooms + times s l) was in
      let c : in_chain s chain' ≡ times s (rooms_of before ++ r ∷ rooms_of chain) = ap (times s) (map-append (λ (y : ℕ × E). y.0) before ((r, x) ∷ chain)) in
      omega (arith, tally_append (λ p. one_if (eqb p s)) (rooms_of before) (r ∷ rooms_of chain), tally_append (λ p. one_if (eqb p s)) (rooms_of before) (r ∷ [])))
      (subst (λ (d : Doing E). AtDoing ws' h' j d) (sym now) tt)
      (λ i read other. since_pushes ws ws' h i read j (pushes_of n es) (λ z. other (sym z)) (some_push n (room_elements before) x))

  pub takes_chain : (ws : List ℕ) (chain : List (ℕ × E)) (views : List (View E)) (h : History E) (j : ℕ) (v w : View E) (n : Name) → WordsMeet ws chain pool views h → get_elem? views j ≡ some v
      → v.doing ≡ Idle → w.doing ≡ taking chain → w.free ≡ v.free → HEAD < length ws
      → WordsMeet (set ws HEAD 0) [] pool (set views j w) (h ++ (j, Taken n (room_elements chain)) ∷ [])
  takes_chain ws chain views h j v w n m at was now free inside =
      let ws' = set ws HEAD 0 in
      let x = Taken n (room_elements chain) in
      let h' = h ++ (j, x) ∷ [] in
      let empty = head_set ws 0 inside in
      advance ws ws' chain [] views h h' j v w m at (legal_event h j x m.legal m.holds) empty (ap (λ es. reverse es) (sym (held_event h j x)))
      (λ s. let a : count_with_party s w ≡ times s v.free.rooms + in_chain s chain = (λ i. times s (free i).rooms + times s (held_rooms (now i))) ∙ ap (λ l. times s v.free.rooms + times s l) (rooms_taking chain) in
      let b : count_with_party s v ≡ times s v.free.rooms + 0 = ap (λ d. times s v.free.rooms + times s (held_rooms d)) was in omega arith)
      (subst (λ (d : Doing E). AtDoing ws' h' j d) (sym now) (does_taking ws' h' j chain))
      (λ i read other. since_event ws ws' h i read j x (λ z. other (sym z)) (emptied ws ws' n chain empty m.top))

  -- rooms go from the pool to the party, or back; head is as it was
  since_head : (ws ws' : List ℕ) (h : History E) (i read : ℕ) → head ws' ≡ head ws → Since ws h i read → Since ws' h i read
  since_head ws ws' h i read same s = record { before = s.before; name = s.name; later = s.later; is = s.is; none = s.none; same = ⊎_elim (λ e. inl (same ∙ e)) (λ c. inr c) s.same }

  pub deals : (ws ws' : List ℕ) (chain : List (ℕ × E)) (pool' : List ℕ) (views : List (View E)) (h : History E) (j : ℕ) (v w : View E) → WordsMeet ws chain pool views h → get_elem? views j ≡ some v
      → head ws' ≡ head ws → ((r : ℕ) → times r pool' + count_with_party r w ≤ times r pool + count_with_party r v) → AtDoing ws' h j w.doing
      → WordsMeet ws' chain pool' (set views j w) h
  deals ws ws' chain pool' views h j v w m at same few mine = record {
    legal = m.legal;
    top = same ∙ m.top;
    holds = m.holds;
    apart = λ r. omega (arith, m.apart r, few r, tally_set (count_with_party r) views j v w at);
    each = one_set (λ i u. AtDoing ws' h i u.doing) views j w mine (λ i u ne e. does_frame ws ws' h h i u.doing (λ read. since_head ws ws' h i read same) (m.each i u e));
  }

  -- a party is cut in two
  pub forks : (ws : List ℕ) (chain : List (ℕ × E)) (views : List (View E)) (h : History E) (j : ℕ) (v left right : View E) → WordsMeet ws chain pool views h → get_elem? views j ≡ some v
      → ((r : ℕ) → count_with_party r left + count_with_party r right ≤ count_with_party r v) → AtDoing ws h j left.doing → ((i : ℕ) → AtDoing ws h i right.doing)
      → WordsMeet ws chain pool (set views j left ++ right ∷ []) h
  forks ws chain views h j v left right m at few here there =
      let one = rests ws chain views h j v left m at (λ r. let f = few r in omega arith) here in record {
        legal = m.legal;
        top = m.top;
        holds = m.holds;
        apart = λ r. omega (arith, m.apart r, few r, tally_set (count_with_party r) views j v left at, tally_snoc (count_with_party r) (set views j left) right);
        each = λ i u e. ⊎_elim (one.each i u) (λ (t : right ≡ u). subst (λ (z : View E). AtDoing ws h i z.doing) t (there i)) (at_snoc (set views j left) right u i e);
      }
