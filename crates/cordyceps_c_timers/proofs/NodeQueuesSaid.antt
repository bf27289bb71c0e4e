-- What the calls of a heap say of a priority queue of C's own nodes.
use Rattle.std.proofs.Common.{◌≡◌, [], ◌∷◌, ◌++◌, List, Option, Some, None, MatchOption, refl, ap, sym, ◌∙◌, subst, IsPermutation}
use Rattle.std.specs.declared.cmp.Ordering.{Ordering}
use denote.RawPtr.{Ptr}
use Rattle.cordyceps_base.specs.Element.{Element}
use Rattle.cordyceps_base.specs.Nodes.{Nodes}
use Rattle.cordyceps_single.specs.Arrangement.{IsEarliestLeast}
use Rattle.cordyceps_stable.specs.Arranged.{precedes}
use Rattle.cordyceps_base.specs.BySpot.{HasSpot, IsTaken}
use Rattle.cordyceps_base.specs.DoubleLines.{flat}
use Rattle.cordyceps_heap.specs.Heap.{Heaped, Holds, nodes_in}
use Rattle.cordyceps_stable.proofs.Arrivals.{Stands, first_of}
use Rattle.cordyceps_stable.proofs.Valid.{permuted_keeps}
use Rattle.cordyceps_c_base.specs.declared.carried.Carried.{Carried}
use Rattle.cordyceps_c_timers.specs.Arranged.{arranged, placed}
use Rattle.cordyceps_c_timers.specs.declared.node_queue.ByValue.{ByValue}
use Rattle.cordyceps_c_timers.specs.NodeQueues.{Begins, HasArrivals, value_of}
use Rattle.cordyceps_c_timers.proofs.Arranging.{changed, comes_of_heap, kept, popped, pushed, removed, stayed}
use Rattle.cordyceps_c_timers.proofs.Placing.{by_number, lawful}

abbrev Lines : Type 0
Lines = List (Nodes Carried)

-- the nodes of a heap's lines, in the order in which they come out
abbrev pub seen : Lines → Nodes Carried
seen ls = arranged value_of (flat ls)

abbrev Held : Lines → Nodes Carried → Type 0
Held = Holds (by_number value_of)

-- what is seen stands for the arrivals
stands : (ls : Lines) (a : Nodes Carried) → Held ls a → Stands (by_number value_of) (Held ls) (seen ls)
stands ls a held = comes_of_heap value_of ls a held

module _ (ls ms : Lines) (some : HasArrivals ls) where
  pub pushes : (p : Ptr) (e : Element Carried) → ((x : Nodes Carried) → Held ls x → Held ms (x ++ (p, e) ∷ [])) → seen ms ≡ placed value_of p e (seen ls)
  pushes p e h =
      let (a, held) = some in
      pushed value_of (flat ls) (flat ms) (Held ls) (Held ms) (stands ls a held) (stands ms (a ++ (p, e) ∷ []) (h a held)) p e h

  pub removes : (p : Ptr) (e : Element Carried) → ((x : Nodes Carried) → Held ls x → (rest : Nodes Carried) × (IsTaken x p e rest × Held ms rest))
      → IsTaken (seen ls) p e (seen ms)
  removes p e h =
      let (a, held) = some in let (rest, (_, left)) = h a held in
      removed value_of (flat ls) (flat ms) (Held ls) (Held ms) (stands ls a held) (stands ms rest left) p e h

  pub pops : (p : Ptr) (e : Element Carried)
      → ((x : Nodes Carried) → Held ls x → (rest : Nodes Carried) × (IsEarliestLeast (precedes (by_number value_of)) x (p, e) rest × Held ms rest))
      → seen ls ≡ (p, e) ∷ seen ms
  pops p e h =
      let (a, held) = some in let (rest, (_, left)) = h a held in
      popped value_of (flat ls) (flat ms) (Held ls) (Held ms) (stands ls a held) (stands ms rest left) p e h

  -- the same arrivals, in other lines
  pub stays : ((x : Nodes Carried) → Held ls x → Held ms x) → seen ms ≡ seen ls
  stays h =
      let (a, held) = some in stayed value_of (flat ls) (flat ms) (Held ls) (Held ms) (stands ls a held) (stands ms a (h a held)) h

  -- the node at p got another element
  pub changes : (p : Ptr) (e w : Element Carried)
      → ((x : Nodes Carried) → Held ls x → (left : Nodes Carried) × (IsTaken x p e left × Held ms (left ++ (p, w) ∷ [])))
      → (left : Nodes Carried) × IsTaken (seen ls) p e left × (seen ms ≡ placed value_of p w left)
  changes p e w h =
      let (a, held) = some in let (others, (_, left)) = h a held in
      changed value_of (flat ls) (flat ms) (Held ls) (Held ms) (stands ls a held) (stands ms (others ++ (p, w) ∷ []) left) p e w h

-- the first of the nodes
pub first : (ls : Lines) → HasArrivals ls → (x : Ptr × Element Carried)
    → ((b : Nodes Carried) → Held ls b → (rest : Nodes Carried) × IsEarliestLeast (precedes (by_number value_of)) b x rest)
    → (rest : Nodes Carried) × (seen ls ≡ x ∷ rest)
first ls some x h = let (a, held) = some in first_of (lawful value_of) (Held ls) (seen ls) (stands ls a held) x h

-- a node that is seen is in the heap
pub waits_at : (ls : Lines) (p : Ptr) → HasSpot (seen ls) p → HasSpot (flat ls) p
waits_at ls p there = permuted_keeps (seen ls) (flat ls) (kept value_of (flat ls)) p there

-- what the heap's call to take the first says
abbrev Taken : Option (Element Carried) → Heaped Carried ByValue → Heaped Carried ByValue → Type 0
Taken o h k =
    MatchOption o ((nodes_in h ≡ []) × (k ≡ h))
    (λ e. (spot : Ptr) × IsPermutation (nodes_in h) ((spot, e) ∷ nodes_in k)
    × ((cmp : Carried → Carried → Ordering) (a : Nodes Carried) → cmp ≡ by_number value_of → Holds cmp h.lines a
    → (rest : Nodes Carried) × (IsEarliestLeast (precedes cmp) a (spot, e) rest × Holds cmp k.lines rest)))

module _ (h k : Heaped Carried ByValue) (some : HasArrivals h.lines) where
  pub taken_arrivals : (o : Option (Element Carried)) → Taken o h k → HasArrivals k.lines
  taken_arrivals None (none, same) = subst (λ (x : Heaped Carried ByValue). HasArrivals x.lines) (sym same) some
  taken_arrivals (Some e) (spot, kept, tells) = let (a, held) = some in let (rest, (_, left)) = tells (by_number value_of) a refl held in (rest, left)

  pub taken_said : (q : Nodes Carried) → seen h.lines ≡ q → (o : Option (Element Carried)) → Taken o h k
      → MatchOption o ((q ≡ []) × (seen k.lines ≡ [])) (λ e. Begins e q (seen k.lines))
  taken_said q is None (none, same) =
      let nil = ap (arranged value_of) none in (sym is ∙ nil, ap (λ (x : Heaped Carried ByValue). seen x.lines) same ∙ nil)
  taken_said q is (Some e) (spot, kept, tells) = (spot, sym is ∙ pops h.lines k.lines some spot e (λ x held. tells (by_number value_of) x refl held))
