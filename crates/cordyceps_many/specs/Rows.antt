-- The nodes of all lists.
use Rattle.std.specs.Prelude.{◌≡◌, ◌≢◌, ℕ, true, List, [], ◌∷◌, ◌++◌, map, if◌then◌else◌}
use denote.RawPtr.{Ptr, Testable, InBlock}
use Rattle.cordyceps_base.specs.declared.boxes.homes.Home.{Home}
use Rattle.cordyceps_base.specs.Boxes.{box_value, box_addresses}
use Rattle.cordyceps_base.specs.Element.{Element}
use Rattle.cordyceps_base.specs.Nodes.{Nodes}
use Rattle.cordyceps_base.specs.Spots.{same_ptr}
use Rattle.cordyceps_many.specs.declared.block.Block.{Block}
use Rattle.cordyceps_many.specs.declared.hook.Hook.{Hook}
use Rattle.cordyceps_many.specs.Threads.{is_in, unlinked, hook_in, AllOff}

-- a node as its address, the handle that frees it and its block; the last three types are of its hooks
abbrev pub Held : Type 0 → Type 0 → Type 0 → Type 0 → Type 0
Held X Y A E = Ptr × Home × Block X Y A E

module _ {X Y A E : Type 0} where
  abbrev pub block_of : Held X Y A E → Block X Y A E
  block_of n = box_value n

  abbrev pub block_element : Block X Y A E → Element X
  block_element b = record { id = b.id; value = b.value }

  -- the nodes, each as its spot and its element
  abbrev pub nodes_of : List (Held X Y A E) → Nodes X
  nodes_of = map (λ n. (n.0, block_element (block_of n)))

  -- hook i of the node at p
  abbrev pub hook_at : List (Held X Y A E) → ℕ → Ptr → Hook
  hook_at [] i p = unlinked
  hook_at (n ∷ ns) i p = if same_ptr p n.0 then hook_in (block_of n).hooks i else hook_at ns i p

  -- p may be compared with null, and where it is not null a node is there
  pub record Reaches (p : Ptr) (ns : List (Held X Y A E)) : Type 0 where
    pub testable : Testable p
    pub there : InBlock p → is_in p (box_addresses ns) ≡ true

  -- nothing but hooks i changes
  pub record KeepsOthers (i : ℕ) (ns ms : List (Held X Y A E)) : Type 0 where
    pub addresses : box_addresses ms ≡ box_addresses ns
    pub nodes : nodes_of ms ≡ nodes_of ns
    pub hooks : (j : ℕ) → j ≢ i → (q : Ptr) → hook_at ms j q ≡ hook_at ns j q

  -- the node e, which has no mark of a list but list 0, came to the end of ns, is at p, and ms is the row then
  pub record IsJoined (ns : List (Held X Y A E)) (p : Ptr) (e : Element X) (ms : List (Held X Y A E)) : Type 0 where
    pub alloc : Home
    pub block : Block X Y A E
    pub off : AllOff block.hooks
    pub shows : block_element block ≡ e
    pub row : ms ≡ ns ++ (p, alloc, block) ∷ []

  -- the node e at p was taken out of ns, and ms is left
  pub record IsOut (ns : List (Held X Y A E)) (p : Ptr) (e : Element X) (ms : List (Held X Y A E)) : Type 0 where
    pub front : List (Held X Y A E)
    pub back : List (Held X Y A E)
    pub alloc : Home
    pub block : Block X Y A E
    pub was : ns ≡ front ++ (p, alloc, block) ∷ back
    pub left : ms ≡ front ++ back
    pub shows : block_element block ≡ e
