-- What a contract sees of the nodes of a map.
use Rattle.std.specs.Prelude.{ℕ, map}
use Rattle.cordyceps_base.specs.Element.{Element}
use Rattle.cordyceps_base.specs.Nodes.{Nodes}
use Rattle.cordyceps_many.specs.MultiList.{Multi}
use Rattle.cordyceps_map.specs.declared.entry.Entry.{Entry}
use Rattle.cordyceps_map.specs.StableMap.{Mapped}

module _ {K V : Type 0} where
  -- the key with the value
  abbrev pub pair_of : Entry K V → K × V
  pair_of e = (e.key, e.value)

  -- the number, and the key with the value
  abbrev pub shown_element : Element (Entry K V) → Element (K × V)
  shown_element e = record { id = e.id; value = pair_of e.value }

  -- the nodes, each with its number, its key and its value
  abbrev pub shown : Nodes (Entry K V) → Nodes (K × V)
  shown = map (λ n. (n.0, shown_element n.1))

  -- the nodes as a contract sees them, the lists, and that there are n buckets
  abbrev pub seen : Multi (Entry K V) → ℕ → Mapped (K × V)
  seen m n = record { nodes = shown m.nodes; lists = m.lists; buckets = n }
