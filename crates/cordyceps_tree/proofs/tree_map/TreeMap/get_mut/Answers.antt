use Rattle.std.proofs.Common.{refl, sym}
use Rattle.cordyceps_tree.specs.TreeMaps.{is_key}
use Rattle.cordyceps_tree.proofs.Keys.{written_has}
use Rattle.cordyceps_tree.proofs.tree_map.TreeMap.get_mut.Goals as goal

pub returns-in-None : goal.returns-in-None
returns-in-None g c = (refl, record { writes_back = tt; value = sym c.in-None.ensures.found; kept = λ w p h. written_has (is_key g.K.Ord.cmp c.args.key.now) c.args.self.now w p h })

pub returns-in-Some : goal.returns-in-Some
returns-in-Some g c = (refl, record { writes_back = tt; value = c.value_at_mut.ensures.value; kept = λ w p h. written_has (is_key g.K.Ord.cmp c.args.key.now) c.args.self.now w p h })
