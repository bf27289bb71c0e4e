-- What a handle ends as, once a `&mut` to what it holds has ended.
use Rattle.std.specs.Prelude.{Some}
use Rattle.std.specs.Borrow.{Fml, MutBor, Lends}
use Rattle.cordyceps_base.specs.Nodes.{Nodes}
use Rattle.cordyceps_c_base.specs.declared.carried.Carried.{Carried}
use Rattle.cordyceps_c_lists.specs.Lists.{Listed}
use Rattle.cordyceps_c_lists.specs.Rows.{list_row, node_list_row}
use Rattle.cordyceps_c_lists.specs.declared.list_handle.ListHandle.{ListHandle}
use Rattle.cordyceps_c_lists.specs.contracts.list_handle.ListHandle as list_handle
use Rattle.cordyceps_c_lists.specs.declared.node_list_handle.NodeListHandle.{NodeListHandle}
use Rattle.cordyceps_c_lists.specs.contracts.node_list_handle.NodeListHandle as node_list_handle

abbrev pub with_list : ListHandle → Listed → ListHandle
with_list h w = record { at = h.at; held = Some w }

abbrev pub lends_list : MutBor ListHandle → MutBor Listed → Fml
lends_list h r = Lends list_handle.the_row list_row h r (with_list h.now)

abbrev pub with_node_list : NodeListHandle → Nodes Carried → NodeListHandle
with_node_list h w = record { at = h.at; held = Some w }

abbrev pub lends_node_list : MutBor NodeListHandle → MutBor (Nodes Carried) → Fml
lends_node_list h r = Lends node_list_handle.the_row node_list_row h r (with_node_list h.now)
