-- A node is made to lead to another.
use Rattle.std.proofs.Common.{◌≡◌, Option, Some, refl, slice_get}
use denote.RawPtr.{Ptr}
use Rattle.cordyceps_base.specs.BySpot.{HasSpot}
use Rattle.cordyceps_base.specs.Element.{values}
use Rattle.cordyceps_base.specs.Nodes.{Nodes, elements, spots, with_item}
use Rattle.cordyceps_base.specs.Spots.{index_of}
use Rattle.cordyceps_many.proofs.Members.{has_in}
use Rattle.cordyceps_map.specs.declared.entry.Entry.{Entry}
use Rattle.cordyceps_map.specs.Chains.{IsRedirected}
use Rattle.cordyceps_map.proofs.ShownNodes.{shown_written}
use Rattle.cordyceps_many.proofs.ValueAt.{index_value, value_written, value_kept}

module _ {K V : Type 0} where
  pub redirected : (c : Nodes (Entry K V)) (p : Ptr) (next : Option Ptr) (e : Entry K V) → HasSpot c p → slice_get (values (elements c)) (index_of p (spots c)) ≡ Some e
      → IsRedirected c p next (with_item c (index_of p (spots c)) (record e { next = next }))
  redirected c p next e there says = let was = index_value c p e says in record {
    shows = shown_written c p e (record e { next = next }) was refl;
    entry = e;
    was = was;
    here = value_written c p (record e { next = next }) (has_in c p there);
    others = λ q other. value_kept c p (record e { next = next }) q other;
  }
