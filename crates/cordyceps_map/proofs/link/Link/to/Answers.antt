use Rattle.std.proofs.Common.{sym, ap, ◌∙◌, subst}
use denote.RawPtr.{Testable}
use Rattle.cordyceps_map.specs.Nullable.{spot_of}
use Rattle.cordyceps_map.proofs.Nulls.{spot_in_block}
use Rattle.cordyceps_map.proofs.link.Link.to.Goals as goal

pub invariant_of-result : goal.invariant_of-result
invariant_of-result c = subst Testable (sym c.address_of.ensures) c.requires.1

pub returns : goal.returns
returns c = ap spot_of c.address_of.ensures ∙ spot_in_block c.args.spot c.requires.0
