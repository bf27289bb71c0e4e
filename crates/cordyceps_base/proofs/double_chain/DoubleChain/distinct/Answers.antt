use Rattle.std.proofs.Common.{ℕ, ◌+◌, arith, ◌<◌, ap, ◌∙◌, sym, subst}
use Rattle.cordyceps_base.specs.DoubleChain.{IsLinked}
use Rattle.cordyceps_base.specs.Nodes.{nodes_of}
use Rattle.cordyceps_base.specs.Spots.{AreDistinct}
use Rattle.cordyceps_base.proofs.Nodes.{spots_are}
use Rattle.cordyceps_base.proofs.double_chain.DoubleChain.distinct.Goals as goal

-- a block has its two links and its number
takes_space : (x y s : ℕ) → 0 < 24 + x + s + y
takes_space x y s = omega arith

pub invariant_of-result : goal.invariant_of-result
invariant_of-result g c = let i = c.self.inside in subst (IsLinked i.head.ptr i.tail.ptr i.len) (sym c.distinct.ensures.0) c.self.invariant

pub returns : goal.returns
returns g c = (ap nodes_of c.distinct.ensures.0 ∙ c.self.view_is, subst AreDistinct (sym (spots_are c.self.inside.boxes.blocks c.args.self c.self.view_is)) (c.distinct.ensures.1 (takes_space _ _ _)))
