-- What is told of a node that came out, or of none, as the handle holds it.
use Rattle.std.proofs.Common.{◌≡◌, Bool, true, false, MatchBool, Option, Some, None, MatchOption, sym, subst}
use Rattle.cordyceps_base.specs.Element.{Element}
use Rattle.cordyceps_base.specs.declared.node.Block.{Block}
use Rattle.cordyceps_c_base.specs.declared.carried.Carried.{Carried}
use Rattle.cordyceps_c_base.specs.Elements.{HoldsElement}

module _ (N : Type 0) (P : Element Carried → Type 0) (held : Option (Block Carried)) where
  abbrev Told : Bool → Type 0
  Told answer = MatchBool answer ((e : Element Carried) × HoldsElement held e × P e) ((held ≡ None) × N)

  pub out_of : (o : Option (Element Carried)) (answer : Bool)
      → MatchOption o ((answer ≡ false) × (held ≡ None)) (λ e. (answer ≡ true) × HoldsElement held e) → MatchOption o N P → Told answer
  out_of None answer (is, none) n = subst Told (sym is) (none, n)
  out_of (Some e) answer (is, holds) p = subst Told (sym is) (e, holds, p)
