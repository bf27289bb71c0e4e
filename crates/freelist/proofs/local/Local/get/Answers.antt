use Rattle.std.proofs.Common.{◌≡◌, List, [], ◌∷◌, map, Option, Some, None, sym, subst, arith, rules}
use Rattle.std.proofs.lemmas.Grind.{common_steps}
use Rattle.std.proofs.lemmas.List.{nil_from_length}
use Rattle.std.specs.Prelude.{MatchOption}
use Rattle.cordyceps_base.specs.Element.{Element}
use Rattle.cordyceps_stack.specs.Shared.Calls.{Takes}
use Rattle.freelist.specs.Blocks.{LocalOf, GivesFirst, GetsFrom}
use Rattle.freelist.proofs.local.Local.get.Goals as goal

module _ {T H : Type 0} (element : H → Element T) where
  out_first : (blocks left : List (Element T)) (result : Option H) → MatchOption result ((blocks ≡ []) × (left ≡ [])) (λ h. blocks ≡ element h ∷ left) → GivesFirst element blocks result left
  out_first blocks left None m = m
  out_first blocks left (Some h) m = m

  -- there was no block at hand, and the party took all that was shared
  taken : (before after : LocalOf T H) (stack : List (Element T)) (batch : List H) (result : Option H) → before.blocks ≡ [] → stack ≡ map element batch → Takes batch before.party after.party
      → GivesFirst element stack result after.blocks → GetsFrom element before.blocks before.party result after
  taken before after stack batch result none same took first =
      subst (λ bs. GetsFrom element bs before.party result after) (sym none) (batch, took, subst (λ z. GivesFirst element z result after.blocks) same first)

pub returns : goal.returns
returns g c =
    let element = g.T.Linked.element in
    let t = c.take_all.ensures in
    let none = nil_from_length c.self.inside.blocks (first_of (search rules, grind (arith, common_steps))) in
    subst (λ before. GetsFrom element before.blocks before.party c.pop-2.result (record { blocks = c.pop-2.new.self; party = c.take_all.new.party })) c.self.view_is
    (taken element (record { blocks = c.self.inside.blocks; party = c.self.inside.party }) (record { blocks = c.pop-2.new.self; party = c.take_all.new.party }) c.take_all.result t.0 c.pop-2.result none t.1 t.2
    (out_first element c.take_all.result c.pop-2.new.self c.pop-2.result c.pop-2.ensures))
