use Rattle.std.proofs.Common.{◌++◌, reverse, ap, ◌∙◌, subst}
use Rattle.freelist.specs.Blocks.{TakesShared}
use Rattle.freelist.proofs.local.Local.take_shared.Goals as goal

pub returns : goal.returns
returns g c =
    let element = g.T.Linked.element in
    let (batch, same, took) = c.take_all-shared.ensures in
    let blocks = c.pile.ensures ∙ ap (λ z. reverse z ++ c.self.inside.blocks) same in
    subst (λ before. TakesShared element before.blocks before.party (record { blocks = c.pile.new.hand; party = c.take_all-shared.new.party })) c.self.view_is (batch, took, blocks)
