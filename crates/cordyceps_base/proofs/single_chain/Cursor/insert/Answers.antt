use Rattle.std.proofs.Common.{[], ◌∷◌, ◌++◌, ap, ◌∙◌}
use Rattle.cordyceps_base.proofs.single_chain.Cursor.insert.Goals as goal

pub returns : goal.returns
returns g c =
    let was = c.take-cursor.ensures.0 in let (at, before, rest) = c.with_node.ensures in let is = c.put.ensures in (
      at,
      ap (λ v. v.before) is ∙ before ∙ ap (λ v. v.before ++ (at, c.args.node) ∷ []) was,
      ap (λ v. v.rest) is ∙ rest ∙ ap (λ v. v.rest) was,
    )
