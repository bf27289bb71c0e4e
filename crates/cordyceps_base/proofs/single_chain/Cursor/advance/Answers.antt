use Rattle.std.proofs.Common.{[], ◌∷◌, ◌++◌, ap, ◌∙◌, sym}
use Rattle.cordyceps_base.proofs.single_chain.Cursor.advance.Goals as goal

pub returns : goal.returns
returns g c =
    let was = c.take-cursor.ensures.0 in let (n, rest, before) = c.moved.ensures in let is = c.put.ensures in (
      n,
      ap (λ v. v.rest) (sym was) ∙ rest ∙ ap (λ v. n ∷ v.rest) (sym is),
      ap (λ v. v.before) is ∙ before ∙ ap (λ v. v.before ++ n ∷ []) was,
    )
