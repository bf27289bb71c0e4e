use Rattle.std.proofs.Common.{[], ◌∷◌, ◌++◌, sym, ◌∙◌, ap, arith}
use Rattle.cordyceps_stable.proofs.Parts.{end_is_at, end_cut, end_alone, taken_is}
use Rattle.cordyceps_stable.proofs.renewing.part_at.Goals as goal

pub cut-requires : goal.cut-requires
cut-requires g c =
    let (e, rest, taken, is) = c.move_back.ensures in
    (omega (arith, c.if-last-eq0.false), end_is_at c.move_back.new.self rest c.args.at.ptr e c.len-last.result is c.len-last.ensures)

pub returns-then-last-eq0-clause-parts : goal.returns-then-last-eq0-clause-parts
returns-then-last-eq0-clause-parts g c =
    let (e, rest, taken, is) = c.move_back.ensures in let p = c.args.at.ptr in
    let none = end_alone c.move_back.new.self rest (p, e) c.len-last.result is c.len-last.ensures c.if-last-eq0.true in
    (e, taken_is c.args.chain rest c.empty.result p e taken (c.empty.ensures ∙ sym none), is ∙ ap (λ l. l ++ (p, e) ∷ []) none)

pub returns-clause-parts : goal.returns-clause-parts
returns-clause-parts g c =
    let (e, rest, taken, is) = c.move_back.ensures in let p = c.args.at.ptr in
    let (front, one) = end_cut c.move_back.new.self rest (p, e) c.len-last.result is c.len-last.ensures in
    (e, taken_is c.args.chain rest c.cut.result.0 p e taken (c.cut.ensures.0 ∙ front), c.cut.ensures.1 ∙ one)
