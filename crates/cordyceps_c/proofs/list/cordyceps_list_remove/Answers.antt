use Rattle.std.proofs.Common.{◌≡◌, ℕ, Option, Some, MatchOption, sym, ◌∙◌}
use Rattle.cordyceps_c_base.proofs.Answering.{written}
use Rattle.cordyceps_c_lists.specs.Lists.{NamesNone, Removes}
use Rattle.cordyceps_c.proofs.list.cordyceps_list_remove.Goals as goal

pub returns : goal.returns
returns c =
    let tried = c.remove-payload in let out = c.write_found in let l = c.deref_mut.result.now in let m = tried.new.self in let at = c.args.at in
    rw (c.in-Some.ensures.taken ∙ (λ i. Some (sym c.deref_mut.ensures.value i)))
    (m, c.put.ensures, written (λ (o : Option ℕ). MatchOption o (NamesNone l at × (m ≡ l)) (λ x. Removes at x l m)) tried.result out.result c.args.out.now out.new.out out.ensures tried.ensures)
