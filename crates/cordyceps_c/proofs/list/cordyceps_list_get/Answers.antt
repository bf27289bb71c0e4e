use Rattle.std.proofs.Common.{ℕ, Option, MatchOption, sym, ap, ◌∙◌}
use Rattle.cordyceps_c_base.proofs.Answering.{written}
use Rattle.cordyceps_c_lists.specs.declared.list_handle.ListHandle.{ListHandle}
use Rattle.cordyceps_c_lists.specs.Lists.{Holds, NamesNone}
use Rattle.cordyceps_c.proofs.list.cordyceps_list_get.Goals as goal

pub returns-clause-found : goal.returns-clause-found
returns-clause-found c =
    let tried = c.get-payload in let out = c.write_found in let l = c.list_mut.result.now in let at = c.args.at in
    rw (ap (λ (h : ListHandle). h.held) (sym c.is_some.ensures.same) ∙ c.list_mut.ensures.value)
    (written (λ (o : Option ℕ). MatchOption o (NamesNone l at) (λ x. Holds at x l)) tried.result out.result c.args.out.now out.new.out out.ensures tried.ensures)
