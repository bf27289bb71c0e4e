use Rattle.std.proofs.Common.{◌≡◌, ◌++◌, length, ap, ◌∙◌, arith, length-append}
use Rattle.std.proofs.lemmas.List.{map-append}
use Rattle.cordyceps_base.specs.Nodes.{elements}
use Rattle.cordyceps_list.proofs.Places.{fit_off}
use Rattle.cordyceps_list.proofs.list.List.append.Goals as goal

pub invariant_of-self : goal.invariant_of-self
invariant_of-self g c =
    let more = c.take-more.result in
    let is = c.put.ensures ∙ c.join.ensures ∙ ap (λ s. s ++ more) c.take-nodes.ensures.0 in
    fit_off c.put.new.self c.take_off-2.new.self (omega (arith, c.len.ensures, c.len-2.ensures, c.take_off-2.ensures, ap length is, length-append c.self.inside.chain more))

pub returns-clause-joined : goal.returns-clause-joined
returns-clause-joined g c =
    let chain = c.self.inside.chain in
    let more = c.take-more.result in
    let is : elements c.put.new.self ≡ elements chain ++ elements more = ap elements (c.put.ensures ∙ c.join.ensures ∙ ap (λ s. s ++ more) c.take-nodes.ensures.0) ∙ map-append (λ n. n.1) chain more in
    cc
