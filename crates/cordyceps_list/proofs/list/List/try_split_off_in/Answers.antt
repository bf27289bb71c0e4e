use Rattle.std.proofs.Common.{◌≡◌, length, take, drop, ap, ◌∙◌, sym, arith, rules}
use Rattle.std.proofs.lemmas.List.{length-map}
use Rattle.std.specs.List.{take-map, drop-map}
use Rattle.cordyceps_base.specs.Nodes.{elements}
use Rattle.cordyceps_list.proofs.Places.{fit_front}
use Rattle.cordyceps_list.proofs.list.List.try_split_off_in.Goals as goal

pub invariant_of-self : goal.invariant_of-self
invariant_of-self g c =
    fit_front c.self.inside.chain c.put.new.self c.self.inside.fingers c.args.index c.self.invariant (omega (arith, c.len-len.ensures))
    (c.put.ensures ∙ c.cut_after-front.ensures.0 ∙ ap (take c.args.index) c.take.ensures.0)

pub returns-clause-some : goal.returns-clause-some
returns-clause-some g c =
    let nodes = c.self.inside.chain in
    let index = c.args.index in
    let front = c.put.ensures ∙ c.cut_after-front.ensures.0 ∙ ap (take index) c.take.ensures.0 in
    let rest = c.cut_after-front.ensures.1 ∙ ap (drop index) c.take.ensures.0 in (
      ap elements front ∙ sym (take-map (λ n. n.1) index nodes) ∙ ap (take index) c.self.view_is,
      c.from_chain.ensures ∙ ap elements rest ∙ sym (drop-map (λ n. n.1) index nodes) ∙ ap (drop index) c.self.view_is,
    )

pub returns-then-index-len-clause-variant : goal.returns-then-index-len-clause-variant
returns-then-index-len-clause-variant g c =
    let n : length c.self.inside.chain ≡ length c.args.self.now = omega (arith, ap length c.self.view_is, length-map c.self.inside.chain (λ n. n.1)) in
    search rules

pub returns-clause-counted : goal.returns-clause-counted
returns-clause-counted g c =
    let n : length c.self.inside.chain ≡ length c.args.self.now = omega (arith, ap length c.self.view_is, length-map c.self.inside.chain (λ n. n.1)) in
    cc
