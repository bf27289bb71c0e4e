use Rattle.std.proofs.Common.{take, drop, sym, ap, ◌∙◌}
use Rattle.cordyceps_base.proofs.double_chain.DoubleChain.split.Goals as goal

pub returns-then-k-eq0 : goal.returns-then-k-eq0
returns-then-k-eq0 g c =
    let none = sym c.if-k-eq0.true in record { front = c.empty.ensures ∙ ap (λ j. take j c.args.self) none; back = ap (λ j. drop j c.args.self) none }

pub returns : goal.returns
returns g c = record { front = c.cut.ensures.0; back = c.cut.ensures.1 }
