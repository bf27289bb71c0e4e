use Rattle.std.proofs.Common.{◌≡◌, [], ◌∷◌, ◌++◌, ◌∙◌, ap, append_assoc, rules, subst, sym, append-nil}
use Rattle.cordyceps_shared.specs.Histories.{plain}
use Rattle.cordyceps_shared.specs.Knowing.{IsPrefixOf}
use Rattle.cordyceps_channel.proofs.Among.{all_received}
use Rattle.cordyceps_channel.proofs.Apart.{AreKnown, exactly_all, known_later, of_middle, order_of_all}
use Rattle.cordyceps_channel.proofs.Received.{receives_none, receives_then}
use Rattle.cordyceps_channel.proofs.laws.receive_all_of.Goals as goal

pub loop-sender-init : goal.loop-sender-init
loop-sender-init g c = ([], sym (append-nil c.args.closed.items), tt, receives_none c.args.receiver.now)

pub learn-requires : goal.learn-requires
learn-requires g c =
    let (learned, all, known, before) = c.loop-sender.invariant in
    let sender = c.in-Some.sender in
    let rest = c.pop.new.self.items in
    let is = all ∙ (ap (λ l. l ++ learned) c.in-Some.ensures.items ∙ append_assoc rest (sender ∷ []) learned) in
    c.into_receipt.ensures.receipt.0 ∙ (of_middle (λ u. u.table ≡ c.args.receiver.now.table) c.args.closed.items rest sender learned is c.requires.table ∙ sym before.table)

pub loop-sender-preserved : goal.loop-sender-preserved
loop-sender-preserved g c =
    let (learned, all, known, before) = c.loop-sender.invariant in
    let sender = c.in-Some.sender in
    let rest = c.pop.new.self.items in
    let v = c.loop-sender.receiver in
    let w = c.learn.new.self in
    let told = subst (λ h. IsPrefixOf h (plain w.seen)) c.into_receipt.ensures.receipt.1 c.learn.ensures.told in (
      sender ∷ learned,
      all ∙ (ap (λ l. l ++ learned) c.in-Some.ensures.items ∙ append_assoc rest (sender ∷ []) learned),
      ((told, c.into_receipt.ensures.named), known_later learned v w c.learn.ensures.received.seen known),
      receives_then c.args.receiver.now v w [] [] before c.learn.ensures.received,
    )

pub returns-clause-all : goal.returns-clause-all
returns-clause-all g c =
    let (learned, all, known, before) = c.loop-sender.invariant in
    all_received (λ v. v.items) c.receive_all.result c.args.receiver.now c.loop-sender.receiver c.receive_all.new.receiver before c.receive_all.ensures

pub returns-clause-order : goal.returns-clause-order
returns-clause-order g c =
    let (learned, all, known, before) = c.loop-sender.invariant in
    let v = c.loop-sender.receiver in
    let none : c.loop-sender.closed.items ≡ [] = search rules in
    let is = all ∙ ap (λ l. l ++ learned) none in
    order_of_all (λ l. l.items) c.receive_all.result c.args.closed.items v c.receive_all.new.receiver c.requires.apart (subst (λ l. AreKnown l v) (sym is) known) c.receive_all.ensures

pub returns-clause-exact : goal.returns-clause-exact
returns-clause-exact g c =
    let (learned, all, known, before) = c.loop-sender.invariant in
    let v = c.loop-sender.receiver in
    let none : c.loop-sender.closed.items ≡ [] = search rules in
    let is = all ∙ ap (λ l. l ++ learned) none in
    exactly_all (λ l. l.items) c.receive_all.result c.args.closed.items v c.receive_all.new.receiver c.requires.apart (subst (λ l. AreKnown l v) (sym is) known) c.receive_all.ensures
