use Rattle.std.proofs.Common.{rules, List, Vec, ℕ, Global, length, ap, ◌∙◌, arith}
use Rattle.std.proofs.lemmas.Result.{IfOk-at_ok, IfOk-weaker}
use Rattle.cordyceps.proofs.Parties.Sending.{sends_none, sends_more}
use Rattle.cordyceps.specs.Queues.Sending.{Sends}
use Rattle.cordyceps_shared_uses.proofs.Apart.{apart}
use Rattle.cordyceps_shared_uses.specs.Mailbox.{contents, value_of}
use Rattle.cordyceps_shared_uses.proofs.mailbox.+fn-send_each-join+arg3+send_each.Goals as goal

pub returns-in_default : goal.returns-in_default
returns-in_default g t c = record {
  table = c.requires.0;
  sent = sends_none (λ v. v.items) c.args.lists.now c.args.party c.in_default.ensures.cases;
}

pub join-sent-requires-after_bounds : goal.join-sent-requires-after_bounds
join-sent-requires-after_bounds g t c κs within =
    let both = apart 0 c.args.party c.split-mine.new.party c.split-mine.result c.requires.1 c.split-mine.ensures in (
      (search rules, both.given_table ∙ c.requires.0),
      (
        omega (arith, c.decreases, ap (λ (z : List (Vec ℕ Global)). length z) c.in-Some.ensures.cases.0),
        ((λ a m. m), ((search rules, both.kept_table ∙ c.requires.0, both.kept_share), search rules)),
      ),
    )

pub absorb-requires : goal.absorb-requires
absorb-requires g t c = (c.join-sent.ensures.second.0, c.join-sent.ensures.first.0)

pub returns-in-Ok-clause-sent : goal.returns-in-Ok-clause-sent
returns-in-Ok-clause-sent g t c =
    let w = c.absorb.new.party in
    IfOk-weaker c.join-sent.result.1.result (λ _. Sends value_of (contents c.in-Some.rest.now) c.split-mine.new.party c.join-sent.result.1.party)
    (λ _. Sends value_of (contents c.args.lists.now) c.args.party w)
    (λ _ theirs. sends_more (ap contents c.in-Some.ensures.cases.0) c.requires.1 c.split-mine.ensures theirs
    (IfOk-at_ok _ c.in-Ok.is c.join-sent.ensures.first.1) c.absorb.ensures) c.join-sent.ensures.second.1
