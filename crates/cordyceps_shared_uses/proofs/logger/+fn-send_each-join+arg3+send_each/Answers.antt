use Rattle.std.proofs.Common.{rules, ◌≡◌, ◌∷◌, List, length, map, ap, sym, ◌∙◌, arith}
use Rattle.cordyceps.specs.Elements.Element.{Element}
use Rattle.cordyceps.proofs.Parties.Sending.{sends_none, sends_more}
use Rattle.cordyceps_shared_uses.proofs.Apart.{apart}
use Rattle.cordyceps_shared_uses.specs.declared.logger.Producer.{Producer}
use Rattle.cordyceps_shared_uses.specs.Logger.{record_of, records}
use Rattle.cordyceps_shared_uses.proofs.logger.+fn-send_each-join+arg3+send_each.Goals as goal

pub returns-in_default : goal.returns-in_default
returns-in_default g t c =
    sends_none (λ (e : Element Producer). map record_of e.value.records) c.args.producers c.args.party (ap length c.in_default.ensures.0)

pub join-sent-requires-after_bounds : goal.join-sent-requires-after_bounds
join-sent-requires-after_bounds g t c κs within =
    let both = apart 0 c.args.party c.split-mine.new.party c.split-mine.result c.requires.1 c.split-mine.ensures in
    ((search rules, both.given_table ∙ c.requires.0), (omega (arith, c.decreases, ap length c.in-Some.ensures), ((λ a m. m), ((search rules, both.kept_table ∙ c.requires.0, both.kept_share), search rules))))

pub returns : goal.returns
returns g t c =
    let rest = records c.pop_front.new.self in
    let first = c.into_value-first.result.records in
    let all : records c.args.producers ≡ map record_of first ∷ rest =
    ap (λ (z : List (Element Producer)). records z) c.in-Some.ensures ∙ ap (λ (p : Producer). map record_of p.records ∷ rest) (sym c.into_value-first.ensures) in
    sends_more all c.requires.1 c.split-mine.ensures c.join-sent.ensures.second c.join-sent.ensures.first c.absorb.ensures
