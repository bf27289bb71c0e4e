use Rattle.std.proofs.Common.{◌≡◌, [], ◌++◌, List, Vec, Global, Option, map, refl, sym, ap, ◌∙◌, subst, inl, inr}
use Rattle.std.proofs.lemmas.List.{map-id}
use Rattle.std.specs.Prelude.{Err, Some, None, IfSome}
use Rattle.cordyceps.specs.Elements.Element.{Element}
use Rattle.cordyceps.specs.Queues.Calls.{PartyOf, FindsBusy, TakesRight}
use Rattle.cordyceps.specs.Queues.Moves.{put_by, got_by, Moves}
use Rattle.cordyceps.proofs.Parties.Moving.{moves_given}
use Rattle.cordyceps.proofs.Queues.PartyMoves.{moves_at_last, moves_consume, moves_right}
use Rattle.cordyceps.proofs.Queues.Sending.{then_linked, then_nothing}
use Rattle.cordyceps_shared_uses.specs.declared.logger.Record.{Record}
use Rattle.cordyceps_shared_uses.specs.Logger.{record_of}
use Rattle.cordyceps_shared_uses.proofs.logger.store_until_end.Goals as goal

-- a log with a batch more
more : (log after : Option (Vec Record Global)) (got xs : List Record) → (log ≡ None → after ≡ None) → IfSome after (λ a. IfSome log (λ b. a.items ≡ b.items ++ xs)) → IfSome log (λ b. b.items ≡ got)
    → IfSome after (λ a. a.items ≡ got ++ xs)
more log None got xs none stored is = tt
more None (Some a) got xs none stored is = absurd (none-is a (none refl))
  where
    none-is : (a : Vec Record Global) → Some a ≡ None → ⊥
    none-is a e = cc e
more (Some b) (Some a) got xs none stored is = stored ∙ ap (λ (z : List Record). z ++ xs) is

-- what a log has is what the party took
moved : (log : Option (Vec Record Global)) (got : List Record) (u w : PartyOf (Element Record)) → IfSome log (λ b. b.items ≡ got) → Moves record_of [] got u w → IfSome log (λ b. Moves record_of [] b.items u w)
moved None got u w is moves = tt
moved (Some b) got u w is moves = subst (λ (z : List Record). Moves record_of [] z u w) (sym is) moves

pub loop-init : goal.loop-init
loop-init g c = (
  [],
  moves_at_last record_of FindsBusy TakesRight [] [] (λ u w m. moves_right record_of u w (inr (inl m))) (λ u w m. moves_right record_of u w (inl m)) c.args.party c.consume-consumer.result
      c.consume-consumer.ensures.answer,
  c.new.ensures.items,
)

pub loop-preserved-in-Ok : goal.loop-preserved-in-Ok
loop-preserved-in-Ok g c =
    let (got, moves, is) = c.loop.invariant in
    let (es, batch, takes) = c.in-Ok.ensures.answer in (
      got ++ map record_of es,
      then_nothing record_of c.give_back.new.self (then_linked record_of c.args.max es c.take_linked.new.self moves takes)
          (moves_given (put_by record_of) (got_by record_of) c.rooms-rooms.result c.give_back.result c.take_linked.new.self c.give_back.new.self c.give_back.ensures.answer),
      more c.loop.log c.store_more-log.result got (map record_of es) c.store_more-log.ensures.none
          (subst (λ (z : List Record). IfSome c.store_more-log.result (λ after. IfSome c.loop.log (λ before. after.items ≡ before.items ++ z))) (ap (λ (z : List (Element Record)). map record_of z) (batch ∙ map-id es)) c.store_more-log.ensures.stored) is,
    )

pub loop-preserved : goal.loop-preserved
loop-preserved g c =
    let (got, moves, is) = c.loop.invariant in (
      got,
      then_nothing record_of c.take_linked.new.self moves (moves_consume record_of (Err c.in-Err.why) c.loop.consumer c.take_linked.new.self c.in-Err.ensures.answer),
      is,
    )

pub returns-then-is_end-clause-table : goal.returns-then-is_end-clause-table
returns-then-is_end-clause-table g c =
    let (_, moves, _) = c.loop.invariant in
    let missed = then_nothing record_of c.take_linked.new.self moves (moves_consume record_of (Err c.in-Err.why) c.loop.consumer c.take_linked.new.self c.in-Err.ensures.answer) in
    let gave = then_nothing record_of c.release.result missed (moves_right record_of c.take_linked.new.self c.release.result (inr (inr c.release.ensures))) in
    gave.acts.table ∙ c.requires.table

pub returns-then-is_end-clause-stored : goal.returns-then-is_end-clause-stored
returns-then-is_end-clause-stored g c =
    let (got, moves, is) = c.loop.invariant in
    let last = c.take_linked.new.self in
    let missed = then_nothing record_of last moves (moves_consume record_of (Err c.in-Err.why) c.loop.consumer last c.in-Err.ensures.answer) in
    let gave = then_nothing record_of c.release.result missed (moves_right record_of last c.release.result (inr (inr c.release.ensures))) in
    moved c.loop.log got c.args.party c.release.result is gave
