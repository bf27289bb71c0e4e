use Rattle.std.proofs.Common.{◌≡◌, [], ◌∷◌, ◌++◌, ℕ, List, Vec, Global, Option, refl, sym, ap, ◌∙◌, subst}
use Rattle.std.specs.Prelude.{Ok, Err, Some, None, IfSome}
use Rattle.cordyceps.specs.Elements.Element.{Element}
use Rattle.cordyceps.specs.Queues.Calls.{PartyOf}
use Rattle.cordyceps.specs.Queues.Moves.{put_by, got_by, Moves}
use Rattle.cordyceps.proofs.Parties.Moving.{moves_none, moves_given}
use Rattle.cordyceps.proofs.Queues.Sending.{then_dequeues, then_nothing}
use Rattle.cordyceps.proofs.Queues.PartyMoves.{moves_dequeue}
use Rattle.cordyceps_shared_uses.specs.declared.mailbox.Message.{Message}
use Rattle.cordyceps_shared_uses.specs.Mailbox.{value_of}
use Rattle.cordyceps_shared_uses.proofs.mailbox.receive.Goals as goal

-- what was received, with a message more
more : (all after : Option (Vec ℕ Global)) (got : List ℕ) (x : ℕ) → (all ≡ None → after ≡ None) → IfSome after (λ a. IfSome all (λ b. a.items ≡ b.items ++ x ∷ []))
    → IfSome all (λ b. b.items ≡ got) → IfSome after (λ a. a.items ≡ got ++ x ∷ [])
more all None got x none noted is = tt
more None (Some a) got x none noted is = absurd (none-is a (none refl))
  where
    none-is : (a : Vec ℕ Global) → Some a ≡ None → ⊥
    none-is a e = cc e
more (Some b) (Some a) got x none noted is = noted ∙ ap (λ (z : List ℕ). z ++ x ∷ []) is

-- what the receiver has is what its party took
moved : (all : Option (Vec ℕ Global)) (got : List ℕ) (u w : PartyOf (Element Message)) → IfSome all (λ b. b.items ≡ got) → Moves value_of [] got u w
    → IfSome all (λ b. Moves value_of [] b.items u w)
moved None got u w is moves = tt
moved (Some b) got u w is moves = subst (λ (z : List ℕ). Moves value_of [] z u w) (sym is) moves

pub loop-init : goal.loop-init
loop-init g c = ([], moves_none (put_by value_of) (got_by value_of) c.args.party, c.new.ensures.items)

pub try_dequeue-requires : goal.try_dequeue-requires
try_dequeue-requires g c = let (_, moves, _) = c.loop.invariant in moves.acts.table ∙ c.requires

pub loop-preserved-in-Ok : goal.loop-preserved-in-Ok
loop-preserved-in-Ok g c =
    let (got, moves, is) = c.loop.invariant in
    let x = value_of c.in-Ok.letter in
    let took = then_dequeues value_of (Ok c.in-Ok.letter) c.try_dequeue.new.party moves c.in-Ok.ensures.answer in (
      got ++ x ∷ [],
      then_nothing value_of c.give_back.new.party took
          (moves_given (put_by value_of) (got_by value_of) c.rooms-rooms.result c.give_back.result c.try_dequeue.new.party c.give_back.new.party c.give_back.ensures.answer),
      more c.loop.received c.note-received.result got x c.note-received.ensures.none c.note-received.ensures.noted is,
    )

pub loop-preserved : goal.loop-preserved
loop-preserved g c =
    let (got, moves, is) = c.loop.invariant in
    let missed = then_nothing value_of c.try_dequeue.new.party moves (moves_dequeue value_of (Err c.in-Err.why) c.loop.party c.try_dequeue.new.party c.in-Err.ensures.answer) in
    (got, then_nothing value_of c.pause.new.party missed c.pause.ensures.moves, is)

pub pause-requires : goal.pause-requires
pause-requires g c =
    let (got, moves, is) = c.loop.invariant in
    let missed = then_nothing value_of c.try_dequeue.new.party moves (moves_dequeue value_of (Err c.in-Err.why) c.loop.party c.try_dequeue.new.party c.in-Err.ensures.answer) in
    missed.acts.table ∙ c.requires

pub returns-then-is_end : goal.returns-then-is_end
returns-then-is_end g c =
    let (got, moves, is) = c.loop.invariant in
    let missed = then_nothing value_of c.try_dequeue.new.party moves (moves_dequeue value_of (Err c.in-Err.why) c.loop.party c.try_dequeue.new.party c.in-Err.ensures.answer) in
    moved c.loop.received got c.args.party c.try_dequeue.new.party is missed
