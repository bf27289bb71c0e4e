-- What accounts of a scheduler hold after a task went in or out, and that all tasks are found again in the end.
use Rattle.std.proofs.Common.{◌≡◌, ℕ, ◌+◌, ◌-◌, ◌*◌, ◌^◌, ◌≤◌, min, Bool, true, false, cond, nat_lt, List, [], ◌∷◌, ◌++◌, map, refl, sym, ap, ◌∙◌, subst, arith}
use Rattle.std.specs.Prelude.{Result, Ok, Err}
use denote.RawPtr.{Ptr}
use Rattle.cordyceps.specs.Elements.Element.{Element, Elements}
use Rattle.cordyceps.specs.Elements.Nodes.{Nodes}
use Rattle.cordyceps.specs.Parties.Counts.{tally, Same}
use Rattle.cordyceps.specs.Parties.Histories.{plain}
use Rattle.cordyceps.specs.Parties.Seated.{TableId}
use Rattle.cordyceps.specs.Parties.Sending.{Splits}
use Rattle.cordyceps.specs.Parties.Shares.{whole}
use Rattle.cordyceps.specs.Parties.Standings.{new_party, Absorbs, GivesBack}
use Rattle.cordyceps.proofs.Orders.Preorder.{by_test}
use Rattle.cordyceps.proofs.Parties.Counting.{tally_append, tally_map}
use Rattle.cordyceps.proofs.Parties.Moving.{moves_none, moves_then, moves_given}
use Rattle.cordyceps.proofs.Parties.Sending.{exchanged}
use Rattle.cordyceps.specs.Queues.History.{held}
use Rattle.cordyceps.specs.Queues.Calls.{Legal, same_name, Dequeues}
use Rattle.cordyceps.specs.Queues.Moves.{put_by, got_by, Moves, got_by_try}
use Rattle.cordyceps.specs.Queues.TryDequeueError.{TryDequeueError}
use Rattle.cordyceps.proofs.Queues.PartyMoves.{all_kept, moves_dequeue}
use Rattle.cordyceps.proofs.Queues.Sending.{then_nothing}
use Rattle.cordyceps_shared_uses.specs.declared.timers.Timer.{Timer}
use Rattle.cordyceps_shared_uses.specs.declared.scheduler.name.Name.{Name}
use Rattle.cordyceps_shared_uses.specs.declared.scheduler.work.Work.{Work}
use Rattle.cordyceps_shared_uses.specs.Accounts.{Entries, Moved, Holds, IsOpen, after_getting, after_giving, joined}
use Rattle.cordyceps_shared_uses.specs.Names.{name_of, names, asleep, at_birth, by_birth, one_more}
use Rattle.cordyceps_shared_uses.specs.Timers.{Running, started, time_of, NoneBefore}
use Rattle.cordyceps_shared_uses.specs.Ways.{Seat, Sent, SentAll, Woken, Came, RanOneEach, Settles}

-- ---- what is in a place
module _ (f : Name → ℕ) where
  abbrev sleeping : Nodes (Timer Work) → List Name
  sleeping = map (λ n. name_of n.1)

  started_by : (b : Bool) (x y : Ptr × Element (Timer Work)) (s t : Nodes (Timer Work)) → tally f (sleeping t) ≡ f (name_of y.1) + tally f (sleeping s)
      → tally f (sleeping (cond b (y ∷ x ∷ s) (x ∷ t))) ≡ f (name_of y.1) + tally f (sleeping (x ∷ s))
  started_by true x y s t is = refl
  started_by false x y s t is = omega arith

  -- one more sleeps
  tally_started : (clock : ℕ) (q : Ptr) (t : Element (Timer Work)) (s : Nodes (Timer Work)) → tally f (sleeping (started clock q t s)) ≡ f (name_of t) + tally f (sleeping s)
  tally_started clock q t [] = refl
  tally_started clock q t (x ∷ s) = started_by (nat_lt (time_of clock t) (time_of clock x.1)) x (q, t) s (started clock q t s) (tally_started clock q t s)

  -- one more waits
  tally_put : (s : Elements (Timer Work)) (e : Element (Timer Work)) → tally f (names (s ++ e ∷ [])) ≡ f (name_of e) + tally f (names s)
  tally_put [] e = omega arith
  tally_put (x ∷ s) e = omega (arith, tally_put s e)

-- ---- accounts
pub open_got : {z : TableId} {x : Name} {a b : Entries} → IsOpen z a → b ≡ after_getting x a → IsOpen z b
open_got {z = z} o e = subst (IsOpen z) (sym e) (o.0, o.1)

pub open_moved : {z : TableId} {gs vs : List Name} {a b : Entries} → IsOpen z a → Moved gs vs a b → IsOpen z b
open_moved o m = (m.table ∙ o.0, m.parts ∙ o.1)

holds_got : {x : Name} {a b : Entries} (xs ys : List Name) → Holds a xs → b ≡ after_getting x a → ((f : Name → ℕ) → tally f ys ≡ f x + tally f xs) → Holds b ys
holds_got xs ys h e more f = omega (arith, h f, more f, ap (λ (z : Entries). tally f z.got) e, ap (λ (z : Entries). tally f z.gave) e)

-- one more that is not before the time leaves none before it
none_before_started : (now clock : ℕ) (q : Ptr) (t : Element (Timer Work)) (s : Nodes (Timer Work)) → NoneBefore now s → now ≤ t.value.deadline → NoneBefore now (started clock q t s)
none_before_started now clock q t [] none later = (later, none)
none_before_started now clock q t (x ∷ s) none later =
    let put : Bool → Nodes (Timer Work) = λ b. cond b ((q, t) ∷ x ∷ s) (x ∷ started clock q t s) in
    by_test (nat_lt (time_of clock t) (time_of clock x.1)) (λ y. subst (λ b. NoneBefore now (put b)) (sym y) (later, none))
    (λ n. subst (λ b. NoneBefore now (put b)) (sym n) (none.0, none_before_started now clock q t s none.1 later))

pub none_missed_started : (now : ℕ) (q : Ptr) (t : Element (Timer Work)) (s u : Running Work) → u.nodes ≡ started s.clock q t s.nodes → NoneBefore now s.nodes → now ≤ t.value.deadline
    → NoneBefore now u.nodes
none_missed_started now q t s u is none later = subst (λ l. NoneBefore now l) (sym is) (none_before_started now s.clock q t s.nodes none later)

-- a task went to sleep; its deadline may be another than before
pub holds_slept : {x : Name} {a b : Entries} (q : Ptr) (t : Element (Timer Work)) (s u : Running Work) → Holds a (asleep s) → b ≡ after_getting x a → x ≡ name_of t
    → u.nodes ≡ started s.clock q t s.nodes → Holds b (asleep u)
holds_slept q t s u h e same is = holds_got (asleep s) (asleep u) h e (λ f. ap (λ z. tally f (map (λ n. name_of n.1) z)) is ∙ (tally_started f s.clock q t s.nodes ∙ ap (λ y. f y + tally f (asleep s)) (sym same)))

pub holds_put : {x : Name} {a b : Entries} (t : Element (Timer Work)) (s u : Elements (Timer Work)) → Holds a (names s) → b ≡ after_getting x a → x ≡ name_of t
    → u ≡ s ++ t ∷ [] → Holds b (names u)
holds_put t s u h e same is = holds_got (names s) (names u) h e (λ f. ap (λ z. tally f (names z)) is ∙ (tally_put f s t ∙ ap (λ y. f y + tally f (names s)) (sym same)))

moved_none : (a : Entries) → Moved [] [] a a
moved_none a = record { table = refl; parts = refl; got = λ f. omega arith; gave = λ f. omega arith }

-- ---- what a party sent, which came to its account before
pub woken_none : (a : Entries) (u : Seat) → Woken a a u u
woken_none a u = record { tasks = []; sent = moves_none (put_by name_of) (got_by name_of) u; moved = moved_none a }

pub woken_more : {a b : Entries} {u v : Seat} (e : Element (Timer Work)) (c : Entries) (w : Seat) → Woken a b u v → c ≡ after_getting (name_of e) b → Sent (name_of e ∷ []) v w → Woken a c u w
woken_more {u = u} {v = v} e c w is more at = record {
  tasks = is.tasks ++ name_of e ∷ [];
  sent = moves_then (put_by name_of) (got_by name_of) is.tasks [] (name_of e ∷ []) [] u v w is.sent at;
  moved = record {
    table = ap (λ (z : Entries). z.table) more ∙ is.moved.table;
    parts = ap (λ (z : Entries). z.parts) more ∙ is.moved.parts;
    got = λ f. omega (arith, is.moved.got f, ap (λ (z : Entries). tally f z.got) more, tally_append f is.tasks (name_of e ∷ []));
    gave = λ f. omega (arith, is.moved.gave f, ap (λ (z : Entries). tally f z.gave) more);
  };
}

-- after it sent others
pub woken_after : {a b : Entries} {u v w : Seat} (xs : List Name) → Sent xs u v → Woken a b v w → SentAll xs a b u w
woken_after {u = u} {v = v} {w = w} xs sent is = record {
  woken = is.tasks;
  sent = moves_then (put_by name_of) (got_by name_of) xs [] is.tasks [] u v w sent is.sent;
  moved = is.moved;
}

-- ---- what a party received, and gave away
pub came_none : (a : Entries) (u : Seat) → Came a a u u
came_none a u = record { tasks = []; took = moves_none (put_by name_of) (got_by name_of) u; moved = moved_none a }

pub came_then : {a b c : Entries} {u v w : Seat} → Came a b u v → Came b c v w → Came a c u w
came_then {u = u} {v = v} {w = w} is next = record {
  tasks = is.tasks ++ next.tasks;
  took = moves_then (put_by name_of) (got_by name_of) [] is.tasks [] next.tasks u v w is.took next.took;
  moved = record {
    table = next.moved.table ∙ is.moved.table;
    parts = next.moved.parts ∙ is.moved.parts;
    got = λ f. omega (arith, is.moved.got f, next.moved.got f);
    gave = λ f. omega (arith, is.moved.gave f, next.moved.gave f, tally_append f is.tasks next.tasks);
  };
}

pub came_try : (a c : Entries) (t : Result (Element (Timer Work)) TryDequeueError) (u w : Seat) → Moved [] (got_by_try name_of t) a c → Dequeues t u w → Came a c u w
came_try a c t u w is at = record { tasks = got_by_try name_of t; took = moves_dequeue name_of t u w at; moved = is }

-- it found none
pub came_nothing : (a : Entries) (e : TryDequeueError) (u w : Seat) → Dequeues (Err e) u w → Came a a u w
came_nothing a e u w at = came_try a a (Err e) u w (moved_none a) at

-- it gave what it took away
pub came_one : (a c : Entries) (t : Element (Timer Work)) (u w : Seat) → c ≡ after_giving (name_of t) a → Dequeues (Ok t) u w → Came a c u w
came_one a c t u w e at =
    came_try a c (Ok t) u w
    (record {
      table = ap (λ (z : Entries). z.table) e;
      parts = ap (λ (z : Entries). z.parts) e;
      got = λ f. omega (arith, ap (λ (z : Entries). tally f z.got) e);
      gave = λ f. omega (arith, ap (λ (z : Entries). tally f z.gave) e);
    })
    at

-- and then it gave rooms to the pool
pub came_given : {a b : Entries} {u v : Seat} → Came a b u v → (n : ℕ) (gave : Bool) (w : Seat) → GivesBack n gave v w → Came a b u w
came_given {v = v} is n gave w given = record {
  tasks = is.tasks;
  took = then_nothing name_of w is.took (moves_given (put_by name_of) (got_by name_of) n gave v w given);
  moved = is.moved;
}

-- ---- what a worker did
-- t is kept, as the task e, which has its name
pub settles_kept : (t e : Element (Timer Work)) (a b : Entries) (done kept kept' : Elements (Timer Work)) → b ≡ a → name_of e ≡ name_of t → kept' ≡ e ∷ kept
    → Settles t a b (names done) (names kept) (names done) (names kept')
settles_kept t e a b done kept kept' none same is = record {
  table = ap (λ (z : Entries). z.table) none;
  parts = ap (λ (z : Entries). z.parts) none;
  got = ap (λ (z : Entries). z.got) none;
  gave = λ f. omega (arith, ap (λ (z : Entries). tally f z.gave) none, ap (λ z. tally f (names z)) is, ap f same);
}

-- the task that it got ran one round more, if one was left
pub more_of : (t u : Element (Timer Work)) → u.id ≡ t.id → u.value.payload.number ≡ t.value.payload.number → u.value.payload.rounds ≡ t.value.payload.rounds
    → u.value.payload.pause ≡ t.value.payload.pause → u.value.payload.ran ≡ min (t.value.payload.ran + 1) t.value.payload.rounds → name_of u ≡ one_more (name_of t)
more_of t u id number rounds pause ran = λ i. record { id = id i; number = number i; rounds = rounds i; pause = pause i; ran = ran i }

pub ran_settled : {x : Name} {a b c : Entries} (t : Element (Timer Work)) (done kept done' kept' : List Name) → RanOneEach a done kept → b ≡ after_getting x a → name_of t ≡ one_more x
    → Settles t b c done kept done' kept' → RanOneEach c done' kept'
ran_settled t done kept done' kept' h e same s f =
    let more : Name → ℕ = λ x. f (one_more x) in
    omega (arith, h f, ap (λ (z : Entries). tally more z.got) e, ap (λ (z : Entries). tally f z.gave) e, ap f same, ap (tally more) s.got, s.gave f)

-- ---- in the end
-- what six accounts got in all is what they gave
pub six_even : (s r t u v w all : Entries) (ss rs vd vk wd wk : List Name) → all ≡ joined (joined (joined (joined (joined s r) t) u) v) w → Same all.got all.gave
    → Holds s ss → Holds r rs → RanOneEach v vd vk → RanOneEach w wd wk
    → (f : Name → ℕ)
    → tally (by_birth f) t.got + tally (by_birth f) u.got + tally (by_birth f) ss + tally (by_birth f) rs + tally (by_birth f) vd + tally (by_birth f) wd
    + tally (by_birth f) vk + tally (by_birth f) wk
    ≡ tally (by_birth f) t.gave + tally (by_birth f) u.gave
six_even s r t u v w all ss rs vd vk wd wk is even a b c d f =
    let g : Name → ℕ = by_birth f in
    let first : tally g v.got ≡ tally g v.gave + (tally g vd + tally g vk) = c g in
    let second : tally g w.got ≡ tally g w.gave + (tally g wd + tally g wk) = d g in
    omega (
      arith,
      even g,
      ap (λ (z : Entries). tally g z.got) is,
      ap (λ (z : Entries). tally g z.gave) is,
      a g,
      b g,
      first,
      second,
      five g s.got r.got t.got u.got v.got w.got,
      five g s.gave r.gave t.gave u.gave v.gave w.gave,
    )
  where
    five : (f : Name → ℕ) (a b c d e g : List Name) → tally f (((((a ++ b) ++ c) ++ d) ++ e) ++ g) ≡ tally f a + tally f b + tally f c + tally f d + tally f e + tally f g
    five f a b c d e g =
        omega (arith, tally_append f ((((a ++ b) ++ c) ++ d) ++ e) g, tally_append f (((a ++ b) ++ c) ++ d) e, tally_append f ((a ++ b) ++ c) d, tally_append f (a ++ b) c, tally_append f a b)

-- the dispatcher is whole again, and what it received, and then what is left, is what was sent
pub found : {k : ℕ} {id : TableId} {u kept other v o w : Seat} {got sent : List Name} → u ≡ new_party id k → Splits k u kept other
    → Moves name_of [] got kept v → Moves name_of sent [] other o → Absorbs (λ h. Legal h) v o w
    → (w.table ≡ id) × (w.share ≡ whole) × (sent ≡ got ++ map name_of (held (plain w.seen)))
found new split mine theirs m =
    exchanged (λ h. map name_of (held h)) (λ h legal. all_kept name_of same_name h legal) new split mine theirs m

-- those that are somewhere are those that were given
pub all_found : (tasks woken came on_way sleeping waiting done more kept last : List Name) → tasks ++ woken ≡ came ++ on_way
    → ((f : Name → ℕ)
    → tally (by_birth f) woken + tally (by_birth f) sleeping + tally (by_birth f) waiting + tally (by_birth f) done + tally (by_birth f) more + tally (by_birth f) kept
    + tally (by_birth f) last
    ≡ tally (by_birth f) came)
    → Same (map at_birth tasks) (map at_birth (sleeping ++ (on_way ++ (waiting ++ (done ++ (more ++ (kept ++ last)))))))
all_found tasks woken came on_way sleeping waiting done more kept last sent even f =
    let g : Name → ℕ = by_birth f in
    omega (
      arith,
      tally_map at_birth f tasks,
      tally_map at_birth f (sleeping ++ (on_way ++ (waiting ++ (done ++ (more ++ (kept ++ last)))))),
      ap (tally g) sent,
      even f,
      tally_append g tasks woken,
      tally_append g came on_way,
      tally_append g sleeping (on_way ++ (waiting ++ (done ++ (more ++ (kept ++ last))))),
      tally_append g on_way (waiting ++ (done ++ (more ++ (kept ++ last)))),
      tally_append g waiting (done ++ (more ++ (kept ++ last))),
      tally_append g done (more ++ (kept ++ last)),
      tally_append g more (kept ++ last),
      tally_append g kept last,
    )
