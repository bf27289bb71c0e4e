-- What accounts enter of tasks.
use Rattle.std.specs.Prelude.{ℕ, ◌+◌, List, map, min}
use Rattle.cordyceps.specs.Elements.Element.{Element, Elements}
use Rattle.cordyceps_shared_uses.specs.declared.timers.Timer.{Timer}
use Rattle.cordyceps_shared_uses.specs.declared.scheduler.name.Name.{Name}
use Rattle.cordyceps_shared_uses.specs.declared.scheduler.work.Work.{Work}
use Rattle.cordyceps_shared_uses.specs.Timers.{Running}

-- its node's number, its own, how many rounds it has, how long it sleeps between two of them, and how many it ran
abbrev pub name_of : Element (Timer Work) → Name
name_of e = record {
  id = e.id;
  number = e.value.payload.number;
  rounds = e.value.payload.rounds;
  pause = e.value.payload.pause;
  ran = e.value.payload.ran;
}

-- the name that the task had before its first round: what it keeps through all collections and rounds
abbrev pub at_birth : Name → Name
at_birth x = record x { ran = 0 }

-- a number of each name that a round doesn't change
abbrev pub by_birth : (Name → ℕ) → Name → ℕ
by_birth f x = f (at_birth x)

-- the name that it has after one round more, if one is left
abbrev pub one_more : Name → Name
one_more x = record x { ran = min (x.ran + 1) x.rounds }

-- the tasks of a collection
abbrev pub names : Elements (Timer Work) → List Name
names s = map name_of s

-- those that sleep until their deadlines, each at its spot
abbrev pub asleep : Running Work → List Name
asleep t = map (λ n. name_of n.1) t.nodes
