-- Where the tasks of a scheduler are in the end.
use Rattle.std.specs.Prelude.{List, ◌++◌}
use Rattle.cordyceps_shared_uses.specs.Names.{asleep, names}
use Rattle.cordyceps_shared_uses.specs.declared.scheduler.Outcome.{Outcome}
use Rattle.cordyceps_shared_uses.specs.declared.scheduler.name.Name.{Name}

-- those that sleep, are on their way, wait, are done, or were kept by a worker
abbrev pub everywhere : Outcome → List Name
everywhere o = asleep o.asleep ++ (names o.on_way ++ (names o.runnable ++ (names o.done.0 ++ (names o.done.1
    ++ (names o.kept.0 ++ names o.kept.1)))))
