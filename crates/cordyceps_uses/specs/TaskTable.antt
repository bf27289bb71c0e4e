-- A table of tasks: their numbers, each with its priority and value.
use Rattle.std.specs.Prelude.{◌≡◌, ℕ, true, false, List, [], ◌∷◌, ◌++◌, Option, Some, None, is_some, nat_eq, if◌then◌else◌}
use Rattle.std.specs.Map.{lookup_entry, remove_entry}
use denote.RawPtr.{Ptr}
use Rattle.cordyceps.specs.Spots.MultiList.{list_at}
use Rattle.cordyceps.specs.Spots.StableMap.{Mapped}
use Rattle.cordyceps.specs.Spots.Threads.{is_in}
use Rattle.cordyceps_uses.specs.declared.task_table.State.{State}
use Rattle.cordyceps_uses.specs.declared.task_table.State.TheVariants.{Ready, Waiting, Running}
use Rattle.cordyceps_uses.specs.declared.task_table.Task.{Task}
use Rattle.cordyceps_uses.specs.Keyed.{order, AreFrom, IsPlaced}

-- the number of a task with the task
abbrev pub Entry : Type 0 → Type 0
Entry T = ℕ × Task T

-- what a contract sees of a table: all tasks in order of creation, those that are ready, and those that wait
pub record Tasks (T : Type 0) : Type 0 where
  pub tasks : List (Entry T)
  pub ready : List (Entry T)
  pub waiting : List (Entry T)

module _ {T : Type 0} where
  abbrev pub priority : Task T → ℕ
  priority t = t.priority

  -- the task with a number, if there is one
  abbrev pub task : ℕ → List (Entry T) → Option (Entry T)
  task pid s = lookup_entry (nat_eq pid) s

  -- the tasks without that one
  abbrev pub others : ℕ → List (Entry T) → List (Entry T)
  others pid s = remove_entry (nat_eq pid) s

  -- the task with a number, if it runs
  abbrev pub running : ℕ → Tasks T → Option (Entry T)
  running pid v =
      if is_some (task pid v.ready) then None
      else if is_some (task pid v.waiting) then None
      else task pid v.tasks

  -- what a task does
  abbrev pub state : ℕ → Tasks T → Option State
  state pid v =
      if is_some (task pid v.ready) then Some Ready
      else if is_some (task pid v.waiting) then Some Waiting
      else elim (task pid v.tasks) [ Some _ ↦ Some Running | None ↦ None ]

  -- the table without a task
  abbrev pub without_task : ℕ → Tasks T → Tasks T
  without_task pid v =
      record { tasks = others pid v.tasks; ready = others pid v.ready; waiting = others pid v.waiting }

  -- the table after x, which was ready, began to wait
  abbrev pub waits : Tasks T → Entry T → Tasks T
  waits v x = record { tasks = v.tasks; ready = others x.0 v.ready; waiting = v.waiting ++ x ∷ [] }

  -- the table after a task was asked to wait, which it does if it is ready
  abbrev pub blocked : ℕ → Tasks T → Tasks T
  blocked pid v = elim (task pid v.ready) [ Some x ↦ waits v x | None ↦ v ]

  -- x, which may have waited, became ready, at the place of its priority
  pub record IsReadied (v : Tasks T) (x : Entry T) (w : Tasks T) : Type 0 where
    pub tasks : w.tasks ≡ v.tasks
    pub ready : IsPlaced priority v.ready x w.ready
    pub waiting : w.waiting ≡ others x.0 v.waiting

  -- x, whose number no task had, came, and is ready, at the place of its priority
  pub record IsSpawned (v : Tasks T) (x : Entry T) (w : Tasks T) : Type 0 where
    pub absent : task x.0 v.tasks ≡ None
    pub tasks : w.tasks ≡ v.tasks ++ x ∷ []
    pub ready : IsPlaced priority v.ready x w.ready
    pub waiting : w.waiting ≡ v.waiting

  -- ---- the nodes
  abbrev pub shown : Mapped (Entry T) → Tasks T
  shown m = record { tasks = order 0 m; ready = order 1 m; waiting = order 2 m }

  -- no task is ready and waits, and those that are ready are in the order of their priorities
  pub record IsTable (m : Mapped (Entry T)) : Type 0 where
    pub apart : (p : Ptr) → is_in p (list_at 1 m.lists) ≡ true → is_in p (list_at 2 m.lists) ≡ false
    pub sorted : AreFrom priority 0 (order 1 m)
