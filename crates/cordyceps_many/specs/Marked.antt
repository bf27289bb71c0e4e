-- The hooks of a node whose neighbours and marks are apart.
use Rattle.std.specs.Prelude.{Bool, true, List, [], ◌∷◌}
use Rattle.cordyceps_many.specs.declared.hook.Hook.{Hook}
use Rattle.cordyceps_many.specs.declared.marked.Links.{Links}

-- a hook of these neighbours and this mark
abbrev pub hook_by : Links → Bool → Hook
hook_by l m = record { next = l.next; prev = l.prev; linked = m }

-- the hooks of these neighbours, each with its mark
abbrev pub hooks_by : List Links → List Bool → List Hook
hooks_by [] ms = []
hooks_by (l ∷ ls) [] = []
hooks_by (l ∷ ls) (m ∷ ms) = hook_by l m ∷ hooks_by ls ms

-- the hooks of a node, where each list but the first has a mark
abbrev pub hooks_of : List Links → List Bool → List Hook
hooks_of ls ms = hooks_by ls (true ∷ ms)
