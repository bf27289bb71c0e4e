-- Lists that go through nodes: each node has a hook for each list.
use Rattle.std.specs.Prelude.{◌≡◌, ◌⊎◌, ◌<◌, ℕ, zero, suc, Bool, true, false, List, [], ◌∷◌, length, if◌then◌else◌}
use denote.RawPtr.{Ptr, null_ptr, InBlock}
use Rattle.cordyceps_base.specs.declared.boxes.Address.{Address}
use Rattle.cordyceps_base.specs.Spots.{same_ptr}
use Rattle.cordyceps_many.specs.declared.hook.Hook.{Hook}
use Rattle.cordyceps_many.specs.declared.hook.Ends.{Ends}

-- whether p is in a list
abbrev pub is_in : Ptr → List Ptr → Bool
is_in p [] = false
is_in p (q ∷ s) = if same_ptr p q then true else is_in p s

-- the list without the first p, if there is one
abbrev pub without : Ptr → List Ptr → List Ptr
without p [] = []
without p (q ∷ s) = if same_ptr p q then s else q ∷ without p s

-- the list with p right before the first q, if there is one
abbrev pub with_before : Ptr → Ptr → List Ptr → List Ptr
with_before q p [] = []
with_before q p (x ∷ s) = if same_ptr q x then p ∷ x ∷ s else x ∷ with_before q p s

-- the list with p right after the first q, if there is one
abbrev pub with_after : Ptr → Ptr → List Ptr → List Ptr
with_after q p [] = []
with_after q p (x ∷ s) = if same_ptr q x then x ∷ p ∷ s else x ∷ with_after q p s

-- no spot comes twice
abbrev pub Once : List Ptr → Type 0
Once [] = Unit {0}
Once (q ∷ s) = (is_in q s ≡ false) × Once s

abbrev pub nowhere : Address
nowhere = record { ptr = null_ptr }

-- the hook of a node that is not in the list
abbrev pub unlinked : Hook
unlinked = record { next = nowhere; prev = nowhere; linked = false }

-- the ends of a list with no node
abbrev pub no_ends : Ends
no_ends = record { first = nowhere; last = nowhere; len = 0 }

-- hook i, or that of no list
abbrev pub hook_in : List Hook → ℕ → Hook
hook_in [] i = unlinked
hook_in (h ∷ hs) zero = h
hook_in (h ∷ hs) (suc i) = hook_in hs i

-- the ends of list i, or those of no list
abbrev pub ends_in : List Ends → ℕ → Ends
ends_in [] i = no_ends
ends_in (e ∷ es) zero = e
ends_in (e ∷ es) (suc i) = ends_in es i

-- no hook but that for list 0 has the mark of its list
abbrev pub AllOff : List Hook → Type 0
AllOff hs = (i : ℕ) → 0 < i → (hook_in hs i).linked ≡ false

abbrev pub with_next : Hook → Address → Hook
with_next h p = record h { next = p }

abbrev pub with_prev : Hook → Address → Hook
with_prev h p = record h { prev = p }

abbrev pub unmarked : Hook → Hook
unmarked h = record h { linked = false }

-- f says of each spot what its hook is: h leads to the first spot of the list and t to its last, the first leads back
-- to p and the last on to q, and each to its neighbours
abbrev pub Chain : (Ptr → Hook) → Ptr → Ptr → List Ptr → Ptr → Ptr → Type 0
Chain f p h [] t q = (h ≡ q) × (t ≡ p)
Chain f p h (a ∷ s) t q = ((h ≡ a) × ((f a).prev.ptr ≡ p)) × Chain f a (f a).next.ptr s t q

-- the spots that a walk of n steps comes to
abbrev pub walk : (Ptr → Hook) → ℕ → Ptr → List Ptr
walk f zero h = []
walk f (suc n) h = h ∷ walk f n (f h).next.ptr

-- the list s has these ends, and its nodes, and no others, have the mark of it
pub record IsThread (f : Ptr → Hook) (e : Ends) (s : List Ptr) : Type 0 where
  pub long : e.len ≡ length s
  pub once : Once s
  pub marks : (p : Ptr) → (f p).linked ≡ is_in p s
  pub chain : Chain f null_ptr e.first.ptr s e.last.ptr null_ptr

-- the list s has these ends, and not the node at p, whose hook may be any; of the others its nodes alone have the mark
pub record IsOpen (f : Ptr → Hook) (e : Ends) (s : List Ptr) (p : Ptr) : Type 0 where
  pub long : e.len ≡ length s
  pub once : Once s
  pub away : is_in p s ≡ false
  pub marks : (q : Ptr) → same_ptr p q ≡ false → (f q).linked ≡ is_in q s
  pub chain : Chain f null_ptr e.first.ptr s e.last.ptr null_ptr

-- g is f, but for the hook h at p
pub record Wrote (f : Ptr → Hook) (p : Ptr) (h : Hook) (g : Ptr → Hook) : Type 0 where
  pub here : g p ≡ h
  pub others : (q : Ptr) → same_ptr p q ≡ false → g q ≡ f q

-- there is no node at p, which is null: no hook changes, and the list begins or ends with `to`
pub record IsBesideNone (f : Ptr → Hook) (p : Ptr) (to : Address) (g : Ptr → Hook) (r : Ptr) : Type 0 where
  pub null : p ≡ null_ptr
  pub same : g ≡ f
  pub end : r ≡ to.ptr

-- the node at `last` leads to `next`, and the list begins as before
pub record IsLastFollowed (f : Ptr → Hook) (last : Ptr) (next : Address) (first : Ptr) (g : Ptr → Hook) (r : Ptr)
    : Type 0 where
  pub there : InBlock last
  pub wrote : Wrote f last (with_next (f last) next) g
  pub end : r ≡ first

-- the node at `first` leads back to `prev`, and the list ends as before
pub record IsFirstPreceded (f : Ptr → Hook) (first : Ptr) (prev : Address) (last : Ptr) (g : Ptr → Hook) (r : Ptr)
    : Type 0 where
  pub there : InBlock first
  pub wrote : Wrote f first (with_prev (f first) prev) g
  pub end : r ≡ last

-- the node at `last` now leads to `next`, and r is the first; where `last` is null there is no node, and r is `next`
abbrev pub IsFollowedBy : (f : Ptr → Hook) (last : Ptr) (next : Address) (first : Ptr) (g : Ptr → Hook) (r : Ptr)
    → Type 0
IsFollowedBy f last next first g r = IsBesideNone f last next g r ⊎ IsLastFollowed f last next first g r

-- the node at `first` now leads back to `prev`, and r is the last; where `first` is null there is no node, and r is
-- `prev`
abbrev pub IsPrecededBy : (f : Ptr → Hook) (first : Ptr) (prev : Address) (last : Ptr) (g : Ptr → Hook) (r : Ptr)
    → Type 0
IsPrecededBy f first prev last g r = IsBesideNone f first prev g r ⊎ IsFirstPreceded f first prev last g r

-- the list with these ends has two parts: s, of which the last is at `prev`, and t, of which the first is at `next`
pub record IsParted (f : Ptr → Hook) (e : Ends) (s : List Ptr) (prev next : Ptr) (t : List Ptr) : Type 0 where
  pub front : Chain f null_ptr e.first.ptr s prev next
  pub back : Chain f prev next t e.last.ptr null_ptr
