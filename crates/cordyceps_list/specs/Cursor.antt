-- What a clause says of a cursor.
use Rattle.std.specs.Prelude.{◌≡◌, ℕ, Option, IfNone}
use Rattle.std.specs.Option.{OnSome}
use Rattle.std.specs.Borrow.{LendsSo, MutBor, Fml, GName}
use denote.RattleType.{RattleType}
use denote.Ref.{NamedLft}
use Rattle.cordyceps_base.specs.Element.{Elements, with_value}
use Rattle.cordyceps_list.specs.declared.cursor_mut.CursorMut.{CursorMut as CursorOver}
use Rattle.cordyceps_list.specs.Position.{Position}
use Rattle.cordyceps_list.specs.contracts.cursor_mut.CursorMut.{the_row}
use Rattle.cordyceps_list.specs.contracts.owned.OwnedCursor.{the_row as nodes_row}

-- a cursor with the nodes that it owns, of which a contract sees the elements and the cursor's place
abbrev pub CursorMut : Type 0 → Type 0
CursorMut X = CursorOver X (Position X)

module _ {X : Type 0} where
  -- the list's elements
  abbrev pub elements : CursorMut X → Elements X
  elements c = c.nodes.elements

  -- the cursor's place among them
  abbrev pub place : CursorMut X → ℕ
  place c = c.nodes.place

  -- the loan of the list
  abbrev pub lender : CursorMut X → GName
  lender c = c.list.ghost_name

  -- the cursor still borrows its list, whose elements are s, and stands at place k
  pub record Stands (old new : CursorMut X) (s : Elements X) (k : ℕ) : Type 0 where
    pub same_reference : lender new ≡ lender old
    pub elements_are : elements new ≡ s
    pub place_is : place new ≡ k

module _ (κ : NamedLft) (R : RattleType) where
  -- once the loan ends, the value at place k is the last one written, and the cursor stands at j
  abbrev pub LendsAndStands : MutBor (CursorMut R.Denot) → ℕ → ℕ → Option (MutBor R.Denot) → Fml
  LendsAndStands c k j r =
      LendsSo (the_row κ R (nodes_row R)) R c r (λ n w. OnSome r (Stands c.now n (with_value (elements c.now) k w) j)) (λ n.
      IfNone r (Stands c.now n (elements c.now) (place c.now)))
