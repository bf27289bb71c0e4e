-- Tries one after the other, each of which goes on from where the one before it ended.
use Rattle.std.proofs.Common.{◌≡◌, List, [], ◌∷◌, ◌++◌, map, refl, sym, ap, ◌∙◌, subst}
use Rattle.std.proofs.lemmas.List.{map-append}
use Rattle.cordyceps_shared.specs.Histories.{plain}
use Rattle.cordyceps_shared.specs.Shares.{whole}
use Rattle.cordyceps_queue.specs.History.{held}
use Rattle.cordyceps_queue.specs.Shared.Calls.{PartyOf}

-- a try, and those after it
pub record Then {S : Type 0} (First Rest : S → Type 0) : Type 0 where
  pub to : S
  pub first : First to
  pub rest : Rest to

module _ {S X : Type 0} (Row : X → S → S → Type 0) where
  -- such tries led from u to w
  abbrev pub Run : S → List X → S → Type 0
  Run u [] w = u ≡ w
  Run u (x ∷ xs) w = Then (Row x u) (λ v. Run v xs w)

  run_more : (u : S) (xs : List X) (v w : S) (x : X) → Run u xs v → Row x v w → Run u (xs ++ x ∷ []) w
  run_more u [] v w x e r = record { to = w; first = subst (λ z. Row x z w) (sym e) r; rest = refl }
  run_more u (y ∷ ys) v w x t r = record { to = t.to; first = t.first; rest = run_more t.to ys v w x t.rest r }

  -- tries gave these items one after the other, of which f makes the list
  pub record Given {B : Type 0} (f : X → B) (list : List B) (u w : S) : Type 0 where
    pub items : List X
    pub are : list ≡ map f items
    pub run : Run u items w

  pub given_more : {B : Type 0} (f : X → B) (list next : List B) (u v w : S) (x : X) → Given f list u v → next ≡ list ++ f x ∷ [] → Row x v w → Given f next u w
  given_more f list next u v w x g more r = record {
    items = g.items ++ x ∷ [];
    are = more ∙ (ap (λ z. z ++ f x ∷ []) g.are ∙ sym (map-append f g.items (x ∷ [])));
    run = run_more u g.items v w x g.run r;
  }

-- tries of a whole party, each of which took the first element that was held
module _ {E : Type 0} (Row : E → PartyOf E → PartyOf E → Type 0)
    (same : (e : E) (u v : PartyOf E) → Row e u v → v.share ≡ u.share)
    (first : (e : E) (u v : PartyOf E) → u.share ≡ whole → Row e u v → held (plain u.seen) ≡ e ∷ held (plain v.seen)) where
  pub run_holds : (u : PartyOf E) (es : List E) (w : PartyOf E) → u.share ≡ whole → Run Row u es w
      → held (plain u.seen) ≡ es ++ held (plain w.seen)
  run_holds u [] w is e = ap (λ z. held (plain z.seen)) e
  run_holds u (e ∷ es) w is t =
      first e u t.to is t.first ∙ ap (λ z. e ∷ z) (run_holds t.to es w (same e u t.to t.first ∙ is) t.rest)
