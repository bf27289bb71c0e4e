-- What is left of a list.
use Rattle.std.proofs.Common.{◌≡◌, List, ◌++◌, All, subst, sym, length}
use Rattle.std.proofs.Math.Seq.{drop-append_seam}
use Rattle.std.proofs.lemmas.List.Elements.{All-drop}

-- what holds of all elements holds of those that are left
pub All-left : {X : Type 0} {all : List X} (P : X → Type 0) → (ran rest : List X) → ran ++ rest ≡ all → All P all → All P rest
All-left P ran rest split h =
    subst (All P) (drop-append_seam ran rest) (All-drop P (length ran) (ran ++ rest) (subst (All P) (sym split) h))
