-- A value and the word behind it, apart and together, and the machine value of a `Home`. Assumes `Logic`.
use Rattle.std.proofs.Common.{◌≡◌, ℕ, ◌+◌, List, [], ◌∷◌, refl, sym, subst}
use seplogic.Ra.Ura.{Ura}
use base.Fraction.{full_share}
use mir.Syntax.{Ty, w64, ty_int, ty_struct}
use mir.Raw.{raw as bare}
use mir.Val.{Val, vstruct, vnil}
use base.Logic.{ent, sep, emp}
use base.Fml.{Fml, ftrue, fsep, fleft}
use prog.Memory.{align, up}
use prog.RawLaws.{align-raw, size-raw}
use types.Logic.{Logic, sem}
use types.Kit.{‵, ◌⊛◌, ◌$◌, ◌∵◌, !, qed, move, drop, split, fsplit, fjoin, use1, use2, done, rewrite, frame}
use denote.Builtin.{u64}
use denote.Memory.{part_at}
use denote.Param.{param, layout}
use denote.Param.Laws.{Laws, param_laws}
use denote.RattleType.{RattleType}
use denote.Shadow.{makes_shadow}
use denote.Steps.{nothing}
use denote.Struct.CellSteps.{first_at}
use denote.Struct.Declared.{shape}
use denote.Struct.Members.{Member, Lone}
use denote.Struct.Parts.{shape_of, Struct-left, left_Struct}
use denote.Struct.Recorded.{Recorded-part}
use denote.Struct.Struct.{Struct}
use Rattle.cordyceps_base.specs.contracts.boxes.homes.Home as home
use Rattle.cordyceps_base.specs.contracts.boxes.homes.Housed.{the_row, the_type}
use Rattle.cordyceps_base.specs.Homes.{parts_of, word_at}

-- the machine value of a `Home`
abbrev pub home_val : Val
home_val = vstruct vnil

pub home_shown : {M : Type 1} {𝓤 : Ura M} (𝓛 : Logic 𝓤) → ent 𝓤 (emp 𝓤) (sem 𝓛 ((home.the_row).own_val (record {}) (home_val ∷ [])))
home_shown 𝓛 = makes_shadow 𝓛 ((home.the_row).own_val (record {}) (home_val ∷ [])) (λ vss. (tt, tt)) (tt, (refl, tt))

module _ (T : RattleType) where
  abbrev pub R : RattleType
  R = param 0 T

  -- a value and its word
  abbrev pub S : RattleType
  S = the_row R

  abbrev pub δ : Ty
  δ = layout T

  abbrev fields : List Member
  fields = record { row = R; ty = δ } ∷ record { row = u64; ty = ty_int w64 } ∷ []

  abbrev Tuple : RattleType
  Tuple = Struct (shape_of (the_type R).name fields)

  as_tuple : (v : S.Denot) (b o : ℕ) → part_at S full_share v b o ≡ part_at Tuple full_share (v.body, (v.home, tt)) b o
  as_tuple v b o = let D = the_type R in Recorded-part (Struct (shape D)) D.D D.to D.to_one full_share v b o

  -- what else lies there
  abbrev pub Left : ℕ → ℕ → Fml
  Left b o = fleft full_share (ty_struct [] (parts_of (bare δ))) (parts_of (bare δ)) b o

  -- the word is where the token says
  pub word_same : word_at (bare δ) ≡ word_at δ
  word_same = λ i. up (align (ty_int w64)) (up (align-raw δ i) 0 + size-raw δ i)

  module _ {M : Type 1} {𝓤 : Ura M} (𝓛 : Logic 𝓤) (b o : ℕ) where
    pub apart : Laws T → (v : S.Denot) → ent 𝓤 (sem 𝓛 (part_at S full_share v b o))
        (sep 𝓤 (sem 𝓛 (part_at R full_share v.body b o)) (sep 𝓤 (sem 𝓛 (part_at u64 full_share v.home b (o + word_at δ))) (sem 𝓛 (Left b o))))
    apart L v =
        qed 𝓛 (‵ (part_at S full_share v b o) ∷ []) ∵ rewrite ! 0 (λ (f : Fml). ‵ f) (as_tuple v b o) refl $
        use1 𝓛 (‵ (fsep (part_at R full_share v.body b (o + up (align δ) 0)) (fsep (part_at u64 full_share v.home b (o + word_at δ)) ftrue)) ⊛ ‵ (Left b o))
        (Struct-left 𝓛 full_share (the_type R).name fields ((param_laws 0 T L).single, ((λ x vs p. subst Lone (sym p.0) tt), tt)) (v.body, (v.home, tt)) b o) $ split ! $
        fsplit ! $ rewrite ! 0 (λ (k : ℕ). ‵ (part_at R full_share v.body b k)) (first_at (align δ) o) refl $ move ! (1 ∷ []) $ fsplit ! $ move ! (1 ∷ []) $ drop ! $
        move ! (1 ∷ 0 ∷ []) $ frame ! $ frame ! $ done !

    pub together : (v : S.Denot) → ent 𝓤 (sep 𝓤 (sem 𝓛 (part_at R full_share v.body b o)) (sep 𝓤 (sem 𝓛 (part_at u64 full_share v.home b (o + word_at δ))) (sem 𝓛 (Left b o))))
        (sem 𝓛 (part_at S full_share v b o))
    together v =
        qed 𝓛 (‵ (part_at R full_share v.body b o) ∷ ‵ (part_at u64 full_share v.home b (o + word_at δ)) ∷ ‵ (Left b o) ∷ []) ∵
        rewrite ! 0 (λ (k : ℕ). ‵ (part_at R full_share v.body b k)) (sym (first_at (align δ) o)) refl $ move ! (1 ∷ []) $ nothing ! $ move ! (1 ∷ 0 ∷ []) $ fjoin ! $ move ! (1 ∷ 0 ∷ []) $ fjoin ! $
        use2 𝓛 (‵ (part_at Tuple full_share (v.body, (v.home, tt)) b o)) (left_Struct 𝓛 full_share (the_type R).name fields (v.body, (v.home, tt)) b o) $
        rewrite ! 0 (λ (f : Fml). ‵ f) (sym (as_tuple v b o)) refl $ done !
