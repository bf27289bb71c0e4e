-- What a handle owns tells where it is. Assumes `Logic`.
use Rattle.std.proofs.Common.{◌≡◌, ℕ, zero, suc, List, [], ◌∷◌, Bool, MatchBool, Option, Some, None, IfNone, IfSome, is_some, refl, sym, ◌∙◌, subst, arith}
use seplogic.Ra.Ura.{Ura}
use mir.Raw.{raw as bare}
use base.Fml.{Fml, ftrue, fex}
use base.Fraction.{full_share}
use base.Shift.{Keyless}
use mir.Syntax.{Ty, ty_struct}
use base.Logic.{ent, via, fst∗, snd∗, never_e, ex_e}
use types.Logic.{Logic, sem}
use types.Kit.{Item, Goal, Seq, mean, prop, ‵, raw, ◌$◌, ◌∵◌, !, qed, by, move, keep, use1, fsplit, fpick, fpack, feq_l, done}
use contract.Monad.{fact, fact_i, fact_use}
use denote.Memory.{lone}
use denote.RattleType.{RattleType}
use denote.RawPtr.{Ptr, block_ptr, null_ptr, InBlock, Testable, lies_at, lies_in_block}
use denote.Param.Send.{IsSend}
use Rattle.std.proofs.Crossing.{frees}
use Rattle.std.proofs.GlobalToken.{dealloc_token-Testable}
use Rattle.std.specs.declared.alloc.Global.{Global}
use Rattle.std.specs.contracts.impls.GlobalAllocator.TheImpl.{ghosts}
use Rattle.std_alloc.proofs.SendSync.{lies}
use Rattle.std_alloc.specs.Box.Ownership.{box_owns}
use Rattle.cordyceps_base.specs.Homes.{housed, parts_of, right_of}
use Rattle.cordyceps_c_base.specs.Held.{owns_held, owns_housed, IsAt}

-- a handle that is not at null holds something
pub held_some : {X : Type 0} (p : Ptr) (o : Option X) → IsAt p o → InBlock p → (x : X) × (o ≡ Some x)
held_some p None h b = absurd (subst InBlock h.1 b)
held_some p (Some x) h b = (x, refl)

held_none : {X : Type 0} (p : Ptr) (o : Option X) → IsAt p o → p ≡ null_ptr → o ≡ None
held_none p None h e = refl
held_none p (Some x) h e = absurd (subst InBlock e h.1)

-- whether a handle holds something is whether its pointer is not null
pub held_told : {X N : Type 0} (f : N → Ptr) (p q : Ptr) (o : Option X) (n : Option N) (found : Bool) → q ≡ p → IsAt p o
    → IfNone n (q ≡ null_ptr) → IfSome n (λ u. f u ≡ q) → IfSome n (λ u. InBlock (f u)) → found ≡ is_some n → MatchBool found ((x : X) × (o ≡ Some x)) (o ≡ None)
held_told {X} f p q o None found same at null value block is = subst (λ b. MatchBool b ((x : X) × (o ≡ Some x)) (o ≡ None)) (sym is) (held_none p o at (sym same ∙ null))
held_told {X} f p q o (Some u) found same at null value block is = subst (λ b. MatchBool b ((x : X) × (o ≡ Some x)) (o ≡ None)) (sym is) (held_some p o at (subst InBlock (value ∙ same) block))

module _ {M : Type 1} {𝓤 : Ura M} {𝓛 : Logic 𝓤} {K : Type 0} {Γ : List (Item 𝓤)} {G : Goal 𝓤 𝓛.H} where
  pub learns : K → {i : Item 𝓤} (φ : Type 0) → ent 𝓤 (mean 𝓛 i) (fact 𝓤 φ) → (φ → Seq K 𝓛 (i ∷ Γ) G) → Seq K 𝓛 (i ∷ Γ) G
  learns t {i} φ h k =
      let shown : Seq K 𝓛 (i ∷ Γ) (prop (fact 𝓤 φ)) = use1 𝓛 (raw (fact 𝓤 φ)) h $ keep t (0 ∷ []) $ done t in
      record { prf = fact_use 𝓤 φ shown.prf (λ x. (k x).prf) }

-- whoever may free a value and the word behind it knows that its address may be compared
module _ {M : Type 1} {𝓤 : Ura M} (𝓛 : Logic 𝓤) where
  right_Testable : (n : ℕ) (τ : Ty) (p : Ptr) → ent 𝓤 (sem 𝓛 (right_of n τ p)) (fact 𝓤 (Testable p))
  right_Testable zero τ p = ex_e 𝓤 (λ (a : Global). sem 𝓛 (ghosts.dealloc_token a (ty_struct [] (parts_of τ)) p)) (λ a. dealloc_token-Testable 𝓛 a (ty_struct [] (parts_of τ)) p)
  right_Testable (suc n) τ p = ex_e 𝓤 (λ (t : Testable p). sem 𝓛 ftrue) (λ t. fact_i 𝓤 (Testable p) _ t)

  housed_Testable : (τ : Ty) (p : Ptr) → ent 𝓤 (sem 𝓛 (housed τ p)) (fact 𝓤 (Testable p))
  housed_Testable τ null_ptr = never_e 𝓤 _
  housed_Testable τ (block_ptr b o) = qed 𝓛 (‵ (housed τ (block_ptr b o)) ∷ []) ∵ fpick ! (λ n. fsplit ! $ move ! (1 ∷ []) $ fsplit ! $ keep ! (1 ∷ []) $ by ! (right_Testable n τ (block_ptr b o)))

module _ {M : Type 1} {𝓤 : Ura M} (𝓛 : Logic 𝓤) (R : RattleType) where
  pub held_at : (p : Ptr) (o : Option R.Denot) → ent 𝓤 (sem 𝓛 (owns_held R p o)) (fact 𝓤 (IsAt p o))
  held_at p None =
      qed 𝓛 (‵ (owns_held R p None) ∷ []) ∵ feq_l ! (λ e.
      by ! (fact_i 𝓤 (IsAt {X = R.Denot} p None) _ (subst Testable (sym e) (omega arith), e)))
  held_at p (Some x) =
      qed 𝓛 (‵ (owns_held R p (Some x)) ∷ []) ∵ fpick ! (λ a.
      let own : Fml = lies_at R full_share p x in let may : Fml = ghosts.dealloc_token a (bare (lone R.mir)) p in
      learns ! (InBlock p) (via 𝓤 (sem 𝓛 own) (fst∗ 𝓤 (sem 𝓛 own) (sem 𝓛 may)) (lies_in_block 𝓛 R full_share p x)) (λ block.
      learns ! (Testable p) (via 𝓤 (sem 𝓛 may) (snd∗ 𝓤 (sem 𝓛 own) (sem 𝓛 may)) (dealloc_token-Testable 𝓛 a (bare (lone R.mir)) p)) (λ test.
      by ! (fact_i 𝓤 (IsAt p (Some x)) _ (test, block)))))

  pub housed_at : (p : Ptr) (o : Option R.Denot) → ent 𝓤 (sem 𝓛 (owns_housed R p o)) (fact 𝓤 (IsAt p o))
  housed_at p None =
      qed 𝓛 (‵ (owns_housed R p None) ∷ []) ∵ feq_l ! (λ e.
      by ! (fact_i 𝓤 (IsAt {X = R.Denot} p None) _ (subst Testable (sym e) (omega arith), e)))
  housed_at p (Some x) =
      let own : Fml = lies_at R full_share p x in let may : Fml = housed (bare (lone R.mir)) p in
      qed 𝓛 (‵ (owns_housed R p (Some x)) ∷ []) ∵
      learns ! (InBlock p) (via 𝓤 (sem 𝓛 own) (fst∗ 𝓤 (sem 𝓛 own) (sem 𝓛 may)) (lies_in_block 𝓛 R full_share p x)) (λ block.
      learns ! (Testable p) (via 𝓤 (sem 𝓛 may) (snd∗ 𝓤 (sem 𝓛 own) (sem 𝓛 may)) (housed_Testable 𝓛 (bare (lone R.mir)) p)) (λ test.
      by ! (fact_i 𝓤 (IsAt p (Some x)) _ (test, block))))

  -- the box of a value is what its handle owns
  pub held_boxed : (a : Global) (p : Ptr) (x : R.Denot) → ent 𝓤 (sem 𝓛 (box_owns (ghosts.dealloc_token a) R p x)) (sem 𝓛 (owns_held R p (Some x)))
  held_boxed a p x = qed 𝓛 (‵ (box_owns (ghosts.dealloc_token a) R p x) ∷ []) ∵ fpack ! Global (λ g. box_owns (ghosts.dealloc_token g) R p x) a $ done !

  pub housed_apart : (p : Ptr) (x : R.Denot) → ent 𝓤 (sem 𝓛 (owns_housed R p (Some x))) (sem 𝓛 (fex (Unit {0}) (λ _. box_owns housed R p x)))
  housed_apart p x = qed 𝓛 (‵ (owns_housed R p (Some x)) ∷ []) ∵ fpack ! (Unit {0}) (λ _. box_owns housed R p x) tt $ done !

-- it may go to another thread, where what it holds may
module _ (R : RattleType) (s : IsSend R) where
  pub held-Keyless : (p : Ptr) (o : Option R.Denot) → Keyless (owns_held R p o)
  held-Keyless p None = tt
  held-Keyless p (Some x) = λ a. (lies R s p x, frees.frees a (bare (lone R.mir)) p)
