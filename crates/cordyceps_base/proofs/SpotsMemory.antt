-- What owning a row of boxes tells of their spots. Assumes `Logic`.
use mathlib.Core.Path.{◌≡◌, refl, sym, ap, subst}
use mathlib.Core.Bool.{Bool, true, false}
use Prim.Native.Nat.{ℕ, zero, suc, ◌<◌}
use native.Mathlib.Omega.{arith}
use mathlib.Core.List.{List, [], ◌∷◌, ◌++◌}
use seplogic.Ra.Ura.{Ura}
use base.Fraction.{full_share}
use mir.Syntax.{Ty, ty_struct}
use mir.Val.{Val, vstruct, vnil, of_list}
use mir.Raw.{raw as bare}
use base.Logic.{ent, sep, emp, snd∗, via, never, never_e, fst∗, mono∗, ex_e}
use base.Fml.{Fml, ftrue}
use prog.Model.{Model}
use prog.Memory.{size}
use types.Logic.{Logic, sem}
use contract.Monad.{fact, fact_i, fact_use, fact_mono}
use types.Kit.{Item, Goal, Seq, Step, step, mean, prop, ‵, raw, ◌$◌, ◌∵◌, !, qed, by, move, keep, drop as forget, use0, use1, use2, fsplit, fjoin, fpick, feq_l, done}
use denote.RattleType.{RattleType}
use denote.Memory.{lone, cell_raw, raw_all, part_at, part_of}
use denote.RawPtr.{Ptr, block_ptr, null_ptr, Testable, InBlock, lies_in_block}
use denote.Shadow.{makes_shadow}
use denote.Struct.Struct.{Struct}
use denote.Struct.Owning.{shape}
use Rattle.std.specs.declared.alloc.Global.{Global}
use Rattle.std.specs.contracts.impls.GlobalAllocator.TheImpl.{ghosts as heap}
use Rattle.std.proofs.GlobalToken.{dealloc_token-Testable}
use Rattle.cordyceps_base.specs.declared.boxes.homes.Home.{Home}
use Rattle.cordyceps_base.specs.contracts.boxes.homes.Home as home
use Rattle.cordyceps_base.specs.contracts.boxes.homes.HomeAllocator.TheImpl.{ghosts as home_ghosts}
use Rattle.cordyceps_base.specs.contracts.boxes.Boxes as boxes
use Rattle.cordyceps_base.specs.Homes.{housed, parts_of, right_of}
use Rattle.cordyceps_base.proofs.Memory.{mark}
use lib.Dec.{eqb_refl}
use Rattle.std.proofs.Common.{◌==◌, ◌&&◌, eqb→eq, T, if◌then◌else◌, slice_get, Some}
use Rattle.core.specs.Ptr.{points_to}
use Rattle.cordyceps_base.specs.Boxes.{boxes_own, box_addresses, box_value}
use Rattle.cordyceps_base.specs.Spots.{same_ptr, index_of, IsNew, AreDistinct, AreNullComparable}

both : (x y : Bool) → (x && y) ≡ true → T x × T y
both true true e = (tt, tt)
both true false e = cc
both false y e = cc

pub same_ptr_eq : (p q : Ptr) → same_ptr p q ≡ true → p ≡ q
same_ptr_eq (block_ptr b o) (block_ptr c p) e = let t = both (b == c) (o == p) e in λ i. block_ptr (eqb→eq b c t.0 i) (eqb→eq o p t.1 i)
same_ptr_eq (block_ptr b o) null_ptr e = cc
same_ptr_eq null_ptr (block_ptr c p) e = cc
same_ptr_eq null_ptr null_ptr e = refl

true_of : (b : Bool) → T b → b ≡ true
true_of true t = refl
true_of false t = absurd t

pub same_ptr_refl : (p : Ptr) → same_ptr p p ≡ true
same_ptr_refl (block_ptr b o) = λ i. true_of (b == b) (eqb_refl b) i && true_of (o == o) (eqb_refl o) i
same_ptr_refl null_ptr = refl

-- the first spot that is p
pub first_at : (ps : List Ptr) (p : Ptr) (k : ℕ) → slice_get ps k ≡ Some p → slice_get ps (index_of p ps) ≡ Some p
first_at [] p k e = cc
first_at (q ∷ ps) p zero e =
    let here : q ≡ p = cc in
    let same : same_ptr p q ≡ true = subst (λ r. same_ptr p r ≡ true) (sym here) (same_ptr_refl p) in
    subst (λ (b : Bool). slice_get (q ∷ ps) (if b then zero else suc (index_of p ps)) ≡ Some p) (sym same) (ap Some here)
first_at (q ∷ ps) p (suc k) e = (elim (same_ptr p q) as (λ z. same_ptr p q ≡ z → slice_get (q ∷ ps) (index_of p (q ∷ ps)) ≡ Some p) [
  | true ↦ λ same. subst (λ (b : Bool). slice_get (q ∷ ps) (if b then zero else suc (index_of p ps)) ≡ Some p) (sym same) (ap Some (sym (same_ptr_eq p q same)))
  | false ↦ λ other. subst (λ (b : Bool). slice_get (q ∷ ps) (if b then zero else suc (index_of p ps)) ≡ Some p) (sym other) (first_at ps p k e)
]) refl

module _ {M : Type 1} {𝓤 : Ura M} {𝓛 : Logic 𝓤} {K : Type 0} {Γ : List (Item 𝓤)} {G : Goal 𝓤 𝓛.H} where
  -- a fact that an entry shows, or two, is learned, and they stay
  pub learns : K → {i : Item 𝓤} (φ : Type 0) → ent 𝓤 (mean 𝓛 i) (fact 𝓤 φ) → (φ → Seq K 𝓛 (i ∷ Γ) G) → Seq K 𝓛 (i ∷ Γ) G
  learns t {i} φ h k =
      let shown : Seq K 𝓛 (i ∷ Γ) (prop (fact 𝓤 φ)) = use1 𝓛 (raw (fact 𝓤 φ)) h $ keep t (0 ∷ []) $ done t in
      record { prf = fact_use 𝓤 φ shown.prf (λ x. (k x).prf) }

  pub knows : K → {i j : Item 𝓤} (φ : Type 0) → ent 𝓤 (sep 𝓤 (mean 𝓛 i) (mean 𝓛 j)) (fact 𝓤 φ) → (φ → Seq K 𝓛 (i ∷ j ∷ Γ) G) → Seq K 𝓛 (i ∷ j ∷ Γ) G
  knows t {i} {j} φ h k =
      let shown : Seq K 𝓛 (i ∷ j ∷ Γ) (prop (fact 𝓤 φ)) = use2 𝓛 (raw (fact 𝓤 φ)) h $ keep t (0 ∷ []) $ done t in
      record { prf = fact_use 𝓤 φ shown.prf (λ x. (k x).prf) }

module _ {M : Type 1} {𝓤 : Ura M} (𝓛 : Logic 𝓤) (𝓜 : Model 𝓤 𝓛.H) where
  -- an address that is owned whole is room
  cells_room : (τs : List Ty) (vs : List Val) (b o : ℕ) → ent 𝓤 (sem 𝓛 (cell_raw full_share (raw_all τs) vs b o)) (𝓛.H.room (lone τs) b o)
  cells_room [] vs b o = never_e 𝓤 _
  cells_room (τ ∷ []) [] b o = never_e 𝓤 _
  cells_room (τ ∷ []) (v ∷ []) b o = via 𝓤 (𝓛.H.room (bare τ) b o) (𝓛.laws.at_room (bare τ) b o v) (𝓛.laws.raw-room τ b o)
  cells_room (τ ∷ []) (v ∷ u ∷ vs) b o = never_e 𝓤 _
  cells_room (τ ∷ σ ∷ τs) vs b o = never_e 𝓤 _

  module _ (Y : RattleType) where
    part_room : (x : Y.Denot) (b o : ℕ) → ent 𝓤 (sem 𝓛 (part_at Y full_share x b o)) (𝓛.H.room (lone Y.mir) b o)
    unfolding part_of
    part_room x b o =
        ex_e 𝓤 (λ (vs : List Val). sep 𝓤 (sem 𝓛 (cell_raw full_share (raw_all Y.mir) vs b o)) (sem 𝓛 (Y.own_val x vs)))
        (λ vs. via 𝓤 (sem 𝓛 (cell_raw full_share (raw_all Y.mir) vs b o)) (fst∗ 𝓤 _ (sem 𝓛 (Y.own_val x vs))) (cells_room Y.mir vs b o))

    module _ (some : 0 < size (lone Y.mir)) where
      clash : (p : Ptr) (x y : Y.Denot) → ent 𝓤 (sep 𝓤 (sem 𝓛 (points_to Y p x)) (sem 𝓛 (points_to Y p y))) (never 𝓤)
      clash (block_ptr b o) x y = via 𝓤 (sep 𝓤 (𝓛.H.room (lone Y.mir) b o) (𝓛.H.room (lone Y.mir) b o)) (mono∗ 𝓤 (part_room x b o) (part_room y b o))
          (𝓜.room-room (lone Y.mir) (lone Y.mir) b o o o (omega arith, omega arith) (omega arith, omega arith))
      clash null_ptr x y = fst∗ 𝓤 (never 𝓤) (never 𝓤)

      differ : (p q : Ptr) (x y : Y.Denot) → ent 𝓤 (sep 𝓤 (sem 𝓛 (points_to Y p x)) (sem 𝓛 (points_to Y q y))) (fact 𝓤 (same_ptr p q ≡ false))
      differ p q x y = (elim (same_ptr p q) as (λ z. same_ptr p q ≡ z → ent 𝓤 (sep 𝓤 (sem 𝓛 (points_to Y p x)) (sem 𝓛 (points_to Y q y))) (fact 𝓤 (same_ptr p q ≡ false))) [
        | true ↦ λ e. via 𝓤 (never 𝓤) (subst (λ r. ent 𝓤 (sep 𝓤 (sem 𝓛 (points_to Y p x)) (sem 𝓛 (points_to Y r y))) (never 𝓤)) (same_ptr_eq p q e) (clash p x y)) (never_e 𝓤 _)
        | false ↦ λ e. fact_i 𝓤 (same_ptr p q ≡ false) _ e
      ]) refl

      module _ {Z : Type 0} (holds : Z → Ty → Ptr → Fml) where
        abbrev Own : List (Ptr × Z × Y.Denot) → Fml
        Own = boxes_own holds Y

        new_in : (p : Ptr) (x : Y.Denot) (ns : List (Ptr × Z × Y.Denot)) → ent 𝓤 (sep 𝓤 (sem 𝓛 (points_to Y p x)) (sem 𝓛 (Own ns))) (fact 𝓤 (IsNew p (box_addresses ns)))
        new_in p x [] = fact_i 𝓤 (IsNew p []) _ tt
        new_in p x (n ∷ ns) = qed 𝓛 (‵ (points_to Y p x) ∷ ‵ (Own (n ∷ ns)) ∷ []) ∵ move ! (1 ∷ []) $ fsplit ! $ fsplit ! $ move ! (3 ∷ 0 ∷ []) $
            knows ! (same_ptr p n.0 ≡ false) (differ p n.0 x (box_value n)) (λ here. move ! (0 ∷ 3 ∷ []) $ knows ! (IsNew p (box_addresses ns)) (new_in p x ns) (λ rest.
            by ! (fact_i 𝓤 (IsNew p (box_addresses (n ∷ ns))) _ (here, rest))))

        row_distinct : (ns : List (Ptr × Z × Y.Denot)) → ent 𝓤 (sem 𝓛 (Own ns)) (fact 𝓤 (AreDistinct (box_addresses ns)))
        row_distinct [] = fact_i 𝓤 (AreDistinct []) _ tt
        row_distinct (n ∷ ns) = qed 𝓛 (‵ (Own (n ∷ ns)) ∷ []) ∵ fsplit ! $ fsplit ! $ move ! (0 ∷ 2 ∷ []) $
            knows ! (IsNew n.0 (box_addresses ns)) (new_in n.0 (box_value n) ns) (λ here. move ! (1 ∷ []) $ learns ! (AreDistinct (box_addresses ns)) (row_distinct ns) (λ rest.
            by ! (fact_i 𝓤 (AreDistinct (box_addresses (n ∷ ns))) _ (here, rest))))

    sized : {Z : Type 0} (holds : Z → Ty → Ptr → Fml) (ns : List (Ptr × Z × Y.Denot)) (s : ℕ) → s ≡ size (lone Y.mir) → ent 𝓤 (sem 𝓛 (boxes_own holds Y ns)) (fact 𝓤 (0 < s → AreDistinct (box_addresses ns)))
    sized holds ns zero e = fact_i 𝓤 (0 < 0 → AreDistinct (box_addresses ns)) _ (λ p. absurd (omega arith))
    sized holds ns (suc s) e = via 𝓤 (fact 𝓤 (AreDistinct (box_addresses ns))) (row_distinct (omega arith) holds ns) (fact_mono 𝓤 _ _ (λ a _. a))

    pub distinct_if_sized : {Z : Type 0} (holds : Z → Ty → Ptr → Fml) (ns : List (Ptr × Z × Y.Denot)) → ent 𝓤 (sem 𝓛 (boxes_own holds Y ns)) (fact 𝓤 (0 < size (lone Y.mir) → AreDistinct (box_addresses ns)))
    distinct_if_sized holds ns = sized holds ns (size (lone Y.mir)) refl

-- what `Global` may free is a block's start, and of what is lent the right to free says it
module _ {M : Type 1} {𝓤 : Ura M} (𝓛 : Logic 𝓤) where
  right_comparable : (n : ℕ) (τ : Ty) (p : Ptr) → ent 𝓤 (sem 𝓛 (right_of n τ p)) (fact 𝓤 (Testable p))
  right_comparable zero τ p = ex_e 𝓤 (λ (a : Global). sem 𝓛 (heap.dealloc_token a (ty_struct [] (parts_of τ)) p)) (λ a. dealloc_token-Testable 𝓛 a (ty_struct [] (parts_of τ)) p)
  right_comparable (suc n) τ p = ex_e 𝓤 (λ (t : Testable p). sem 𝓛 ftrue) (λ t. fact_i 𝓤 (Testable p) _ t)

  housed_comparable : (τ : Ty) (p : Ptr) → ent 𝓤 (sem 𝓛 (housed τ p)) (fact 𝓤 (Testable p))
  housed_comparable τ null_ptr = never_e 𝓤 _
  housed_comparable τ (block_ptr b o) = qed 𝓛 (‵ (housed τ (block_ptr b o)) ∷ []) ∵ fpick ! (λ n. fsplit ! $ move ! (1 ∷ []) $ fsplit ! $ keep ! (1 ∷ []) $ by ! (right_comparable n τ (block_ptr b o)))

module _ {M : Type 1} {𝓤 : Ura M} (𝓛 : Logic 𝓤) (R : RattleType) where
  abbrev pub HomeRow : List (Ptr × Home × R.Denot) → Fml
  HomeRow = boxes_own home_ghosts.dealloc_token R

  pub row_comparable : (ns : List (Ptr × Home × R.Denot)) → ent 𝓤 (sem 𝓛 (HomeRow ns)) (fact 𝓤 (AreNullComparable (box_addresses ns)))
  row_comparable [] = fact_i 𝓤 (AreNullComparable []) _ tt
  row_comparable (n ∷ ns) =
      let own : Fml = points_to R n.0 (box_value n) in let may : Fml = housed (bare (lone R.mir)) n.0 in
      qed 𝓛 (‵ (HomeRow (n ∷ ns)) ∷ []) ∵ fsplit ! $
      learns ! (InBlock n.0) (via 𝓤 (sem 𝓛 own) (fst∗ 𝓤 (sem 𝓛 own) (sem 𝓛 may)) (lies_in_block 𝓛 R full_share n.0 (box_value n))) (λ block.
      learns ! (Testable n.0) (via 𝓤 (sem 𝓛 may) (snd∗ 𝓤 (sem 𝓛 own) (sem 𝓛 may)) (housed_comparable 𝓛 (bare (lone R.mir)) n.0)) (λ test.
      move ! (1 ∷ []) $ learns ! (AreNullComparable (box_addresses ns)) (row_comparable ns) (λ rest. by ! (fact_i 𝓤 (AreNullComparable (box_addresses (n ∷ ns))) _ ((block, test), rest)))))

  abbrev pub HomeBoxes : RattleType
  HomeBoxes = boxes.the_row R home.the_row home_ghosts

  abbrev HomeMark : RattleType
  HomeMark = Struct (shape (boxes.the_type R home.the_row home_ghosts))

  home_mark_shown : ent 𝓤 (emp 𝓤) (sem 𝓛 (HomeMark.own_val (tt, tt) (mark ∷ [])))
  home_mark_shown = makes_shadow 𝓛 (HomeMark.own_val (tt, tt) (mark ∷ [])) (λ vss. (tt, ((λ uss. (tt, tt)), tt))) ((vstruct vnil ∷ [], tt), (refl, ((tt, (refl, tt)), tt)))

module _ {M : Type 1} {𝓤 : Ura M} {𝓛 : Logic 𝓤} {K : Type 0} {Γ : List (Item 𝓤)} {G : Goal 𝓤 𝓛.H} where
  pub home_boxes_made : K → (R : RattleType) (d : (HomeBoxes 𝓛 R).Denot) → Step K 𝓛 (‵ ((HomeBoxes 𝓛 R).own_val d (mark ∷ [])) ∷ Γ) G (‵ (HomeRow 𝓛 R d.blocks) ∷ Γ) G
  home_boxes_made t R d = step (λ s. use0 𝓛 (‵ ((HomeMark 𝓛 R).own_val (tt, tt) (mark ∷ []))) (home_mark_shown 𝓛 R) $ fjoin t $ s)

  pub home_boxes_had : K → (R : RattleType) (d : (HomeBoxes 𝓛 R).Denot) (vs : List Val) → (vs ≡ mark ∷ [] → Seq K 𝓛 (‵ (HomeRow 𝓛 R d.blocks) ∷ Γ) G) → Seq K 𝓛 (‵ ((HomeBoxes 𝓛 R).own_val d vs) ∷ Γ) G
  home_boxes_had t R d vs k = fsplit t $ fpick t (λ vss. fsplit t $ feq_l t (λ ev. fsplit t $ fpick t (λ uss. fsplit t $ feq_l t (λ e. forget t $ forget t $
      k (subst (λ (ws : List Val). vs ≡ vstruct (of_list (ws ++ [])) ∷ []) e ev)))))
