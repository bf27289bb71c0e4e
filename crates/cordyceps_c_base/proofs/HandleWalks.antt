-- What the walks of all handles share. A handle tells where it is, and lends what it holds. Assumes `Logic`.
use Rattle.std.proofs.Common.{◌≡◌, ℕ, List, [], ◌∷◌, ◌++◌, Option, Some, refl, sym, ap, subst}
use seplogic.Ra.Ura.{Ura}
use base.Fraction.{full_share}
use base.Logic.{SProp, ent, sep, emp, never, id⊢}
use base.Fml.{Fml, GName, ftrue, fsep, fex, flft}
use contract.Lifetimes.{Lfts}
use contract.Monad.{fact, fact_i}
use contract.Running.{Running, tables}
use mir.Raw.{raw as bare}
use mir.Syntax.{Ty, Fn, Callee, named, erased, mut, ty_ptr, ty_ref, local, value_local, place, deref, field, copy, rv_opd, addr_of, assign, block, seq, return}
use mir.Val.{Val, vptr, vstruct, of_list}
use prog.Model.{Model}
use prog.Wp.{Closed, Env}
use types.Logic.{Logic, sem}
use types.Kit.{Item, Goal, Seq, Step, step, ‵, raw, ◌⊛◌, some, later, await, at_ret, ◌$◌, ◌∵◌, !, qed, by, move, keep, drop, pick, split, join, group, frame, fsplit, fsplit3, fjoin, fjoin3, fpick, fpack, feq_i, feq_l, rewrite, suffices, use0, use1, done}
use types.Run.{stop, fld, load, of_opd, addr, first, blocks, exec, returns, enter}
use types.ByLocal.{alloc_all, pass_all, free_all, look_at, get, sets, sets_last, through, env, is}
use types.Part.{sub, whole, look_in}
use denote.Builtin.{RawPtr}
use denote.Exit.{yes, no}
use denote.Follow.{Part, lends_Part}
use denote.Memory.{lone, mem, part_at, cell_at, part_of}
use denote.RattleType.{RattleType, owns, Valss}
use denote.RawPtr.{Ptr, block_ptr, ptr_val, in_a_block}
use denote.Ref.{MutRef, MutBor, mut_vals, mut_Tells}
use denote.Signature.{plain, mut_ref_to}
use denote.Steps.{nothing, heard, opens, closes}
use denote.Struct.Field.{RawPtr-field}
use denote.Struct.Owning.{Owning, row, shape}
use denote.Struct.Struct.{within}
use denote.Triple.Clauses.{Ended, Clauses, closing}
use denote.Triple.Spec.{Meets}
use denote.Triple.Walked.{Stays, says, stay_dropped, stay_ref, walk_of, ends_at, Goes-spent_ref, Goes-ref}
use Rattle.core.proofs.atomic.Steps.{Ptr-Good}
use Rattle.core.specs.Borrow.{Lends}
use Rattle.core.specs.Ptr.{points_to}
use Rattle.std.proofs.raw_atomic.Walks.{proved, leaves}
use Rattle.std_alloc.specs.Box.Ownership.{box_owns}
use Rattle.std_alloc.proofs.RcSteps.{word, word_ty}
use Rattle.std_alloc.proofs.VecSteps.Shapes.{after}
use Rattle.cordyceps_c_base.specs.Held.{IsAt}
use Rattle.cordyceps_c_base.proofs.Held.{learns}

-- a handle as its module declares it, what it holds, where it is, and what it owns
module _ (base : Owning) (R : RattleType) (at : base.D → Ptr) (held : base.D → Option R.Denot) (O : Ptr → Option R.Denot → Fml) where
  abbrev T : Owning
  T = record {
    name = base.name;
    args = [];
    types = [];
    parts = RawPtr-field ∷ [];
    D = base.D;
    as_values = λ d. (at d, tt);
    coded = base.coded;
    heap = λ d. O (at d) (held d);
    exit = base.exit;
    shr_at = base.shr_at;
  }

  abbrev pub H : RattleType
  H = row T

  module _ {M : Type 1} {𝓤 : Ura M} {𝓛 : Logic 𝓤} {K : Type 0} {Γ : List (Item 𝓤)} {G : Goal 𝓤 𝓛.H} where
    pub handle_out : K → (d : H.Denot) (vs : List Val)
        → (vs ≡ word (at d) ∷ [] → Seq K 𝓛 (‵ (O (at d) (held d)) ∷ Γ) G)
        → Seq K 𝓛 (‵ (H.own_val d vs) ∷ Γ) G
    handle_out t d vs k =
        fsplit t $ fpick t (λ vss. fsplit t $ feq_l t (λ ev. fsplit t $ feq_l t (λ ep. drop t $
        k (subst (λ (ps : List Val). vs ≡ vstruct (of_list (ps ++ [])) ∷ []) ep ev))))

    pub handle_in : K → (d : H.Denot)
        → Step K 𝓛 (‵ (H.own_val d (word (at d) ∷ [])) ∷ Γ) G (‵ (O (at d) (held d)) ∷ Γ) G
    handle_in t d = step (λ s. let v : Val = word (at d) in
        nothing t $ feq_i t (List Val) (ptr_val (at d) ∷ []) (ptr_val (at d) ∷ []) refl $ fjoin t $ feq_i t (List Val) (v ∷ []) (v ∷ []) refl $ fjoin t $
        fpack t (Valss (RawPtr ∷ [])) (within (shape T) (at d, tt) (v ∷ [])) (ptr_val (at d) ∷ [], tt) $ fjoin t $ s)

  -- ---- where it is
  abbrev place_code : Ty → Fn
  place_code σ = record {
    lifetimes = 1;
    outlives = [];
    ty_params = [];
    givens = 0;
    params = 1;
    locals = local ty_ptr value_local ∷ local (ty_ref (named 0) mut σ) value_local ∷ [];
    body = seq (assign (place 0 []) (rv_opd (copy (place 1 (deref (word_ty base.name) ∷ field 0 ∷ []))))) return;
  }

  abbrev place_ended : Ended
  place_ended = record {
    signature = record { lifetimes = 1; outlives = []; params = mut_ref_to (0 ∷ []) tt (plain (λ _. H)) ∷ []; result = plain (λ _. RawPtr) };
    kept = (yes, tt);
  }

  module _ {M : Type 1} (𝓤 : Ura M) (𝓛 : Logic 𝓤) (𝓜 : Model 𝓤 𝓛.H) (𝓡 : Running 𝓤 𝓛.H 𝓜) where
    abbrev place_clauses : Clauses 𝓤 place_ended
    place_clauses κs a = record {
      ghost = Unit {0};
      requires = λ _. sem 𝓛 ftrue;
      ensures = λ _ r e. fact 𝓤 ((r ≡ at a.0.now) × (e.0.now ≡ a.0.now) × IsAt (at a.0.now) (held a.0.now));
    }

    module _ (told : (p : Ptr) (o : Option R.Denot) → ent 𝓤 (sem 𝓛 (O p o)) (fact 𝓤 (IsAt p o))) where
      pub place_walk : (σ : Ty) (k : Callee) → Closed 𝓤 𝓛.H (tables 𝓤 𝓛.H 𝓜 𝓡 𝓡.env).C (tables 𝓤 𝓛.H 𝓜 𝓡 𝓡.env).Λ k (place_code σ)
          → Meets 𝓛 place_ended.signature ((tables 𝓤 𝓛.H 𝓜 𝓡 𝓡.env).C k) (closing 𝓛 place_ended place_clauses)
      place_walk σ k closed =
          let 𝓣 = tables 𝓤 𝓛.H 𝓜 𝓡 𝓡.env in let c = place_clauses in let fn = place_code σ in
          let hs : Stays place_ended.signature.params place_ended.kept = (stay_ref (0 ∷ []) tt (plain (λ _. H)), tt) in
          proved 𝓛 place_ended hs c 𝓜 𝓡 (Goes-ref 𝓛 1 0 tt (plain (λ _. H)), tt) k fn closed (λ κs. (mut_vals, tt)) (λ κs. (mut_Tells (named 0) κs.0 H, tt)) (λ κs qs bounds given g are.
          let s = given.0 in let d = s.now in let rb = s.ref_ptr.0 in let ro = s.ref_ptr.1 in let z : (walk_of 𝓛 place_ended hs c).Ghost = ((κs, qs, bounds, given, (vptr rb ro ∷ [], tt)), g) in
          let Post : Val → SProp 𝓤 = (walk_of 𝓛 place_ended hs c).post z in let Told : Type 0 = (at d ≡ at d) × (d ≡ d) × IsAt (at d) (held d) in
          qed 𝓛 (((‵ (flft κs.0 qs.0) ⊛ ‵ ftrue) ⊛ ‵ (owns (MutRef (named 0) κs.0 H ∷ []) (s, tt) (vptr rb ro ∷ [], tt))) ∷ ‵ ftrue ∷ []) ∵ split ! $ move ! (1 ∷ []) $ fsplit ! $ fsplit3 ! $ drop ! $ move ! (3 ∷ []) $ split ! $ move ! (2 ∷ 3 ∷ 0 ∷ []) $
          enter ! 𝓣.C 𝓣.Λ fn (vptr rb ro ∷ []) Post $ alloc_all ! (λ l. pass_all ! refl ((tt, tt), tt) $
          opens ! tt H {h = d} rb ro (λ vs. move ! (1 ∷ []) $ handle_out ! d vs (λ e0. learns ! (IsAt (at d) (held d)) (told (at d) (held d)) (λ it.
          -- [what is held; the cell; the open borrow; obs; auth; ..]
          rewrite ! 1 (λ (us : List Val). ‵ (cell_at full_share H.mir us rb ro)) e0 refl $
          sets ! (of_opd ! (load ! (through ! refl (fld ! refl (stop !))) (look_in ! 1 (sub ! 0 refl (whole !))))) refl (Ptr-Good (at d)) $
          handle_in ! d $ move ! (1 ∷ 0 ∷ []) $ closes ! tt H d (word (at d) ∷ []) rb ro $
          -- [obs; the borrow; the token; nothing; nothing; nothing]
          feq_i ! (List Val) (vptr rb ro ∷ []) (vptr rb ro ∷ []) refl $ fjoin3 ! $ nothing ! $ move ! (1 ∷ 0 ∷ []) $ fjoin ! $ move ! (1 ∷ 2 ∷ []) $ join ! $
          -- [the tokens; what is left of the parameters; ..]
          feq_i ! (List Val) (ptr_val (at d) ∷ []) (ptr_val (at d) ∷ []) refl $ use0 𝓛 (raw (fact 𝓤 Told)) (fact_i 𝓤 Told (emp 𝓤) (refl, refl, it)) $
          returns ! (look_at ! 0 refl) $ free_all ! refl $ keep ! (2 ∷ 3 ∷ 1 ∷ 0 ∷ []) $ by ! (leaves 𝓛 place_ended hs c z (ptr_val (at d)) (at d) (d, tt) (tt, tt)))))))

  -- ---- a `&mut` to what it holds
  abbrev lend_code : (σ τ υ : Ty) → Fn
  lend_code σ τ υ = record {
    lifetimes = 1;
    outlives = [];
    ty_params = [];
    givens = 0;
    params = 1;
    locals = local (ty_ref (named 0) mut τ) value_local ∷ local (ty_ref (named 0) mut σ) value_local ∷ local ty_ptr value_local ∷ local ty_ptr value_local
        ∷ local (ty_ref erased mut τ) value_local ∷ [];
    body = seq (assign (place 3 []) (rv_opd (copy (place 1 (deref (word_ty base.name) ∷ field 0 ∷ []))))) (seq (assign (place 2 []) (rv_opd (copy (place 3 []))))
        (seq (block (assign (place 4 []) (addr_of (place 2 (deref υ ∷ []))))) (seq (assign (place 0 []) (rv_opd (copy (place 4 [])))) return)));
  }

  abbrev lend_ended : Ended
  lend_ended = record {
    signature = record { lifetimes = 1; outlives = []; params = mut_ref_to (0 ∷ []) tt (plain (λ _. H)) ∷ []; result = mut_ref_to (0 ∷ []) tt (plain (λ _. R)) };
    kept = (no, tt);
  }

  -- the handle that holds w is F d w. What it owns is the value's box, whose memory is given back by a right
  module _ (F : base.D → R.Denot → base.D) (at_same : (d : base.D) (w : R.Denot) → at (F d w) ≡ at d) (held_is : (d : base.D) (w : R.Denot) → held (F d w) ≡ Some w)
      (A : Type 0) (right : A → Ty → Ptr → Fml) where
    module _ {M : Type 1} (𝓤 : Ura M) (𝓛 : Logic 𝓤) (𝓜 : Model 𝓤 𝓛.H) (𝓡 : Running 𝓤 𝓛.H 𝓜) where
      abbrev lend_clauses : Clauses 𝓤 lend_ended
      lend_clauses κs a = record {
        ghost = Unit {0};
        requires = λ _. fact 𝓤 ((x : R.Denot) × (held a.0.now ≡ Some x));
        ensures = λ _ r e. sep 𝓤 (sem 𝓛 (Lends H R a.0 r (F a.0.now))) (fact 𝓤 (held a.0.now ≡ Some r.now));
      }

      module _ (apart : (p : Ptr) (x : R.Denot) → ent 𝓤 (sem 𝓛 (O p (Some x))) (sem 𝓛 (fex A (λ a. box_owns (right a) R p x))))
          (boxed : (a : A) (p : Ptr) (x : R.Denot) → ent 𝓤 (sem 𝓛 (box_owns (right a) R p x)) (sem 𝓛 (O p (Some x)))) where
        module _ (d : H.Denot) (a : A) (rb ro b o : ℕ) where
          -- all but the value
          abbrev Rest : Fml
          Rest = fsep (right a (bare (lone R.mir)) (at d)) (cell_at full_share H.mir (word (at d) ∷ []) rb ro)

          back : at d ≡ block_ptr b o → (w : R.Denot) → ent 𝓤 (sep 𝓤 (sem 𝓛 ((mem R).own_at w b o)) (sem 𝓛 Rest)) (sem 𝓛 ((mem H).own_at (F d w) rb ro))
          unfolding part_of
          back e w =
              qed 𝓛 (‵ (part_at R full_share w b o) ∷ ‵ Rest ∷ []) ∵ rewrite ! 0 (λ (p : Ptr). ‵ (points_to R p w)) (sym e) refl $
              move ! (1 ∷ []) $ fsplit ! $ move ! (2 ∷ 0 ∷ []) $ fjoin ! $ use1 𝓛 (‵ (O (at d) (Some w))) (boxed a (at d) w) $
              rewrite ! 0 (λ (h : Option R.Denot). ‵ (O (at d) h)) (sym (held_is d w)) refl $ rewrite ! 0 (λ (p : Ptr). ‵ (O p (held (F d w)))) (sym (at_same d w)) refl $ handle_in ! (F d w) $
              rewrite ! 0 (λ (p : Ptr). ‵ (H.own_val (F d w) (word p ∷ []))) (at_same d w) refl $
              move ! (1 ∷ 0 ∷ []) $ fjoin ! $ fpack ! (List Val) (λ us. fsep (cell_at full_share H.mir us rb ro) (H.own_val (F d w) us)) (word (at d) ∷ []) $ done !

        pub lend_walk : (σ τ υ : Ty) (k : Callee) → Closed 𝓤 𝓛.H (tables 𝓤 𝓛.H 𝓜 𝓡 𝓡.env).C (tables 𝓤 𝓛.H 𝓜 𝓡 𝓡.env).Λ k (lend_code σ τ υ)
            → Meets 𝓛 lend_ended.signature ((tables 𝓤 𝓛.H 𝓜 𝓡 𝓡.env).C k) (closing 𝓛 lend_ended lend_clauses)
        lend_walk σ τ υ k closed =
            let 𝓣 = tables 𝓤 𝓛.H 𝓜 𝓡 𝓡.env in let c = lend_clauses in let fn = lend_code σ τ υ in
            let hs : Stays lend_ended.signature.params lend_ended.kept = (stay_dropped (mut_ref_to (0 ∷ []) tt (plain (λ _. H))) no, tt) in
            proved 𝓛 lend_ended hs c 𝓜 𝓡 (Goes-spent_ref 𝓛 1 (0 ∷ []) tt (plain (λ _. H)), tt) k fn closed (λ κs. (mut_vals, tt)) (λ κs. (mut_Tells (named 0) κs.0 H, tt)) (λ κs qs bounds given g are.
            let s = given.0 in let d = s.now in let rb = s.ref_ptr.0 in let ro = s.ref_ptr.1 in let z : (walk_of 𝓛 lend_ended hs c).Ghost = ((κs, qs, bounds, given, (vptr rb ro ∷ [], tt)), g) in
            let Post : Val → SProp 𝓤 = (walk_of 𝓛 lend_ended hs c).post z in let Asked : Type 0 = (x : R.Denot) × (held d ≡ Some x) in
            qed 𝓛 (((‵ (flft κs.0 qs.0) ⊛ ‵ ftrue) ⊛ ‵ (owns (MutRef (named 0) κs.0 H ∷ []) (s, tt) (vptr rb ro ∷ [], tt))) ∷ raw (fact 𝓤 Asked) ∷ []) ∵ move ! (1 ∷ []) $ heard ! Asked (λ asked. let x = asked.0 in
            split ! $ move ! (1 ∷ []) $ fsplit ! $ fsplit3 ! $ drop ! $ move ! (3 ∷ []) $ split ! $ move ! (2 ∷ 3 ∷ 0 ∷ []) $
            enter ! 𝓣.C 𝓣.Λ fn (vptr rb ro ∷ []) Post $ alloc_all ! (λ l. pass_all ! refl ((tt, tt), tt) $ let En : Env 𝓤 𝓛.H = env fn.locals l in
            opens ! tt H {h = d} rb ro (λ vs. move ! (1 ∷ []) $ handle_out ! d vs (λ e0.
            rewrite ! 0 (λ (o : Option R.Denot). ‵ (O (at d) o)) asked.1 refl $ use1 𝓛 (‵ (fex A (λ a. box_owns (right a) R (at d) x))) (apart (at d) x) $ fpick ! (λ a. fsplit ! $ rewrite ! 2 (λ (us : List Val). ‵ (cell_at full_share H.mir us rb ro)) e0 refl $
            in_a_block ! (at d) (λ p. points_to R p x) (id⊢ 𝓤 (never 𝓤)) (λ b o e. let way = back d a rb ro b o e in
            -- [the value; its right; the cell; the open borrow; obs; auth; ..]
            sets ! (is ! (of_opd ! (load ! (through ! refl (fld ! refl (stop !))) (look_in ! 2 (sub ! 0 refl (whole !))))) (ap ptr_val e)) refl (tt, tt) $ sets ! (of_opd ! (get ! refl)) refl (tt, tt) $
            first ! $ blocks ! $ sets_last ! (addr ! (through ! refl (stop !))) refl (tt, tt) $ exec ! 𝓣.C 𝓣.Λ En (after 3 fn.body) (at_ret En Post) $
            sets ! (of_opd ! (get ! refl)) refl (tt, tt) $
            move ! (1 ∷ 2 ∷ []) $ fjoin ! $ move ! (2 ∷ 3 ∷ 4 ∷ 1 ∷ 0 ∷ []) $ group ! 5 $
            use1 𝓛 (later (some (λ (δ : GName). raw (Part 𝓛 H R (F d) (named 0) κs.0 qs.0 rb ro b o s.ghost_name (sem 𝓛 (Rest d a rb ro b o)) way x δ))))
            (lends_Part 𝓛 H R (F d) (named 0) κs.0 qs.0 rb ro b o s.ghost_name (sem 𝓛 (Rest d a rb ro b o)) way (H.coded.code d) (H.coded.code d) x) $ await ! tt $ pick ! (λ δ.
            let r : MutBor R.Denot = record { ref_ptr = (b, o); ghost_name = δ; now = x } in
            returns ! (look_at ! 0 refl) $ free_all ! refl $ keep ! (0 ∷ []) $
            by ! (qed 𝓛 (‵ ((MutRef (named 0) κs.0 R).own_val r (vptr b o ∷ [])) ∷ ‵ (flft κs.0 qs.0) ∷ ‵ (Lends H R s r (F d)) ∷ []) ∵
            suffices ! _ (ends_at 𝓛 lend_ended hs c z (vptr b o) r (tt, tt) (tt, tt)) $
            nothing ! $ nothing ! $ fjoin ! $ join ! $ nothing ! $ move ! (2 ∷ 0 ∷ []) $ join ! $ join ! $ frame ! $ says ! asked.1 $ done !)))))))))
