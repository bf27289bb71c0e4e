-- `at_mut` lends one value, and the row follows it. Assumes `Logic`.
use mathlib.Core.Path.{◌≡◌, refl, sym, ap, subst, ◌∙◌}
use Prim.Native.Nat.{ℕ}
use mathlib.Core.List.{List, [], ◌∷◌, ◌++◌}
use seplogic.Ra.Ura.{Ura}
use base.Fraction.{full_share}
use mir.Syntax.{Fn, named}
use mir.MapTy.{inst_fn}
use mir.Raw.{raw as bare}
use mir.Val.{Val, vptr}
use base.Logic.{SProp, ent, sep, never, id⊢}
use base.Fml.{Lft, GName, Share, Fml, ftrue, fsep, flft, fobs, fbor}
use prog.Wp.{Env, Calls, Loops, WpFn, Tables}
use types.Logic.{Logic, sem}
use contract.Monad.{fact}
use contract.Running.{tables, tables_of}
use sound.WpLaws.{WpFn-mono}
use types.Kit.{Item, ⋆, ‵, raw, ◌⊛◌, some, later, await, pick, at_ret, ◌$◌, ◌∵◌, !, qed, by, move, keep, use1, use2, split, join, group, rewrite, fsplit, fsplit3, fjoin, fjoin3, fpack, feq_l, suffices, frame, done}
use types.Part.{whole, sub}
use types.Run.{stop, fld, of_opd, addr, first, blocks, exec, returns, enter}
use types.ByLocal.{alloc_all, pass_all, free_all, look_at, get, sets, get_in, through, is, sets_last, env}
use types.SemTy.{Body as Borrowed}
use denote.Exit.{yes, no}
use denote.RattleType.{owns}
use denote.Memory.{lone, mem, cell_at, part_at, part_of}
use denote.RawPtr.{Ptr, block_ptr, ptr_val, in_a_block}
use denote.Ref.{MutBor, MutRef}
use denote.Builtin.{RefMutOf}
use denote.Signature.{plain, mut_ref_to}
use denote.Steps.{nothing, opens}
use denote.Follow.{follows, Part, lends_Part}
use denote.Triple.Carry.{spared}
use denote.Triple.Clauses.{Clauses, Ended, closing}
use denote.Triple.Entry.{on_entry}
use denote.Triple.Spec.{Meets, triple_of}
use denote.Triple.Table.{entered, run_framed}
use denote.Triple.Walked.{says, needs, Stays, stay_dropped, walk_of, ends_at, Goes-dropped, Goes-spent_ref, walk_Meets}
use Rattle.std.specs.Prelude.{Some, slice_get}
use Rattle.core.specs.Ptr.{points_to}
use Rattle.core.proofs.alloc.Calls.{token}
use Rattle.std_alloc.proofs.VecSteps.Shapes.{after}
use Rattle.std_alloc.proofs.BoxSteps.Form.{Bx, args, X, R}
use Rattle.std_alloc.proofs.RcSteps.{word}
use Rattle.cordyceps_base.specs.Boxes.{box_addresses, box_value, box_values}
use Rattle.cordyceps_base.specs.Spots.{index_of}
use Rattle.cordyceps_base.proofs.SpotsMemory.{first_at}
use Rattle.cordyceps_base.specs.BoxesLends.{with_box_value}
use Rattle.cordyceps_base.proofs.Memory.{Br, Pr, Row, Held, Mark, Found, at_index, row_take, row_put, word_had, address-Good}
use Rattle.cordyceps_base.specs.contracts.boxes.Boxes.at_mut.Key.{name as #self}
use Rattle.cordyceps_base.proofs.boxes.Boxes.at_mut.Statement as stated
use Rattle.cordyceps_base.proofs.boxes.Boxes.at_mut.Code as code

module _ (E : Bx) where
  abbrev function : Fn
  function = inst_fn (args E) code.function

  abbrev Asks : (Br E).Denot → Pr.Denot → Type 0
  Asks d at = (k : ℕ) × (slice_get (box_addresses d.blocks) k ≡ Some at.ptr)

  abbrev index : (Br E).Denot → Pr.Denot → ℕ
  index d at = index_of at.ptr (box_addresses d.blocks)

  abbrev ended : Ended
  ended = record { signature = record { lifetimes = 1; outlives = []; params = RefMutOf (0 ∷ []) tt (plain (λ _. Br E)) (λ _. tt) ∷ plain (λ _. Pr) ∷ []; result = RefMutOf (0 ∷ []) tt (plain (λ _. R E)) (λ _. tt) }; kept = (no, (yes, tt)) }

  abbrev stayed : Stays ended.signature.params ended.kept
  stayed = (stay_dropped (mut_ref_to (0 ∷ []) tt (plain (λ _. Br E))) no, (stay_dropped (plain (λ _. Pr)) yes, tt))

  abbrev Gives : (Br E).Denot → ℕ → MutBor (X E) → Type 0
  Gives d k r = slice_get (box_values d.blocks) k ≡ Some r.now

  abbrev spec : {M : Type 1} {𝓤 : Ura M} (𝓛 : Logic 𝓤) → Clauses 𝓤 ended
  spec {𝓤 = 𝓤} 𝓛 κs a = record { ghost = Unit {0}; requires = λ _. fact 𝓤 (Asks a.0.now a.1.0); ensures = λ _ r w. sep 𝓤 (sem 𝓛 (follows (Br E) (R E) a.0.ghost_name r.ghost_name (with_box_value a.0.now (index a.0.now a.1.0)))) (fact 𝓤 (Gives a.0.now (index a.0.now a.1.0) r)) }

module _ (E : Bx) {M : Type 1} {𝓤 : Ura M} (𝓛 : Logic 𝓤) (C : Calls 𝓤 𝓛.H) (Λ : Loops 𝓤 𝓛.H) (κ : Lft) (q : Share) (rb ro : ℕ) (γ : GName) (d : (Br E).Denot) (at : Pr.Denot) (ps us : List Val) where
  open 𝓛 use {H, A}

  abbrev k : ℕ
  k = index E d at

  abbrev self : MutBor (Br E).Denot
  self = record { ref_ptr = (rb, ro); ghost_name = γ; now = d }

  abbrev bound : (walk_of 𝓛 (ended E) (stayed E) (spec E 𝓛)).Ghost
  bound = (((κ, tt), (q, tt), tt, (self, (at, tt)), (ps, (us, tt))), tt)

  abbrev Post : Val → SProp 𝓤
  Post = (walk_of 𝓛 (ended E) (stayed E) (spec E 𝓛)).post bound

  abbrev new : X E → (Br E).Denot
  new = with_box_value d k

  module _ (found : Found d.blocks k at.ptr) (ws : List Val) (b o : ℕ) where
    -- all but the value
    abbrev Rest : Fml
    Rest = fsep (token E.al found.box.1 (bare (lone (R E).mir)) found.box.0) (fsep (Row E (found.front ++ found.back)) (fsep ((Mark E).own_val (tt, tt) ws) (cell_at full_share (Br E).mir ws rb ro)))

    back : found.box.0 ≡ block_ptr b o → (w : X E) → ent 𝓤 (sep 𝓤 (sem 𝓛 ((mem (R E)).own_at w b o)) (sem 𝓛 Rest)) (sem 𝓛 ((mem (Br E)).own_at (new w) rb ro))
    unfolding part_of
    back e w =
        let n = found.box in let m : Held E = (n.0, n.1, w) in
        qed 𝓛 (‵ (part_at (R E) full_share w b o) ∷ ‵ Rest ∷ []) ∵ rewrite ! 0 (λ (p : Ptr). ‵ (points_to (R E) p w)) (sym e) refl $
        move ! (1 ∷ []) $ fsplit3 ! $ move ! (2 ∷ []) $ fsplit ! $ move ! (4 ∷ 2 ∷ []) $ fjoin ! $ move ! (0 ∷ 3 ∷ []) $
        use2 𝓛 (‵ (Row E (found.front ++ m ∷ found.back))) (row_put 𝓛 (token E.al) (R E) found.front m found.back) $ rewrite ! 0 (λ (ns : List (Held E)). ‵ (Row E ns)) (sym (found.set w)) refl $
        move ! (1 ∷ 0 ∷ []) $ fjoin ! $ move ! (1 ∷ 0 ∷ []) $ fjoin ! $ fpack ! (List Val) (λ us'. fsep (cell_at full_share (Br E).mir us' rb ro) ((Br E).own_val (new w) us')) ws $ done !

  exits : (b o : ℕ) (r : MutBor (X E)) → Gives E d k r
      → ent 𝓤 (sep 𝓤 (sem 𝓛 ((MutRef (named 0) κ (R E)).own_val r (vptr b o ∷ []))) (sep 𝓤 (A.lft κ q) (sem 𝓛 (follows (Br E) (R E) γ r.ghost_name new)))) (Post (vptr b o))
  exits b o r e =
      qed 𝓛 (‵ ((MutRef (named 0) κ (R E)).own_val r (vptr b o ∷ [])) ∷ ‵ (flft κ q) ∷ ‵ (follows (Br E) (R E) γ r.ghost_name new) ∷ []) ∵
      suffices ! _ (ends_at 𝓛 (ended E) (stayed E) (spec E 𝓛) bound (vptr b o) r (tt, (tt, tt)) (tt, (tt, tt))) $
      nothing ! $ nothing ! $ fjoin ! $ nothing ! $ fjoin ! $ join ! $ nothing ! $ move ! (2 ∷ 0 ∷ []) $ join ! $ join ! $ frame ! $ says ! e $ done !

  abbrev Had : List (Item 𝓤)
  Had = ‵ (fobs γ ((Br E).coded.code d)) ∷ ‵ (fbor κ (Borrowed (mem (Br E)) rb ro γ)) ∷ ‵ (flft κ q) ∷ []

  walk : Asks E d at → ent 𝓤 (⋆ 𝓛 Had) (WpFn 𝓤 H C Λ (function E) (vptr rb ro ∷ word at.ptr ∷ []) Post)
  walk asked =
      let found : Found d.blocks k at.ptr = at_index d.blocks k at.ptr (first_at (box_addresses d.blocks) at.ptr asked.0 asked.1) in let xs = found.front in let n = found.box in let ys = found.back in
      let code = (Br E).coded.code d in
      qed 𝓛 Had ∵ enter ! C Λ (function E) (vptr rb ro ∷ word at.ptr ∷ []) _ $ alloc_all ! (λ l. pass_all ! refl ((tt, tt), (address-Good at.ptr, tt)) $
      let En : Env 𝓤 H = env (function E).locals l in
      opens ! tt (Br E) {h = d} rb ro (λ ws. move ! (1 ∷ []) $ fsplit ! $ move ! (1 ∷ []) $ rewrite ! 0 (λ (ns : List (Held E)). ‵ (Row E ns)) found.parts refl $
      use1 𝓛 (‵ (fsep (points_to (R E) n.0 (box_value n)) (token E.al n.1 (bare (lone (R E).mir)) n.0)) ⊛ ‵ (Row E (xs ++ ys))) (row_take 𝓛 (token E.al) (R E) xs n ys) $ split ! $ fsplit ! $
      in_a_block ! n.0 (λ p. points_to (R E) p (box_value n)) (id⊢ 𝓤 (never 𝓤)) (λ b o e.
      let ep : at.ptr ≡ block_ptr b o = sym found.lies ∙ e in let way = back found ws b o e in
      -- [the value; its token; the other boxes; the mark; its cell; the open borrow; obs; auth]
      sets ! (is ! (of_opd ! (get_in ! (fld ! refl (stop !)) (sub ! 0 refl (whole !)))) (ap ptr_val ep)) refl (tt, tt) $
      first ! $ blocks ! $ sets_last ! (addr ! (through ! refl (stop !))) refl (tt, tt) $ exec ! C Λ En (after 2 (function E).body) (at_ret En Post) $ sets ! (of_opd ! (get ! refl)) refl (tt, tt) $
      move ! (3 ∷ 4 ∷ []) $ fjoin ! $ move ! (2 ∷ 3 ∷ 0 ∷ []) $ fjoin3 ! $ move ! (2 ∷ 3 ∷ 4 ∷ 1 ∷ 0 ∷ []) $ group ! 5 $
      use1 𝓛 (later (some (λ (δ : GName). raw (Part 𝓛 (Br E) (R E) new (named 0) κ q rb ro b o γ (sem 𝓛 (Rest found ws b o)) way (box_value n) δ))))
      (lends_Part 𝓛 (Br E) (R E) new (named 0) κ q rb ro b o γ (sem 𝓛 (Rest found ws b o)) way code code (box_value n)) $ await ! tt $ pick ! (λ δ.
      returns ! (look_at ! 0 refl) $ free_all ! refl $ keep ! (0 ∷ []) $ by ! (exits b o (record { ref_ptr = (b, o); ghost_name = δ; now = box_value n }) found.holds)))))

  entry : Asks E d at → ent 𝓤 (on_entry 𝓛 (ended E).signature (κ, tt) (q, tt) (self, (at, tt)) (ps, (us, tt))) (WpFn 𝓤 H C Λ (function E) (ps ++ (us ++ [])) Post)
  entry asked =
      qed 𝓛 ((‵ (flft κ q) ⊛ ‵ ftrue) ∷ ‵ (owns (MutRef (named 0) κ (Br E) ∷ Pr ∷ []) (self, (at, tt)) (ps, (us, tt))) ∷ []) ∵ split ! $ move ! (2 ∷ []) $ fsplit ! $ fsplit3 ! $ feq_l ! (λ e.
      move ! (2 ∷ []) $ fsplit ! $ word_had ! at.ptr us (λ f. keep ! (1 ∷ 2 ∷ 3 ∷ []) $
      by ! (subst (λ (ws : List Val × List Val). ent 𝓤 (⋆ 𝓛 Had) (WpFn 𝓤 H C Λ (function E) (ws.0 ++ (ws.1 ++ [])) Post)) (λ j. (sym e j, sym f j)) (walk asked))))

meets : (E : Bx) {M : Type 1} {𝓤 : Ura M} (𝓛 : Logic 𝓤) (𝓣 : Tables 𝓤 𝓛.H)
    → Meets 𝓛 (ended E).signature (WpFn 𝓤 𝓛.H 𝓣.C 𝓣.Λ (function E)) (closing 𝓛 (ended E) (spec E 𝓛))
meets E {𝓤 = 𝓤} 𝓛 𝓣 =
    walk_Meets 𝓛 (ended E) (stayed E) (Goes-spent_ref 𝓛 1 (0 ∷ []) tt (plain (λ _. Br E)), (Goes-dropped 𝓛 1 (plain (λ _. Pr)) yes (λ κs x f. refl), tt)) (spec E 𝓛) (WpFn 𝓤 𝓛.H 𝓣.C 𝓣.Λ (function E)) (WpFn-mono 𝓤 𝓛.H 𝓛.laws 𝓣 (function E))
    (λ z. let (κs, qs, unit, a, vss) = z.0 in needs 𝓤 (Asks E a.0.now a.1.0) _ (entry E 𝓛 𝓣.C 𝓣.Λ κs.0 qs.0 a.0.ref_ptr.0 a.0.ref_ptr.1 a.0.ghost_name a.0.now a.1.0 vss.0 vss.1.0))

pub at_mut_spec : {M : Type 1} → stated.statement M
unfolding tables_of
at_mut_spec 𝓤 𝓛 𝓜 𝓡 wired Y Z L LZ g d dd met md y =
    let E : Bx = record { row = Y; laws = L; al = record { row = Z; laws = LZ; g = g; d = d; drops = dd } } in
    let 𝓣 : Tables 𝓤 𝓛.H = tables_of 𝓤 𝓛.H 𝓜 (tables 𝓤 𝓛.H 𝓜 𝓡 𝓡.env) in
    spared 𝓛 (ended E).signature (𝓡.run (𝓡.env (#self (args E)))) (run_framed 𝓤 𝓛.H 𝓜 𝓡 (𝓡.env (#self (args E)))) 2 (Y.lives, (Z.lives, tt)) (closing 𝓛 (ended E) (spec E 𝓛))
    (entered 𝓤 𝓛.H (triple_of 𝓛 (ended E).signature (closing 𝓛 (ended E) (spec E 𝓛))) 𝓣.C 𝓣.Λ (#self (args E)) (function E) (code.unfolded 𝓤 𝓛.H 𝓜 𝓡 wired (Y, (Z, tt)) d dd) (meets E 𝓛 𝓣))
    (let (κs, qs, unit, given, vals) = y.0 in ((κs, qs, tt, given, vals), y.1))
