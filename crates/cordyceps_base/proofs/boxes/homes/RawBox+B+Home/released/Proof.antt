-- `released` reads the word behind the block, and hands out the box if it is of the heap. Assumes `Logic`.
use Rattle.std.proofs.Common.{◌≡◌, ℕ, ◌+◌, List, [], ◌∷◌, ◌++◌, refl, sym, subst, lit<, eqb→eq, Ok, Err}
use mir.Raw.{raw as bare}
use mir.Syntax.{a_type, ty_int, w64}
use mir.Val.{Val, vint, vptr, vcons, vnil}
use mir.MapTy.{inst_fn}
use base.Logic.{SProp, ent, emp, id⊢}
use base.Fml.{ftrue, fat, flft}
use base.Fraction.{full_share}
use prog.Wp.{Env, Wp, WpFn, after_seq}
use types.Kit.{‵, raw, ◌⊛◌, some, given, any_q, post, at_ret, ◌$◌, ◌∵◌, !, qed, by, move, keep, split, fsplit, fjoin, fpick, pick, learn, suffices, rewrite, use0, use1, use2, use3}
use types.Match.{live}
use types.Run.{stop, fld, load, lit, bin, of_opd, look, no_more, and_then, first, blocks, branches, exec, returns, enter, well_typed}
use types.ByLocal.{alloc_all, pass_all, free_all, look_at, get, get_in, through, sets, sets_last, env}
use types.Part.{agg, sub, whole}
use contract.Monad.{fact, fact_i}
use contract.BorrowLft.{◌⊑◌}
use contract.Running.{tables}
use denote.Builtin.{u64}
use denote.Plain.{uint_in, uint_out}
use denote.Exit.{no, yes}
use denote.Memory.{part_at}
use denote.RattleType.{RattleType, owns}
use denote.RawPtr.{Ptr, block_ptr}
use denote.Param.{layout, layouts}
use denote.Signature.{types_at, plain}
use denote.Steps.{nothing}
use denote.Triple.Walked.{Stays, stay_dropped, walk_of, Goes-dropped}
use Rattle.core.proofs.alloc.Calls.{Goes-blank, handle_tells}
use Rattle.core.proofs.alloc.Shapes.{after}
use Rattle.core.proofs.cell.Inside as inside
use Rattle.core.proofs.once.Made.{second_arm}
use Rattle.core.specs.contracts.result.Result as result
use Rattle.std_alloc.proofs.BoxSteps.Form.{Bx, Good, τ, own}
use Rattle.std_alloc.proofs.BoxSteps.Steps.{el_out, el_in}
use Rattle.std_alloc.proofs.ResultValues.{ok_of, err_of, and_tt}
use Rattle.std.proofs.raw_atomic.Walks.{proved_at, leaves}
use Rattle.std.specs.contracts.alloc.Global as heap
use Rattle.std.specs.contracts.impls.GlobalAllocator.TheImpl.{ghosts as heap_ghosts}
use Rattle.std.proofs.alloc.Global.TheLaws as heap_laws
use Rattle.cordyceps_base.proofs.Values.{both, RawBox, al, raw_good, raw_out, raw_in}
use Rattle.cordyceps_base.proofs.Homes.{R, S, δ, together, word_same}
use Rattle.cordyceps_base.proofs.boxes.homes.Home.TheLaws as home_laws
use Rattle.cordyceps_base.specs.Homes.{right_of, word_at}
use Rattle.cordyceps_base.specs.contracts.boxes.homes.Home as home
use Rattle.cordyceps_base.specs.contracts.boxes.homes.HomeAllocator.TheImpl.{ghosts as home_ghosts}
use Rattle.cordyceps_base.specs.contracts.boxes.homes.RawBox+B+Home.released.{ended, clauses}
use Rattle.cordyceps_base.specs.contracts.boxes.homes.RawBox+B+Home.released.Key.{name as #self}
use Rattle.cordyceps_base.proofs.boxes.homes.RawBox+B+Home.released.Statement.{statement}
use Rattle.cordyceps_base.proofs.boxes.homes.RawBox+B+Home.released.Code as code

pub released_spec : {M : Type 1} → statement M
released_spec 𝓤 𝓛 𝓜 𝓡 wired T L =
    let H = 𝓛.H in let 𝓣 = tables 𝓤 H 𝓜 𝓡 𝓡.env in let inst = layouts (a_type ∷ []) (T, tt) in
    let En = ended T in let c = clauses T 𝓛 𝓜.mem 𝓡.returns in let fn = inst_fn inst code.function in
    let G : RattleType = heap.the_row in let LG = heap_laws.the_row_laws in let Z : RattleType = home.the_row in let LZ = home_laws.the_row_laws in
    let In : RattleType = RawBox (R T) Z LZ home_ghosts in let Boxed : RattleType = RawBox (S T) G LG heap_ghosts in let Out : RattleType = result.the_row Boxed (R T) in
    let E : Bx = record { row = T; laws = L; al = al (R T) G LG heap_ghosts } in
    let hs : Stays En.signature.params En.kept = (stay_dropped (plain (λ _. In)) no, (stay_dropped (plain (λ _. G)) yes, tt)) in
    proved_at 𝓛 En hs c 𝓜 𝓡 (Goes-blank 𝓛 1 (plain (λ _. In)) no (λ κs x f. tt), (Goes-dropped 𝓛 1 (plain (λ _. G)) yes (λ κs x f. refl), tt)) (#self inst) fn (code.unfolded 𝓤 H 𝓜 𝓡 wired (T, tt)) (λ z are.
    let (κs, qs, unit, given', vals) = z.0 in let x = given'.0 in let a = given'.1.0 in let Post : Val → SProp 𝓤 = (walk_of 𝓛 En hs c).post z in let Run : List Val → SProp 𝓤 = λ ws. WpFn 𝓤 H 𝓣.C 𝓣.Λ fn ws Post in
    let toks = ‵ (flft κs.0 qs.0) ⊛ ‵ ftrue in
    qed 𝓛 ((toks ⊛ ‵ (owns (types_at En.signature.params κs) given' vals)) ∷ (raw (fact 𝓤 (κs.0 ⊑ T.lives)) ⊛ raw (emp 𝓤)) ∷ []) ∵ keep ! (0 ∷ []) $
    split ! $ move ! (1 ∷ []) $ fsplit ! $ raw_out (R T) Z LZ home_ghosts ! x vals.0 (λ b o h e is fits.
    move ! (2 ∷ []) $ fsplit ! $ handle_tells (al (R T) G LG heap_ghosts) ! a vals.1.0 (λ h' e' fits'.
    -- [the handle of the heap; nothing; the box; its handle; the tokens]
    let p : Ptr = block_ptr b o in let value = x.value in let k = o + word_at (δ T) in let w : Val = both (vptr b o) h in
    move ! (2 ∷ []) $ fsplit ! $ use1 𝓛 (some (λ (v : Val). given (Good E v) (‵ (fat full_share (τ E) b o v) ⊛ ‵ (own E value (v ∷ []))))) (el_out E 𝓛 value b o) $ pick ! (λ v. learn ! (λ t. split ! $
    move ! (2 ∷ []) $ fpick ! (λ n. fsplit ! $ move ! (1 ∷ []) $ fsplit ! $
    -- [what else lies there; the right; the word; the value; what it owns; the handle of the heap; nothing; the handle; the tokens]
    move ! (2 ∷ []) $ rewrite ! 0 (λ (j : ℕ). ‵ (part_at u64 full_share n b (o + j))) (word_same T) refl $
    use1 𝓛 (‵ (fat full_share (ty_int w64) b k (vint w64 n))) (uint_out 𝓛 full_share w64 n b k) $ well_typed ! (λ ok.
    suffices ! (Run (w ∷ h' ∷ [])) (subst (λ (us : List Val). ent 𝓤 (Run (w ∷ h' ∷ [])) (Run us)) (sym (λ i. is i ++ (e' i ++ []))) (id⊢ 𝓤 (Run (w ∷ h' ∷ [])))) $
    enter ! 𝓣.C 𝓣.Λ fn (w ∷ h' ∷ []) Post $ alloc_all ! (λ l. pass_all ! refl (raw_good (R T) Z LZ home_ghosts b o h fits, (fits', tt)) $ let Ev : Env 𝓤 H = env fn.locals l in
    sets ! (of_opd ! (get_in ! (fld ! refl (stop !)) (sub ! 0 refl (whole !)))) refl (tt, tt) $ sets ! (of_opd ! (get ! refl)) refl (tt, tt) $ sets ! (of_opd ! (get ! refl)) refl (tt, tt) $
    first ! $ blocks ! $ sets_last ! (of_opd ! (load ! (through ! refl (fld ! refl (stop !))) (look ! 0 refl))) refl ok $ exec ! 𝓣.C 𝓣.Λ Ev (after 4 fn.body) (at_ret Ev Post) $
    sets ! (of_opd ! (get ! refl)) refl ok $ sets ! (of_opd ! (get ! refl)) refl ok $ sets ! (bin ! (get ! refl) (lit ! tt) tt) refl (tt, tt) $
    first ! $ branches ! (get ! refl)
    (λ y. let none : n ≡ 0 = eqb→eq n 0 y in let d : (S T).Denot = record { body = value; home = 0 } in let new : Boxed.Denot = record { at = p; alloc = a; value = d } in
    let inner : Val = both (vptr b o) h' in let out : Val = live 0 (vcons inner vnil) in let made = raw_good (S T) G LG heap_ghosts b o h' fits' in let typed : inside.Good (layout Out) out = (and_tt _ made.0, (record { fits = lit< tt }, (made.1, tt))) in
    sets ! (of_opd ! (get ! refl)) refl (tt, tt) $ sets ! (of_opd ! (get ! refl)) refl fits' $ sets ! (agg ! (and_then ! (get ! refl) (and_then ! (get ! refl) (no_more !)))) refl made $
    sets_last ! (agg ! (and_then ! (lit ! tt) (and_then ! (get ! refl) (no_more !)))) refl typed $ exec ! 𝓣.C 𝓣.Λ Ev (after 8 fn.body) (at_ret Ev Post) $ sets ! (of_opd ! (get ! refl)) refl typed $
    rewrite ! 0 (λ (j : ℕ). ‵ (fat full_share (ty_int w64) b k (vint w64 j))) none refl $ use1 𝓛 (‵ (part_at u64 full_share 0 b k)) (uint_in 𝓛 full_share w64 0 b k) $
    move ! (3 ∷ 4 ∷ []) $ use2 𝓛 (‵ (part_at (R T) full_share value b o)) (el_in E 𝓛 value b o v) $ use3 𝓛 (‵ (part_at (S T) full_share d b o)) (together T 𝓛 b o d) $
    move ! (1 ∷ []) $ rewrite ! 0 (λ (j : ℕ). ‵ (right_of j (bare (δ T)) p)) none refl $ fpick ! (λ g. move ! (1 ∷ 0 ∷ []) $ fjoin ! $
    raw_in (S T) G LG heap_ghosts ! b o h' a d $ use1 𝓛 (‵ (Out.own_val (Ok new) (out ∷ []))) (ok_of 𝓛 Boxed (R T) new inner) $
    use0 𝓛 (raw (fact 𝓤 (value ≡ value))) (fact_i 𝓤 (value ≡ value) (emp 𝓤) refl) $ nothing ! $ nothing ! $ fjoin ! $ nothing ! $ fjoin ! $
    -- [what is left of the parameters; what is ensured; the result; nothing; the handle; the tokens]
    returns ! (look_at ! 0 refl) $ free_all ! refl $ keep ! (5 ∷ 0 ∷ 2 ∷ 1 ∷ []) $ by ! (leaves 𝓛 En hs c z out (Ok new) (tt, (tt, tt)) (tt, (tt, tt)))))
    (λ y. let out : Val = live 1 (vcons v vnil) in let typed : inside.Good (layout Out) out = (and_tt _ t.0, (record { fits = lit< tt }, (t.1, tt))) in let Q = post 𝓤 H (at_ret Ev Post) in
    first ! $ blocks ! $ sets ! (of_opd ! (get ! refl)) refl (tt, tt) $ sets_last ! (of_opd ! (load ! (through ! refl (stop !)) (look ! 3 refl))) refl t $
    exec ! 𝓣.C 𝓣.Λ Ev (after 1 (second_arm (after 7 fn.body))) (any_q (after_seq 𝓤 H (Wp 𝓤 H 𝓣.C 𝓣.Λ Ev (after 8 fn.body) Q) Q)) $
    sets ! (of_opd ! (get ! refl)) refl t $ sets_last ! (agg ! (and_then ! (lit ! tt) (and_then ! (get ! refl) (no_more !)))) refl typed $ exec ! 𝓣.C 𝓣.Λ Ev (after 8 fn.body) (at_ret Ev Post) $ sets ! (of_opd ! (get ! refl)) refl typed $
    move ! (4 ∷ []) $ use1 𝓛 (‵ (Out.own_val (Err value) (out ∷ []))) (err_of 𝓛 Boxed (R T) value v) $
    use0 𝓛 (raw (fact 𝓤 (value ≡ value))) (fact_i 𝓤 (value ≡ value) (emp 𝓤) refl) $ nothing ! $ nothing ! $ fjoin ! $ nothing ! $ fjoin ! $
    -- [what is left of the parameters; what is ensured; the result; the word; what else lies there; its right; the value's cell; the handle of the heap; nothing; the handle; the tokens]
    returns ! (look_at ! 0 refl) $ free_all ! refl $ keep ! (10 ∷ 0 ∷ 2 ∷ 1 ∷ []) $ by ! (leaves 𝓛 En hs c z out (Err value) (tt, (tt, tt)) (tt, (tt, tt))))))))))))
