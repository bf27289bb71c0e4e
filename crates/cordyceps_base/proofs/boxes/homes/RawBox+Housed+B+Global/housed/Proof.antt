-- `housed` leaves the right to free the block with the word behind it. Assumes `Logic`.
use Rattle.std.proofs.Common.{◌≡◌, ℕ, ◌+◌, List, [], ◌∷◌, ◌++◌, refl, sym, subst}
use mir.Raw.{raw as bare}
use mir.Syntax.{a_type, ty_struct}
use mir.Val.{Val, vptr}
use mir.MapTy.{inst_fn}
use base.Logic.{SProp, ent, emp, id⊢}
use base.Fml.{fsep, ftrue, flft}
use base.Fraction.{full_share}
use prog.Wp.{WpFn}
use types.Kit.{‵, raw, ◌⊛◌, ◌$◌, ◌∵◌, !, qed, by, move, keep, drop as forget, split, split3, fsplit, fjoin, fpack, suffices, rewrite, use0, use1}
use types.Run.{stop, fld, of_opd, no_more, and_then, returns, enter}
use types.ByLocal.{alloc_all, pass_all, free_all, look_at, get, get_in, sets}
use types.Part.{agg, sub, whole}
use contract.Monad.{fact, fact_i}
use contract.BorrowLft.{◌⊑◌}
use contract.Running.{tables}
use denote.Builtin.{u64}
use denote.Exit.{no}
use denote.Memory.{part_at}
use denote.RattleType.{RattleType, owns}
use denote.RawPtr.{Ptr, block_ptr}
use denote.Param.{layouts}
use denote.Signature.{types_at, plain}
use denote.Steps.{nothing, heard}
use denote.Triple.Walked.{Stays, stay_dropped, walk_of}
use Rattle.core.proofs.alloc.Calls.{Goes-blank}
use Rattle.std.proofs.raw_atomic.Walks.{proved_at, leaves}
use Rattle.std.specs.declared.alloc.Global.{Global}
use Rattle.std.specs.contracts.alloc.Global as heap
use Rattle.std.specs.contracts.impls.GlobalAllocator.TheImpl.{ghosts as heap_ghosts}
use Rattle.std.proofs.alloc.Global.TheLaws as heap_laws
use Rattle.cordyceps_base.proofs.Values.{both, RawBox, raw_good, raw_out, raw_in}
use Rattle.cordyceps_base.proofs.Homes.{R, S, δ, Left, apart, home_val, home_shown, word_same}
use Rattle.cordyceps_base.proofs.boxes.homes.Home.TheLaws as home_laws
use Rattle.cordyceps_base.specs.Homes.{parts_of, right_of, word_at}
use Rattle.cordyceps_base.specs.contracts.boxes.homes.Home as home
use Rattle.cordyceps_base.specs.contracts.boxes.homes.HomeAllocator.TheImpl.{ghosts as home_ghosts}
use Rattle.cordyceps_base.specs.contracts.boxes.homes.RawBox+Housed+B+Global.housed.{ended, clauses}
use Rattle.cordyceps_base.specs.contracts.boxes.homes.RawBox+Housed+B+Global.housed.Key.{name as #self}
use Rattle.cordyceps_base.proofs.boxes.homes.RawBox+Housed+B+Global.housed.Statement.{statement}
use Rattle.cordyceps_base.proofs.boxes.homes.RawBox+Housed+B+Global.housed.Code as code

pub housed_spec : {M : Type 1} → statement M
housed_spec 𝓤 𝓛 𝓜 𝓡 wired T L =
    let H = 𝓛.H in let 𝓣 = tables 𝓤 H 𝓜 𝓡 𝓡.env in let inst = layouts (a_type ∷ []) (T, tt) in
    let En = ended T in let c = clauses T 𝓛 𝓜.mem 𝓡.returns in let fn = inst_fn inst code.function in
    let G : RattleType = heap.the_row in let LG = heap_laws.the_row_laws in let Z : RattleType = home.the_row in let LZ = home_laws.the_row_laws in
    let In : RattleType = RawBox (S T) G LG heap_ghosts in let Out : RattleType = RawBox (R T) Z LZ home_ghosts in
    let hs : Stays En.signature.params En.kept = (stay_dropped (plain (λ _. In)) no, tt) in
    proved_at 𝓛 En hs c 𝓜 𝓡 (Goes-blank 𝓛 1 (plain (λ _. In)) no (λ κs x f. tt), tt) (#self inst) fn (code.unfolded 𝓤 H 𝓜 𝓡 wired (T, tt)) (λ z are.
    let (κs, qs, unit, given, vals) = z.0 in let x = given.0 in let Post : Val → SProp 𝓤 = (walk_of 𝓛 En hs c).post z in let Run : List Val → SProp 𝓤 = λ ws. WpFn 𝓤 H 𝓣.C 𝓣.Λ fn ws Post in
    let toks = ‵ (flft κs.0 qs.0) ⊛ ‵ ftrue in let Asked : Type 0 = x.value.home ≡ 0 in
    qed 𝓛 ((toks ⊛ ‵ (owns (types_at En.signature.params κs) given vals)) ∷ (raw (fact 𝓤 (κs.0 ⊑ T.lives)) ⊛ raw (fact 𝓤 Asked)) ∷ []) ∵ move ! (1 ∷ []) $ split ! $ forget ! $ heard ! Asked (λ asked.
    split ! $ move ! (1 ∷ []) $ fsplit ! $ raw_out (S T) G LG heap_ghosts ! x vals.0 (λ b o h e is fits.
    -- [the box; the handle; nothing; the tokens]
    let v = x.value in let p : Ptr = block_ptr b o in let w : Val = both (vptr b o) h in let out : Val = both (vptr b o) home_val in let typed = raw_good (S T) G LG heap_ghosts b o h fits in
    let new : Out.Denot = record { at = p; alloc = record {}; value = v.body } in
    suffices ! (Run (w ∷ [])) (subst (λ (us : List Val). ent 𝓤 (Run (w ∷ [])) (Run us)) (sym (λ i. is i ++ [])) (id⊢ 𝓤 (Run (w ∷ [])))) $
    enter ! 𝓣.C 𝓣.Λ fn (w ∷ []) Post $ alloc_all ! (λ l. pass_all ! refl (typed, tt) $
    sets ! (of_opd ! (get_in ! (fld ! refl (stop !)) (sub ! 0 refl (whole !)))) refl (tt, tt) $ sets ! (of_opd ! (get ! refl)) refl (tt, tt) $
    sets ! (agg ! (no_more !)) refl (tt, tt) $ sets ! (agg ! (and_then ! (get ! refl) (and_then ! (get ! refl) (no_more !)))) refl (tt, (tt, (tt, tt))) $
    fsplit ! $ use1 𝓛 (‵ (part_at (R T) full_share v.body b o) ⊛ ‵ (part_at u64 full_share v.home b (o + word_at (δ T))) ⊛ ‵ (Left T b o)) (apart T 𝓛 b o L v) $ split3 ! $
    -- [the value; its word; what else lies there; the token; the handle; nothing; the tokens]
    move ! (1 ∷ []) $ rewrite ! 0 (λ (n : ℕ). ‵ (part_at u64 full_share n b (o + word_at (δ T)))) asked refl $ rewrite ! 0 (λ (k : ℕ). ‵ (part_at u64 full_share 0 b (o + k))) (sym (word_same T)) refl $
    move ! (3 ∷ []) $ fpack ! Global (λ a. heap_ghosts.dealloc_token a (ty_struct [] (parts_of (bare (δ T)))) p) x.alloc $ move ! (3 ∷ 0 ∷ []) $ fjoin ! $ move ! (1 ∷ 0 ∷ []) $ fjoin ! $
    fpack ! ℕ (λ n. fsep (part_at u64 full_share n b (o + word_at (bare (δ T)))) (fsep (Left T b o) (right_of n (bare (δ T)) p))) 0 $
    move ! (1 ∷ 0 ∷ []) $ fjoin ! $ use0 𝓛 (‵ (Z.own_val (record {}) (home_val ∷ []))) (home_shown 𝓛) $ move ! (1 ∷ 0 ∷ []) $
    raw_in (R T) Z LZ home_ghosts ! b o home_val (record {}) v.body $
    use0 𝓛 (raw (fact 𝓤 (v.body ≡ v.body))) (fact_i 𝓤 (v.body ≡ v.body) (emp 𝓤) refl) $ nothing ! $ nothing ! $ fjoin ! $
    -- [what is left of the parameter; what is ensured; the result; the handle; nothing; the tokens]
    returns ! (look_at ! 0 refl) $ free_all ! refl $ keep ! (5 ∷ 0 ∷ 2 ∷ 1 ∷ []) $ by ! (leaves 𝓛 En hs c z out new (tt, tt) (tt, tt))))))
