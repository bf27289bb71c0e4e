-- `cut_at` takes a row apart where a place stands. Assumes `Logic`.
use Rattle.std.proofs.Common.{◌≡◌, List, [], ◌∷◌, ◌++◌, refl, sym, subst, take, drop}
use mir.Val.{Val}
use mir.MapTy.{inst_fn}
use base.Logic.{SProp, ent, emp, id⊢}
use base.Fml.{ftrue, flft}
use prog.Wp.{WpFn}
use types.Kit.{‵, raw, ◌⊛◌, ◌$◌, ◌∵◌, !, qed, by, move, keep, split, fsplit, fjoin, suffices, rewrite, use0, use1, use2}
use types.Run.{no_more, and_then, returns, enter}
use types.ByLocal.{alloc_all, pass_all, free_all, look_at, get, sets}
use types.Part.{agg}
use contract.Monad.{fact, fact_i}
use contract.Running.{tables}
use denote.Exit.{yes, no}
use denote.RattleType.{RattleType, owns}
use denote.Signature.{types_at, plain}
use denote.Steps.{nothing}
use denote.Struct.Tuple.{Tuple}
use denote.Triple.Walked.{Stays, stay_dropped, walk_of, Goes-dropped}
use Rattle.core.proofs.alloc.Calls.{Goes-blank, token}
use Rattle.std_alloc.proofs.BoxSteps.Form.{Bx, args, R}
use Rattle.std_alloc.proofs.Pairs.{pair_val, pair_of}
use Rattle.std.proofs.raw_atomic.Walks.{proved_at, leaves}
use Rattle.std_alloc.proofs.RcSteps.{word}
use Rattle.cordyceps_base.specs.Boxes.{box_addresses}
use Rattle.cordyceps_base.specs.Spots.{index_of}
use Rattle.cordyceps_base.proofs.Memory.{Br, Pr, word_had, address-Good, Row, Held, mark, boxes_had, boxes_made, row_cut, take-drop}
use Rattle.cordyceps_base.specs.contracts.boxes.Boxes.cut_at.{ended, clauses}
use Rattle.cordyceps_base.specs.contracts.boxes.Boxes.cut_at.Key.{name as #self}
use Rattle.cordyceps_base.proofs.boxes.Boxes.cut_at.Statement.{statement}
use Rattle.cordyceps_base.proofs.boxes.Boxes.cut_at.Code as code

pub cut_at_spec : {M : Type 1} → statement M
cut_at_spec 𝓤 𝓛 𝓜 𝓡 wired T A L LA g d dd allocator glued =
    let H = 𝓛.H in let 𝓣 = tables 𝓤 H 𝓜 𝓡 𝓡.env in let E : Bx = record { row = T; laws = L; al = record { row = A; laws = LA; g = g; d = d; drops = dd } } in let B : RattleType = Br E in
    let En = ended T A g d dd in let c = clauses T A g d dd 𝓛 𝓜.mem 𝓡.returns in let fn = inst_fn (args E) code.function in
    let hs : Stays En.signature.params En.kept = (stay_dropped (plain (λ _. B)) no, (stay_dropped (plain (λ _. Pr)) yes, tt)) in
    proved_at 𝓛 En hs c 𝓜 𝓡 (Goes-blank 𝓛 2 (plain (λ _. B)) no (λ κs x f. tt), (Goes-dropped 𝓛 2 (plain (λ _. Pr)) yes (λ κs x f. refl), tt)) (#self (args E)) fn (code.unfolded 𝓤 H 𝓜 𝓡 wired (T, (A, tt)) d dd) (λ z are.
    let (κs, qs, unit, given, vals) = z.0 in let x = given.0 in let at = given.1.0 in let k = index_of at.ptr (box_addresses x.blocks) in let Post : Val → SProp 𝓤 = (walk_of 𝓛 En hs c).post z in let Run : List Val → SProp 𝓤 = λ ws. WpFn 𝓤 H 𝓣.C 𝓣.Λ fn ws Post in
    let toks = ‵ (flft κs.0 qs.0) ⊛ ‵ (flft κs.1.0 qs.1.0) ⊛ ‵ ftrue in let asked = raw ((c κs given).requires z.1) in
    let front : B.Denot = record { mark = x.mark; blocks = take k x.blocks } in let back : B.Denot = record { mark = x.mark; blocks = drop k x.blocks } in
    let ws : List Val = mark ∷ word at.ptr ∷ [] in
    qed 𝓛 ((toks ⊛ ‵ (owns (types_at En.signature.params κs) given vals)) ∷ asked ∷ []) ∵ split ! $ move ! (1 ∷ []) $ fsplit ! $ boxes_had ! E x vals.0 (λ e0. move ! (1 ∷ []) $ fsplit ! $ word_had ! at.ptr vals.1.0 (λ e1. move ! (1 ∷ 0 ∷ []) $
    -- [the row; nothing; the tokens; what is asked]
    suffices ! (Run ws) (subst (λ (us : List Val). ent 𝓤 (Run ws) (Run us)) (sym (λ i. e0 i ++ (e1 i ++ []))) (id⊢ 𝓤 (Run ws))) $
    enter ! 𝓣.C 𝓣.Λ fn ws Post $ alloc_all ! (λ l. pass_all ! refl ((tt, (tt, tt)), (address-Good at.ptr, tt)) $
    sets ! (agg ! (no_more !)) refl (tt, tt) $ sets ! (agg ! (and_then ! (get ! refl) (no_more !))) refl (tt, (tt, tt)) $
    sets ! (agg ! (no_more !)) refl (tt, tt) $ sets ! (agg ! (and_then ! (get ! refl) (no_more !))) refl (tt, (tt, tt)) $
    sets ! (agg ! (and_then ! (get ! refl) (and_then ! (get ! refl) (no_more !)))) refl (tt, ((tt, tt), ((tt, tt), tt))) $
    rewrite ! 0 (λ (ns : List (Held E)). ‵ (Row E ns)) (take-drop k x.blocks) refl $ use1 𝓛 (‵ (Row E front.blocks) ⊛ ‵ (Row E back.blocks)) (row_cut 𝓛 (token E.al) (R E) front.blocks back.blocks) $ split ! $
    boxes_made ! E front $ move ! (1 ∷ []) $ boxes_made ! E back $ move ! (1 ∷ 0 ∷ []) $ use2 𝓛 (‵ ((Tuple (B ∷ B ∷ [])).own_val (front, back) (pair_val mark mark ∷ []))) (pair_of 𝓛 B B front back mark mark) $
    use0 𝓛 (raw (fact 𝓤 ((front.blocks ≡ take k x.blocks) × (back.blocks ≡ drop k x.blocks)))) (fact_i 𝓤 ((front.blocks ≡ take k x.blocks) × (back.blocks ≡ drop k x.blocks)) (emp 𝓤) (refl, refl)) $ nothing ! $ nothing ! $ fjoin ! $ nothing ! $ fjoin ! $
    -- [what is left of the parameters; what is ensured; the result; nothing; the tokens]
    returns ! (look_at ! 0 refl) $ free_all ! refl $ keep ! (4 ∷ 0 ∷ 2 ∷ 1 ∷ []) $ by ! (leaves 𝓛 En hs c z (pair_val mark mark) (front, back) (tt, (tt, tt)) (tt, (tt, tt)))))))
