-- `null_comparable` tells that the places of a row are those of blocks. Assumes `Logic`.
use Rattle.std.proofs.Common.{◌≡◌, List, [], ◌∷◌, ◌++◌, refl, sym, subst}
use mir.Val.{Val}
use mir.MapTy.{inst_fn}
use base.Logic.{SProp, ent, emp, id⊢}
use base.Fml.{ftrue, flft}
use prog.Wp.{WpFn}
use types.Kit.{‵, raw, ◌⊛◌, ◌$◌, ◌∵◌, !, qed, by, move, keep, split, fsplit, fjoin, suffices, use0}
use types.Run.{no_more, and_then, returns, enter}
use types.ByLocal.{alloc_all, pass_all, free_all, look_at, get, sets}
use types.Part.{agg}
use contract.Monad.{fact, fact_i}
use contract.Running.{tables}
use denote.Exit.{no}
use denote.RattleType.{RattleType, owns}
use denote.Signature.{types_at, plain}
use denote.Steps.{nothing}
use denote.Triple.Walked.{Stays, stay_dropped, walk_of}
use Rattle.core.proofs.alloc.Calls.{Goes-blank}
use Rattle.std.proofs.raw_atomic.Walks.{proved_at, leaves}
use mir.Syntax.{a_type}
use denote.Param.{param, layouts}
use Rattle.cordyceps_base.proofs.Memory.{mark}
use Rattle.cordyceps_base.proofs.SpotsMemory.{learns, row_comparable, HomeBoxes, home_boxes_had, home_boxes_made}
use Rattle.cordyceps_base.specs.Boxes.{box_addresses}
use Rattle.cordyceps_base.specs.Spots.{AreNullComparable}
use Rattle.cordyceps_base.specs.contracts.boxes.Boxes+B+Home.null_comparable.{ended, clauses}
use Rattle.cordyceps_base.specs.contracts.boxes.Boxes+B+Home.null_comparable.Key.{name as #self}
use Rattle.cordyceps_base.proofs.boxes.Boxes+B+Home.null_comparable.Statement.{statement}
use Rattle.cordyceps_base.proofs.boxes.Boxes+B+Home.null_comparable.Code as code

pub null_comparable_spec : {M : Type 1} → statement M
null_comparable_spec 𝓤 𝓛 𝓜 𝓡 wired T L =
    let H = 𝓛.H in let 𝓣 = tables 𝓤 H 𝓜 𝓡 𝓡.env in let R : RattleType = param 0 T in let B : RattleType = HomeBoxes 𝓛 R in let inst = layouts (a_type ∷ []) (T, tt) in
    let En = ended T in let c = clauses T 𝓛 𝓜.mem 𝓡.returns in let fn = inst_fn inst code.function in
    let hs : Stays En.signature.params En.kept = (stay_dropped (plain (λ _. B)) no, tt) in
    proved_at 𝓛 En hs c 𝓜 𝓡 (Goes-blank 𝓛 1 (plain (λ _. B)) no (λ κs x f. tt), tt) (#self inst) fn (code.unfolded 𝓤 H 𝓜 𝓡 wired (T, tt)) (λ z are.
    let (κs, qs, unit, given, vals) = z.0 in let x = given.0 in let Post : Val → SProp 𝓤 = (walk_of 𝓛 En hs c).post z in let Run : List Val → SProp 𝓤 = λ ws. WpFn 𝓤 H 𝓣.C 𝓣.Λ fn ws Post in
    let toks = ‵ (flft κs.0 qs.0) ⊛ ‵ ftrue in let asked = raw ((c κs given).requires z.1) in
    let Tested : Type 0 = AreNullComparable (box_addresses x.blocks) in
    let new : B.Denot = record { mark = x.mark; blocks = x.blocks } in
    qed 𝓛 ((toks ⊛ ‵ (owns (types_at En.signature.params κs) given vals)) ∷ asked ∷ []) ∵ split ! $ move ! (1 ∷ []) $ fsplit ! $ home_boxes_had ! R x vals.0 (λ e0. learns ! Tested (row_comparable 𝓛 R x.blocks) (λ null_comparable.
    -- [the row; nothing; the tokens; what is asked]
    suffices ! (Run (mark ∷ [])) (subst (λ (us : List Val). ent 𝓤 (Run (mark ∷ [])) (Run us)) (sym (λ i. e0 i ++ [])) (id⊢ 𝓤 (Run (mark ∷ [])))) $
    enter ! 𝓣.C 𝓣.Λ fn (mark ∷ []) Post $ alloc_all ! (λ l. pass_all ! refl ((tt, (tt, tt)), tt) $
    sets ! (agg ! (no_more !)) refl (tt, tt) $ sets ! (agg ! (and_then ! (get ! refl) (no_more !))) refl (tt, (tt, tt)) $
    home_boxes_made ! R new $
    use0 𝓛 (raw (fact 𝓤 ((new.blocks ≡ x.blocks) × Tested))) (fact_i 𝓤 ((new.blocks ≡ x.blocks) × Tested) (emp 𝓤) (refl, null_comparable)) $ nothing ! $ nothing ! $ fjoin ! $
    -- [what is left of the parameters; what is ensured; the result; nothing; the tokens]
    returns ! (look_at ! 0 refl) $ free_all ! refl $ keep ! (4 ∷ 0 ∷ 2 ∷ 1 ∷ []) $ by ! (leaves 𝓛 En hs c z mark new (tt, tt) (tt, tt))))))
