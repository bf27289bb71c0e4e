-- `distinct` tells that the boxes of a row lie apart. Assumes `Logic`.
use Rattle.std.proofs.Common.{◌≡◌, ◌<◌, List, [], ◌∷◌, ◌++◌, refl, sym, subst}
use mir.Val.{Val}
use mir.MapTy.{inst_fn}
use base.Logic.{SProp, ent, emp, id⊢}
use base.Fml.{ftrue, flft}
use prog.Wp.{WpFn}
use types.Kit.{‵, raw, ◌⊛◌, ◌$◌, ◌∵◌, !, qed, by, move, keep, split, fsplit, fjoin, suffices, use0}
use types.Run.{no_more, and_then, returns, enter}
use types.ByLocal.{alloc_all, pass_all, free_all, look_at, get, sets}
use types.Part.{agg}
use contract.Monad.{fact, fact_i}
use contract.Running.{tables}
use denote.Exit.{no}
use denote.RattleType.{RattleType, owns}
use denote.Signature.{types_at, plain}
use denote.Steps.{nothing}
use denote.Triple.Walked.{Stays, stay_dropped, walk_of}
use Rattle.core.proofs.alloc.Calls.{Goes-blank}
use Rattle.std_alloc.proofs.BoxSteps.Form.{Bx, args, R}
use Rattle.std.proofs.raw_atomic.Walks.{proved_at, leaves}
use Rattle.cordyceps_base.proofs.Memory.{Br, mark, boxes_had, boxes_made}
use Rattle.cordyceps_base.proofs.SpotsMemory.{learns, distinct_if_sized}
use Rattle.cordyceps_base.specs.Boxes.{box_addresses}
use Rattle.cordyceps_base.specs.Spots.{AreDistinct}
use denote.Memory.{lone}
use prog.Memory.{size}
use Rattle.core.proofs.alloc.Calls.{token}
use Rattle.cordyceps_base.specs.contracts.boxes.Boxes.distinct.{ended, clauses}
use Rattle.cordyceps_base.specs.contracts.boxes.Boxes.distinct.Key.{name as #self}
use Rattle.cordyceps_base.proofs.boxes.Boxes.distinct.Statement.{statement}
use Rattle.cordyceps_base.proofs.boxes.Boxes.distinct.Code as code

pub distinct_spec : {M : Type 1} → statement M
distinct_spec 𝓤 𝓛 𝓜 𝓡 wired T A L LA g d dd allocator glued =
    let H = 𝓛.H in let 𝓣 = tables 𝓤 H 𝓜 𝓡 𝓡.env in let E : Bx = record { row = T; laws = L; al = record { row = A; laws = LA; g = g; d = d; drops = dd } } in let B : RattleType = Br E in
    let En = ended T A g d dd in let c = clauses T A g d dd 𝓛 𝓜.mem 𝓡.returns in let fn = inst_fn (args E) code.function in
    let hs : Stays En.signature.params En.kept = (stay_dropped (plain (λ _. B)) no, tt) in
    proved_at 𝓛 En hs c 𝓜 𝓡 (Goes-blank 𝓛 2 (plain (λ _. B)) no (λ κs x f. tt), tt) (#self (args E)) fn (code.unfolded 𝓤 H 𝓜 𝓡 wired (T, (A, tt)) d dd) (λ z are.
    let (κs, qs, unit, given, vals) = z.0 in let x = given.0 in let Post : Val → SProp 𝓤 = (walk_of 𝓛 En hs c).post z in let Run : List Val → SProp 𝓤 = λ ws. WpFn 𝓤 H 𝓣.C 𝓣.Λ fn ws Post in
    let toks = ‵ (flft κs.0 qs.0) ⊛ ‵ (flft κs.1.0 qs.1.0) ⊛ ‵ ftrue in let asked = raw ((c κs given).requires z.1) in
    let AreDisjoint : Type 0 = 0 < size (lone (R E).mir) → AreDistinct (box_addresses x.blocks) in
    let new : B.Denot = record { mark = x.mark; blocks = x.blocks } in
    qed 𝓛 ((toks ⊛ ‵ (owns (types_at En.signature.params κs) given vals)) ∷ asked ∷ []) ∵ split ! $ move ! (1 ∷ []) $ fsplit ! $ boxes_had ! E x vals.0 (λ e0. learns ! AreDisjoint (distinct_if_sized 𝓛 𝓜 (R E) (token E.al) x.blocks) (λ distinct.
    -- [the row; nothing; the tokens; what is asked]
    suffices ! (Run (mark ∷ [])) (subst (λ (us : List Val). ent 𝓤 (Run (mark ∷ [])) (Run us)) (sym (λ i. e0 i ++ [])) (id⊢ 𝓤 (Run (mark ∷ [])))) $
    enter ! 𝓣.C 𝓣.Λ fn (mark ∷ []) Post $ alloc_all ! (λ l. pass_all ! refl ((tt, (tt, tt)), tt) $
    sets ! (agg ! (no_more !)) refl (tt, tt) $ sets ! (agg ! (and_then ! (get ! refl) (no_more !))) refl (tt, (tt, tt)) $
    boxes_made ! E new $
    use0 𝓛 (raw (fact 𝓤 ((new.blocks ≡ x.blocks) × AreDisjoint))) (fact_i 𝓤 ((new.blocks ≡ x.blocks) × AreDisjoint) (emp 𝓤) (refl, distinct)) $ nothing ! $ nothing ! $ fjoin ! $
    -- [what is left of the parameters; what is ensured; the result; nothing; the tokens]
    returns ! (look_at ! 0 refl) $ free_all ! refl $ keep ! (4 ∷ 0 ∷ 2 ∷ 1 ∷ []) $ by ! (leaves 𝓛 En hs c z mark new (tt, tt) (tt, tt))))))
