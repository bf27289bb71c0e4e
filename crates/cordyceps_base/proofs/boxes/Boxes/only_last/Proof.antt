-- `only_last` shows the last box alone. Assumes `Logic`.
use Rattle.std.proofs.Common.{◌≡◌, List, [], ◌∷◌, ◌++◌, refl, sym, subst, length, drop, ◌-◌}
use mir.Val.{Val, vptr}
use mir.MapTy.{inst_fn}
use base.Logic.{SProp, ent, emp, id⊢}
use base.Fml.{ftrue, flft}
use prog.Wp.{WpFn}
use types.Kit.{‵, raw, ◌⊛◌, ◌$◌, ◌∵◌, !, qed, by, move, keep, split, fsplit, fjoin, feq_i, feq_l, suffices, use0, use1}
use types.Run.{of_opd, returns, enter}
use types.ByLocal.{alloc_all, pass_all, free_all, look_at, get, sets}
use contract.Monad.{fact, fact_i}
use contract.Running.{tables}
use denote.Exit.{yes}
use denote.RattleType.{RattleType, owns}
use denote.Memory.{hidden_shr}
use denote.Ref.{Bor}
use denote.Builtin.{RefOf}
use denote.Signature.{types_at, plain}
use denote.Opens.{unhide}
use denote.Steps.{nothing}
use denote.Triple.Walked.{Stays, stay_dropped, Goes-dropped, walk_of}
use Rattle.std_alloc.proofs.BoxSteps.Form.{Bx, args, R}
use Rattle.std.proofs.raw_atomic.Walks.{proved_at, leaves}
use Rattle.cordyceps_base.specs.Boxes.{boxes_lent}
use Rattle.cordyceps_base.proofs.Memory.{Br, lent_after}
use Rattle.cordyceps_base.specs.contracts.boxes.Boxes.only_last.{ended, clauses}
use Rattle.cordyceps_base.specs.contracts.boxes.Boxes.only_last.Key.{name as #self}
use Rattle.cordyceps_base.proofs.boxes.Boxes.only_last.Statement.{statement}
use Rattle.cordyceps_base.proofs.boxes.Boxes.only_last.Code as code

pub only_last_spec : {M : Type 1} → statement M
only_last_spec 𝓤 𝓛 𝓜 𝓡 wired T A L LA g d dd allocator glued =
    let H = 𝓛.H in let 𝓣 = tables 𝓤 H 𝓜 𝓡 𝓡.env in let E : Bx = record { row = T; laws = L; al = record { row = A; laws = LA; g = g; d = d; drops = dd } } in let B : RattleType = Br E in
    let En = ended T A g d dd in let c = clauses T A g d dd 𝓛 𝓜.mem 𝓡.returns in let fn = inst_fn (args E) code.function in
    let hs : Stays En.signature.params En.kept = (stay_dropped (RefOf (0 ∷ []) tt (plain (λ _. B)) (λ _. tt)) yes, tt) in
    proved_at 𝓛 En hs c 𝓜 𝓡 (Goes-dropped 𝓛 3 (RefOf (0 ∷ []) tt (plain (λ _. B)) (λ _. tt)) yes (λ κs x f. refl), tt) (#self (args E)) fn (code.unfolded 𝓤 H 𝓜 𝓡 wired (T, (A, tt)) d dd) (λ z are.
    let (κs, qs, unit, given, vals) = z.0 in let x = given.0 in let κ = κs.0 in let rb = x.ref_ptr.0 in let ro = x.ref_ptr.1 in let v : Val = vptr rb ro in
    let Post : Val → SProp 𝓤 = (walk_of 𝓛 En hs c).post z in let Run : List Val → SProp 𝓤 = λ ws. WpFn 𝓤 H 𝓣.C 𝓣.Λ fn ws Post in
    let toks = ‵ (flft κs.0 qs.0) ⊛ ‵ (flft κs.1.0 qs.1.0) ⊛ ‵ (flft κs.1.1.0 qs.1.1.0) ⊛ ‵ ftrue in let asked = raw ((c κs given).requires z.1) in
    let new : B.Denot = record { mark = x.now.mark; blocks = drop (length x.now.blocks - 1) x.now.blocks } in let out : Bor B.Denot = record { ref_ptr = x.ref_ptr; now = new } in
    qed 𝓛 ((toks ⊛ ‵ (owns (types_at En.signature.params κs) given vals)) ∷ asked ∷ []) ∵ split ! $ move ! (1 ∷ []) $ fsplit ! $ fsplit ! $ feq_l ! (λ e0.
    -- [what the `&` holds; nothing; the tokens; what is asked]
    suffices ! (Run (v ∷ [])) (subst (λ (us : List Val). ent 𝓤 (Run (v ∷ [])) (Run us)) (sym (λ i. e0 i ++ [])) (id⊢ 𝓤 (Run (v ∷ [])))) $
    enter ! 𝓣.C 𝓣.Λ fn (v ∷ []) Post $ alloc_all ! (λ l. pass_all ! refl ((tt, tt), tt) $
    sets ! (of_opd ! (get ! refl)) refl (tt, tt) $
    unhide ! $ fsplit ! $ move ! (1 ∷ []) $ use1 𝓛 (‵ (boxes_lent (R E) new.blocks κ)) (lent_after 𝓛 (R E) κ (length x.now.blocks - 1) x.now.blocks) $ move ! (1 ∷ 0 ∷ []) $ fjoin ! $
    use1 𝓛 (‵ (hidden_shr B κ new rb ro)) (id⊢ 𝓤 _) $ feq_i ! (List Val) (v ∷ []) (v ∷ []) refl $ fjoin ! $
    use0 𝓛 (raw (fact 𝓤 (new.blocks ≡ drop (length x.now.blocks - 1) x.now.blocks))) (fact_i 𝓤 (new.blocks ≡ drop (length x.now.blocks - 1) x.now.blocks) (emp 𝓤) refl) $ nothing ! $ nothing ! $ fjoin ! $
    -- [what is left of the parameter; what is ensured; the result; nothing; the tokens]
    returns ! (look_at ! 0 refl) $ free_all ! refl $ keep ! (4 ∷ 0 ∷ 2 ∷ 1 ∷ []) $ by ! (leaves 𝓛 En hs c z v out (tt, tt) (tt, tt)))))
