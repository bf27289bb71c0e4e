-- `into_raw` hands the box out. Assumes `Logic`.
use Rattle.std.proofs.Common.{◌≡◌, List, [], ◌∷◌, ◌++◌, refl, sym, ap, ◌∙◌, subst, Some, Option}
use mir.Val.{Val, vptr}
use mir.Raw.{raw as bare}
use base.Logic.{SProp, ent, emp, id⊢, never, fst∗}
use prog.Wp.{WpFn}
use types.Logic.{sem}
use types.Kit.{‵, raw, ◌⊛◌, ◌$◌, ◌∵◌, !, qed, by, move, keep, split, fsplit, fjoin, suffices, rewrite, use0}
use types.Run.{stop, fld, of_opd, no_more, and_then, returns, enter}
use types.ByLocal.{alloc_all, pass_all, free_all, look_at, get, get_in, sets}
use types.Part.{agg, sub, whole}
use contract.Monad.{fact, fact_i}
use contract.Running.{tables}
use denote.Exit.{yes}
use denote.RattleType.{RattleType, owns}
use denote.RawPtr.{Ptr, block_ptr, null_ptr, in_a_block}
use denote.Memory.{lone}
use denote.Signature.{types_at, plain}
use denote.Steps.{nothing, heard}
use denote.Triple.Entry.{alive}
use denote.Triple.Walked.{Stays, stay_dropped, walk_of}
use Rattle.core.proofs.alloc.Calls.{Goes-blank}
use Rattle.std.proofs.raw_atomic.Walks.{proved_at, leaves}
use Rattle.cordyceps_base.specs.contracts.boxes.homes.Home as home
use Rattle.cordyceps_base.proofs.boxes.homes.Home.TheLaws as home_laws
use Rattle.cordyceps_base.specs.contracts.boxes.homes.HomeAllocator.TheImpl.{ghosts}
use Rattle.std_alloc.specs.Box.Ownership.{box_owns}
use Rattle.std_alloc.proofs.RcSteps.{word}
use Rattle.cordyceps_c_base.proofs.Values.{both, RawBox, raw_in}
use Rattle.cordyceps_base.proofs.Homes.{home_val, home_shown}
use Rattle.cordyceps_c_base.proofs.NodeHandles.{H, handle-Good, handle_out}
use Rattle.cordyceps_c_base.specs.Held.{owns_housed}
use Rattle.cordyceps_c_base.specs.Rows.{block_row}
use Rattle.cordyceps_c_base.specs.contracts.node_handle.NodeHandle.into_raw.{ended, clauses}
use Rattle.cordyceps_c_base.specs.contracts.node_handle.NodeHandle.into_raw.Key.{name as #self}
use Rattle.cordyceps_c_base.proofs.node_handle.NodeHandle.into_raw.Statement.{statement}
use Rattle.cordyceps_c_base.proofs.node_handle.NodeHandle.into_raw.Code as code

pub into_raw_spec : {M : Type 1} → statement M
into_raw_spec 𝓤 𝓛 𝓜 𝓡 wired =
    let 𝓣 = tables 𝓤 𝓛.H 𝓜 𝓡 𝓡.env in let c = clauses 𝓛 𝓜.mem 𝓡.returns in let fn = code.function in let R : RattleType = block_row in let Z : RattleType = home.the_row in let LZ = home_laws.the_row_laws in
    let Lr : RattleType = RawBox R Z LZ ghosts in let hs : Stays ended.signature.params ended.kept = (stay_dropped (plain (λ _. H)) yes, tt) in
    proved_at 𝓛 ended hs c 𝓜 𝓡 (Goes-blank 𝓛 0 (plain (λ _. H)) yes (λ κs x f. tt), tt) #self fn (code.unfolded 𝓤 𝓛.H 𝓜 𝓡 wired) (λ z are.
    let Post : Val → SProp 𝓤 = (walk_of 𝓛 ended hs c).post z in let Run : List Val → SProp 𝓤 = λ ws. WpFn 𝓤 𝓛.H 𝓣.C 𝓣.Λ fn ws Post in let d = z.0.3.0 in
    let Asked : Type 0 = (x : R.Denot) × (d.held ≡ Some x) in
    qed 𝓛 ((raw (alive 𝓛 ended.signature z.0.0 z.0.1) ⊛ ‵ (owns (types_at ended.signature.params z.0.0) z.0.3 z.0.4)) ∷ raw (fact 𝓤 Asked) ∷ []) ∵ move ! (1 ∷ []) $ heard ! Asked (λ asked. let x = asked.0 in
    split ! $ move ! (1 ∷ []) $ fsplit ! $ handle_out ! d z.0.4.0 (λ e0.
    -- [what is held; nothing; the tokens]
    rewrite ! 0 (λ (o : Option R.Denot). ‵ (owns_housed R d.at o)) asked.1 refl $
    in_a_block ! d.at (λ p. box_owns (ghosts.dealloc_token (record {})) R p x) (fst∗ 𝓤 (never 𝓤) (sem 𝓛 (ghosts.dealloc_token (record {}) (bare (lone R.mir)) null_ptr))) (λ b o e.
    -- [the box; nothing; the tokens]
    let out : Val = both (vptr b o) home_val in let ws : List Val = word (block_ptr b o) ∷ [] in let new : Lr.Denot = record { at = block_ptr b o; alloc = record {}; value = x } in
    suffices ! (Run ws) (subst (λ (us : List Val). ent 𝓤 (Run ws) (Run us)) (sym (λ i. (e0 ∙ ap (λ (q : Ptr). word q ∷ []) e) i ++ [])) (id⊢ 𝓤 (Run ws))) $
    enter ! 𝓣.C 𝓣.Λ fn ws Post $ alloc_all ! (λ l. pass_all ! refl (handle-Good (block_ptr b o), tt) $
    sets ! (of_opd ! (get_in ! (fld ! refl (stop !)) (sub ! 0 refl (whole !)))) refl (tt, tt) $ sets ! (of_opd ! (get ! refl)) refl (tt, tt) $ sets ! (agg ! (no_more !)) refl (tt, tt) $
    sets ! (agg ! (and_then ! (get ! refl) (and_then ! (get ! refl) (no_more !)))) refl (tt, (tt, (tt, tt))) $
    use0 𝓛 (‵ (Z.own_val (record {}) (home_val ∷ []))) (home_shown 𝓛) $ move ! (1 ∷ 0 ∷ []) $ raw_in R Z LZ ghosts ! b o home_val (record {}) x $
    use0 𝓛 (raw (fact 𝓤 (d.held ≡ Some x))) (fact_i 𝓤 (d.held ≡ Some x) (emp 𝓤) asked.1) $ nothing ! $ nothing ! $ fjoin ! $
    -- [what is left of the parameters; what is ensured; the result; nothing; the tokens]
    returns ! (look_at ! 0 refl) $ free_all ! refl $ keep ! (4 ∷ 0 ∷ 2 ∷ 1 ∷ []) $ by ! (leaves 𝓛 ended hs c z out new (tt, tt) (tt, tt)))))))
