-- `into_loose` tests the pointer, and takes over what the handle holds.
use Rattle.std.proofs.Common.{◌≡◌, List, [], ◌∷◌, ◌++◌, refl, sym, ap, ◌∙◌, subst, lit<}
use Rattle.std.specs.Prelude.{None, Some}
use mir.Syntax.{impl, tnil, dnil}
use mir.Val.{Val, vptr, vcons, vnil}
use base.Logic.{SProp, ent, emp, id⊢}
use base.Fml.{ftrue}
use prog.Wp.{WpFn}
use types.Kit.{‵, raw, ◌⊛◌, at_ret, ◌$◌, ◌∵◌, !, qed, by, move, keep, split, fsplit, fjoin, suffices, use0, use1}
use types.Run.{stop, fld, lit, of_opd, bin, no_more, and_then, first, branches, exec, returns, enter}
use types.ByLocal.{alloc_all, pass_all, free_all, look_at, get, get_in, sets, sets_last, env}
use types.Part.{agg, sub, whole}
use types.Match.{live}
use contract.Monad.{fact, fact_i}
use contract.Running.{tables}
use denote.Exit.{yes}
use denote.RattleType.{RattleType, owns}
use denote.Signature.{types_at, type_at, plain}
use denote.RawPtr.{Ptr, block_ptr, null_ptr, ptr_val, tests_null}
use denote.Steps.{nothing}
use denote.Param.{layout}
use denote.Triple.Walked.{Stays, stay_dropped, walk_of, Goes-dropped}
use Rattle.core.proofs.alloc.Calls.{Al, Goes-blank, handle_tells}
use Rattle.core.proofs.alloc.Shapes.{after}
use Rattle.core.proofs.cell.Inside.{Good}
use Rattle.core.proofs.option.Made.{Some-of, none_of}
use Rattle.std.specs.contracts.alloc.Global as heap
use Rattle.std.proofs.alloc.Global.TheLaws as heap_laws
use Rattle.std.specs.contracts.impls.GlobalAllocator.TheImpl.{ghosts}
use Rattle.std_alloc.proofs.ResultValues.{and_tt}
use Rattle.std.proofs.raw_atomic.Walks.{proved_at, leaves}
use Rattle.rbg_c.proofs.Values.{both, Loose, loose_good, loose_in}
use Rattle.rbg_c.proofs.Handles.{one, Hd, either_held, handle_out}
use Rattle.rbg_c.specs.contracts.state.State.{the_row as Row}
use Rattle.rbg_c.specs.contracts.handle.Handle.into_loose.{ended, clauses}
use Rattle.rbg_c.specs.contracts.handle.Handle.into_loose.Key.{name as #self}
use Rattle.rbg_c.proofs.handle.Handle.into_loose.Statement.{statement}
use Rattle.rbg_c.proofs.handle.Handle.into_loose.Code as code

pub into_loose_spec : {M : Type 1} → statement M
into_loose_spec 𝓤 𝓛 𝓜 𝓡 wired =
    let H = 𝓛.H in let 𝓣 = tables 𝓤 H 𝓜 𝓡 𝓡.env in let c = clauses 𝓛 𝓜.mem 𝓡.returns in let fn = code.function in
    let Z : RattleType = heap.the_row in let LZ = heap_laws.the_row_laws in let Lr : RattleType = Loose Row Z LZ ghosts in
    let al : Al = record { row = Z; laws = LZ; g = ghosts; d = impl [] tnil dnil; drops = impl [] tnil dnil } in
    let hs : Stays ended.signature.params ended.kept = (stay_dropped (plain (λ _. Hd)) yes, (stay_dropped (plain (λ _. Z)) yes, tt)) in
    proved_at 𝓛 ended hs c 𝓜 𝓡 (Goes-blank 𝓛 0 (plain (λ _. Hd)) yes (λ κs x f. tt), (Goes-dropped 𝓛 0 (plain (λ _. Z)) yes (λ κs x f. refl), tt)) #self fn (code.unfolded 𝓤 H 𝓜 𝓡 wired) (λ z are.
    let Post : Val → SProp 𝓤 = (walk_of 𝓛 ended hs c).post z in let Run : List Val → SProp 𝓤 = λ ws. WpFn 𝓤 H 𝓣.C 𝓣.Λ fn ws Post in
    let Out : RattleType = type_at ended.signature.result z.0.0 in let d = z.0.3.0 in let a = z.0.3.1.0 in
    qed 𝓛 ((‵ ftrue ⊛ ‵ (owns (types_at ended.signature.params z.0.0) z.0.3 z.0.4)) ∷ raw ((c z.0.0 z.0.3).requires z.1) ∷ []) ∵ split ! $ move ! (1 ∷ []) $ fsplit ! $
    handle_out ! d z.0.4.0 (λ ws. move ! (1 ∷ []) $ fsplit ! $ handle_tells al ! a z.0.4.1.0 (λ h wh fits. move ! (2 ∷ []) $
    -- [what is held; the allocator; ..; the tokens; ..]
    either_held ! d.inside d.value
    (λ is_none is_null. let us : List Val = one (ptr_val null_ptr) ∷ h ∷ [] in let v : Val = live 0 vnil in
    let same : z.0.4.0 ≡ one (ptr_val null_ptr) ∷ [] = ws ∙ ap (λ (p : Ptr). one (ptr_val p) ∷ []) is_null in
    suffices ! (Run us) (subst (λ (xs : List Val). ent 𝓤 (Run us) (Run xs)) (sym (λ i. same i ++ (wh i ++ []))) (id⊢ 𝓤 (Run us))) $
    enter ! 𝓣.C 𝓣.Λ fn us Post $ alloc_all ! (λ l. pass_all ! refl ((tt, (record { fits = lit< tt }, tt)), (fits, tt)) $ let Ev = env fn.locals l in
    sets ! (of_opd ! (get_in ! (fld ! refl (stop !)) (sub ! 0 refl (whole !)))) refl (tt, record { fits = lit< tt }) $
    sets ! (bin ! (get ! refl) (lit ! tt) tt) refl (tt, tt) $ first ! $ branches ! (get ! refl)
    (λ _. sets_last ! (agg ! (and_then ! (lit ! tt) (no_more !))) refl (tt, (record { fits = lit< tt }, tt)) $
    exec ! 𝓣.C 𝓣.Λ Ev (after 3 fn.body) (at_ret Ev Post) $ sets ! (of_opd ! (get ! refl)) refl (tt, (record { fits = lit< tt }, tt)) $
    use0 𝓛 (‵ (Out.own_val None (v ∷ []))) (none_of 𝓛 Lr) $ nothing ! $ nothing ! $ nothing ! $ fjoin ! $ move ! (1 ∷ 0 ∷ []) $ fjoin ! $
    use0 𝓛 (raw (fact 𝓤 (d.value ≡ None))) (fact_i 𝓤 (d.value ≡ None) (emp 𝓤) is_none) $
    -- [the ensures; the parameters; the result; the allocator; ..; the tokens; ..]
    returns ! (look_at ! 0 refl) $ free_all ! refl $ keep ! (5 ∷ 1 ∷ 2 ∷ 0 ∷ []) $
    by ! (leaves 𝓛 ended hs c z v None (tt, (tt, tt)) (tt, (tt, tt)))) (λ wrong. absurd wrong)))
    (λ b o x is_some is_at may. let us : List Val = one (vptr b o) ∷ h ∷ [] in let made : Val = both (vptr b o) h in let v : Val = live 1 (vcons made vnil) in
    let typed = loose_good Row Z LZ ghosts b o h fits in let r : Lr.Denot = record { at = block_ptr b o; alloc = a; value = x } in
    let good : Good (layout Out) v = (and_tt _ typed.0, (record { fits = lit< tt }, (typed.1, tt))) in
    let same : z.0.4.0 ≡ one (vptr b o) ∷ [] = ws ∙ ap (λ (p : Ptr). one (ptr_val p) ∷ []) is_at in
    suffices ! (Run us) (subst (λ (xs : List Val). ent 𝓤 (Run us) (Run xs)) (sym (λ i. same i ++ (wh i ++ []))) (id⊢ 𝓤 (Run us))) $
    enter ! 𝓣.C 𝓣.Λ fn us Post $ alloc_all ! (λ l. pass_all ! refl ((tt, (tt, tt)), (fits, tt)) $ let Ev = env fn.locals l in
    sets ! (of_opd ! (get_in ! (fld ! refl (stop !)) (sub ! 0 refl (whole !)))) refl (tt, tt) $
    sets ! (bin ! (get ! refl) (lit ! tt) (tests_null (block_ptr b o) may)) refl (tt, tt) $ first ! $ branches ! (get ! refl) (λ wrong. absurd wrong)
    (λ _. sets ! (of_opd ! (get ! refl)) refl (tt, tt) $ sets ! (agg ! (and_then ! (get ! refl) (and_then ! (get ! refl) (no_more !)))) refl typed $
    sets_last ! (agg ! (and_then ! (lit ! tt) (and_then ! (get ! refl) (no_more !)))) refl good $
    exec ! 𝓣.C 𝓣.Λ Ev (after 3 fn.body) (at_ret Ev Post) $ sets ! (of_opd ! (get ! refl)) refl good $ loose_in Row Z LZ ghosts ! b o h a x $
    use1 𝓛 (‵ (Out.own_val (Some r) (v ∷ []))) (Some-of 𝓛 Lr r made) $ nothing ! $ nothing ! $ nothing ! $ fjoin ! $ move ! (1 ∷ 0 ∷ []) $ fjoin ! $
    use0 𝓛 (raw (fact 𝓤 (d.value ≡ Some x))) (fact_i 𝓤 (d.value ≡ Some x) (emp 𝓤) is_some) $
    -- [the ensures; the parameters; the result; ..; the tokens; ..]
    returns ! (look_at ! 0 refl) $ free_all ! refl $ keep ! (4 ∷ 1 ∷ 2 ∷ 0 ∷ []) $
    by ! (leaves 𝓛 ended hs c z v (Some r) (tt, (tt, tt)) (tt, (tt, tt)))))))))
