-- `into_loose` hands the box back, if there is one.
use Rattle.std.proofs.Common.{◌≡◌, List, [], ◌∷◌, ◌++◌, refl, sym, subst, lit<}
use mathlib.Core.Bool.{Bool, true, false}
use mir.Syntax.{ty_ptr}
use mir.Val.{Val, vbool, vptr, vcons, vnil}
use base.Logic.{SProp, ent, emp, id⊢}
use prog.Wp.{WpFn}
use types.Kit.{‵, raw, ◌⊛◌, at_ret, ◌$◌, ◌∵◌, !, qed, by, move, keep, split, fsplit, fjoin, suffices, use0, use1}
use types.Run.{stop, fld, of_opd, lit, no_more, and_then, first, branches, exec, returns, enter}
use types.ByLocal.{alloc_all, pass_all, free_all, look_at, get, get_in, sets, sets_last, env}
use types.Part.{agg, sub, whole}
use types.Match.{live as variant}
use contract.Monad.{fact, fact_i}
use contract.Running.{tables}
use denote.Exit.{yes}
use denote.RattleType.{RattleType, owns}
use denote.Signature.{types_at, type_at, plain}
use denote.RawPtr.{Ptr, block_ptr, null_ptr, ptr_val}
use denote.Steps.{nothing}
use denote.Param.{layout}
use denote.Triple.Entry.{alive}
use denote.Triple.Walked.{Stays, stay_dropped, walk_of, Goes-dropped}
use Rattle.core.proofs.alloc.Calls.{Goes-blank, handle_tells}
use Rattle.core.proofs.alloc.Shapes.{after}
use Rattle.core.proofs.cell.Inside.{Good}
use Rattle.core.proofs.option.Made.{Some-of, none_of}
use Rattle.std_alloc.proofs.ResultValues.{and_tt}
use Rattle.std.proofs.raw_atomic.Walks.{proved_at, leaves}
use Rattle.std.specs.contracts.alloc.Global as heap
use Rattle.std.proofs.alloc.Global.TheLaws as heap_laws
use Rattle.std.specs.contracts.impls.GlobalAllocator.TheImpl.{ghosts}
use Rattle.std.specs.declared.option.Option.TheVariants.{None, Some}
use Rattle.hk_handle.proofs.Values.{both, Loose, al, loose_good, loose_in}
use Rattle.hk_handle.proofs.HandleValues.{Handle, Row, handle_out, either}
use Rattle.hk_handle.specs.contracts.handle.Handle.into_loose.{ended, signature, clauses}
use Rattle.hk_handle.specs.contracts.handle.Handle.into_loose.Key.{name as #self}
use Rattle.hk_handle.proofs.handle.Handle.into_loose.Statement.{statement}
use Rattle.hk_handle.proofs.handle.Handle.into_loose.Code as code

abbrev Z : RattleType
Z = heap.the_row

abbrev Lr : RattleType
Lr = Loose Row Z heap_laws.the_row_laws ghosts

abbrev stayed : Stays ended.signature.params ended.kept
stayed = (stay_dropped (plain (λ _. Handle)) yes, (stay_dropped (plain (λ _. Z)) yes, tt))

ptr_good : (p : Ptr) → Good ty_ptr (ptr_val p)
ptr_good (block_ptr b o) = (tt, tt)
ptr_good null_ptr = (tt, record { fits = lit< tt })

handle_good : (p : Ptr) (t : Bool) → Good (layout Handle) (both (ptr_val p) (vbool t))
handle_good (block_ptr b o) t = (tt, (tt, (tt, tt)))
handle_good null_ptr t = (tt, (record { fits = lit< tt }, (tt, tt)))

abbrev args : Ptr → Bool → Val → List Val
args p t h = both (ptr_val p) (vbool t) ∷ h ∷ []

pub into_loose_spec : {M : Type 1} → statement M
into_loose_spec 𝓤 𝓛 𝓜 𝓡 wired =
    let c = clauses 𝓛 𝓜.mem 𝓡.returns in let 𝓣 = tables 𝓤 𝓛.H 𝓜 𝓡 𝓡.env in let LZ = heap_laws.the_row_laws in
    proved_at 𝓛 ended stayed c 𝓜 𝓡 (Goes-blank 𝓛 0 (plain (λ _. Handle)) yes (λ κs x f. tt), (Goes-dropped 𝓛 0 (plain (λ _. Z)) yes (λ κs x f. refl), tt)) #self code.function (code.unfolded 𝓤 𝓛.H 𝓜 𝓡 wired) (λ z are.
    let κs = z.0.0 in let qs = z.0.1 in let d = z.0.3.0 in let a = z.0.3.1.0 in let Post : Val → SProp 𝓤 = (walk_of 𝓛 ended stayed c).post z in let Run : List Val → SProp 𝓤 = λ ws. WpFn 𝓤 𝓛.H 𝓣.C 𝓣.Λ code.function ws Post in
    let Out : RattleType = type_at signature.result κs in
    qed 𝓛 ((raw (alive 𝓛 signature κs qs) ⊛ ‵ (owns (types_at signature.params κs) z.0.3 z.0.4)) ∷ raw ((c κs z.0.3).requires z.1) ∷ []) ∵ split ! $ move ! (1 ∷ []) $ fsplit ! $
    handle_out ! d z.0.4.0 (λ ws. move ! (1 ∷ []) $ fsplit ! $ handle_tells (al Row Z LZ ghosts) ! a z.0.4.1.0 (λ h hs fits. move ! (2 ∷ []) $
    -- [what the handle owns; the allocator; true; the tokens; the requires]
    let vs : List Val = args d.at d.live h in
    suffices ! (Run vs) (subst (λ (us : List Val). ent 𝓤 (Run vs) (Run us)) (sym (λ i. ws i ++ (hs i ++ []))) (id⊢ 𝓤 (Run vs))) $
    keep ! (0 ∷ 1 ∷ 3 ∷ []) $
    either ! d.at d.live d.replica
    (λ off none. let us = args d.at false h in
    suffices ! (Run us) (subst (λ (t : Bool). ent 𝓤 (Run (args d.at t h)) (Run (args d.at d.live h))) off (id⊢ 𝓤 (Run (args d.at d.live h)))) $
    -- [the allocator; the tokens]
    enter ! 𝓣.C 𝓣.Λ code.function us Post $ alloc_all ! (λ l. let Ev = env code.function.locals l in pass_all ! refl (handle_good d.at false, (fits, tt)) $
    sets ! (of_opd ! (get_in ! (fld ! refl (stop !)) (sub ! 0 refl (whole !)))) refl (ptr_good d.at) $ sets ! (of_opd ! (get_in ! (fld ! refl (stop !)) (sub ! 1 refl (whole !)))) refl (tt, tt) $ sets ! (of_opd ! (get ! refl)) refl (tt, tt) $
    first ! $ branches ! (get ! refl) (λ wrong. absurd wrong) (λ _.
    sets_last ! (agg ! (and_then ! (lit ! tt) (no_more !))) refl (tt, (record { fits = lit< tt }, tt)) $ exec ! 𝓣.C 𝓣.Λ Ev (after 4 code.function.body) (at_ret Ev Post) $ sets ! (of_opd ! (get ! refl)) refl (tt, (record { fits = lit< tt }, tt)) $
    use0 𝓛 (‵ (Out.own_val None (variant 0 vnil ∷ []))) (none_of 𝓛 Lr) $ use0 𝓛 (raw (fact 𝓤 (d.replica ≡ None))) (fact_i 𝓤 (d.replica ≡ None) (emp 𝓤) none) $ nothing ! $ nothing ! $ fjoin ! $ nothing ! $ fjoin ! $
    returns ! (look_at ! 0 refl) $ free_all ! refl $ keep ! (4 ∷ 0 ∷ 2 ∷ 1 ∷ []) $ by ! (leaves 𝓛 ended stayed c z (variant 0 vnil) None (_, (_, tt)) (tt, (tt, tt))))))
    (λ b o x is on some. let us = args (block_ptr b o) true h in
    suffices ! (Run us) (subst (λ (p : Ptr). ent 𝓤 (Run (args p true h)) (Run (args d.at d.live h))) is (subst (λ (t : Bool). ent 𝓤 (Run (args d.at t h)) (Run (args d.at d.live h))) on (id⊢ 𝓤 (Run (args d.at d.live h))))) $
    -- [the box; the allocator; the tokens]
    let typed = loose_good Row Z LZ ghosts b o h fits in let v₁ : Val = variant 1 (vcons (both (vptr b o) h) vnil) in let l' : Lr.Denot = record { at = block_ptr b o; alloc = a; value = x } in
    let good : Good (layout Out) v₁ = (and_tt _ typed.0, (record { fits = lit< tt }, (typed.1, tt))) in
    enter ! 𝓣.C 𝓣.Λ code.function us Post $ alloc_all ! (λ l. let Ev = env code.function.locals l in pass_all ! refl (handle_good (block_ptr b o) true, (fits, tt)) $
    sets ! (of_opd ! (get_in ! (fld ! refl (stop !)) (sub ! 0 refl (whole !)))) refl (tt, tt) $ sets ! (of_opd ! (get_in ! (fld ! refl (stop !)) (sub ! 1 refl (whole !)))) refl (tt, tt) $ sets ! (of_opd ! (get ! refl)) refl (tt, tt) $
    first ! $ branches ! (get ! refl) (λ _.
    sets ! (agg ! (and_then ! (get ! refl) (and_then ! (get ! refl) (no_more !)))) refl typed $ sets_last ! (agg ! (and_then ! (lit ! tt) (and_then ! (get ! refl) (no_more !)))) refl good $
    exec ! 𝓣.C 𝓣.Λ Ev (after 4 code.function.body) (at_ret Ev Post) $ sets ! (of_opd ! (get ! refl)) refl good $ loose_in Row Z LZ ghosts ! b o h a x $
    use1 𝓛 (‵ (Out.own_val (Some l') (v₁ ∷ []))) (Some-of 𝓛 Lr l' (both (vptr b o) h)) $ use0 𝓛 (raw (fact 𝓤 (d.replica ≡ Some x))) (fact_i 𝓤 (d.replica ≡ Some x) (emp 𝓤) some) $ nothing ! $ nothing ! $ fjoin ! $ nothing ! $ fjoin ! $
    returns ! (look_at ! 0 refl) $ free_all ! refl $ keep ! (3 ∷ 0 ∷ 2 ∷ 1 ∷ []) $ by ! (leaves 𝓛 ended stayed c z v₁ (Some l') (_, (_, tt)) (tt, (tt, tt)))) (λ wrong. absurd wrong))))))
