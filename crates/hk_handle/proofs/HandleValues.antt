-- The machine values of a handle. Assumes `Logic`.
use Rattle.std.proofs.Common.{◌≡◌, ℕ, List, [], ◌∷◌, ◌++◌, refl, subst}
use mathlib.Core.Bool.{Bool, true, false}
use seplogic.Ra.Ura.{Ura}
use mir.Val.{Val, vbool, vstruct, of_list}
use mir.Raw.{raw as bare}
use base.Logic.{never, never_e, fst∗}
use base.Fml.{ftrue}
use types.Logic.{Logic, sem}
use types.Kit.{Item, Goal, Seq, Step, step, ‵, given, ◌$◌, use1, learn, drop, fsplit, fjoin, fpick, fpack, feq_i, feq_l}
use denote.RattleType.{RattleType, Valss}
use denote.Builtin.{RawPtr, bool}
use denote.Memory.{lone}
use denote.RawPtr.{Ptr, block_ptr, null_ptr, ptr_val, in_a_block}
use denote.Steps.{nothing}
use denote.Struct.Struct.{within}
use denote.Struct.Owning.{shape}
use Rattle.std.specs.declared.option.Option.{Option}
use Rattle.std.specs.declared.option.Option.TheVariants.{None, Some}
use Rattle.std.specs.Box.Ownership.{box_owns}
use Rattle.std.specs.contracts.impls.GlobalAllocator.TheImpl.{ghosts}
use Rattle.hk_handle.specs.Holding.{heap, holds}
pub use Rattle.hk_handle.specs.contracts.replica.Replica.{the_row as Row}
use Rattle.hk_handle.specs.contracts.handle.Handle as handle
use Rattle.hk_handle.proofs.Values.{both}

abbrev pub Handle : RattleType
Handle = handle.the_row

abbrev pub made : Ptr → Bool → Option Row.Denot → Handle.Denot
made p live s = record { at = p; live = live; replica = s }

module _ {M : Type 1} {𝓤 : Ura M} {𝓛 : Logic 𝓤} {K : Type 0} {Γ : List (Item 𝓤)} {G : Goal 𝓤 𝓛.H} where
  pub handle_in : K → (p : Ptr) (live : Bool) (s : Option Row.Denot)
      → Step K 𝓛 (‵ (Handle.own_val (made p live s) (both (ptr_val p) (vbool live) ∷ [])) ∷ Γ) G (‵ (holds Row p live s) ∷ Γ) G
  handle_in t p live s = step (λ k. let v : Val = both (ptr_val p) (vbool live) in
      nothing t $ feq_i t (List Val) (vbool live ∷ []) (vbool live ∷ []) refl $ fjoin t $ feq_i t (List Val) (ptr_val p ∷ []) (ptr_val p ∷ []) refl $ fjoin t $ feq_i t (List Val) (v ∷ []) (v ∷ []) refl $ fjoin t $
      fpack t (Valss (RawPtr ∷ bool ∷ [])) (within (shape handle.the_type) (p, (live, tt)) (v ∷ [])) (ptr_val p ∷ [], (vbool live ∷ [], tt)) $ fjoin t $ k)

  pub handle_out : K → (d : Handle.Denot) (vs : List Val)
      → (vs ≡ both (ptr_val d.at) (vbool d.live) ∷ [] → Seq K 𝓛 (‵ (holds Row d.at d.live d.replica) ∷ Γ) G)
      → Seq K 𝓛 (‵ (Handle.own_val d vs) ∷ Γ) G
  handle_out t d vs k =
      fsplit t $ fpick t (λ vss. fsplit t $ feq_l t (λ ev. fsplit t $ feq_l t (λ ep. fsplit t $ feq_l t (λ eb. drop t $ k
      (subst (λ (bs : List Val). vs ≡ vstruct (of_list (ptr_val d.at ∷ (bs ++ []))) ∷ []) eb
      (subst (λ (ps : List Val). vs ≡ vstruct (of_list (ps ++ (vss.1.0 ++ []))) ∷ []) ep ev))))))

  -- a handle that owns nothing, or one that owns a box
  pub either : K → (p : Ptr) (live : Bool) (s : Option Row.Denot)
      → (live ≡ false → s ≡ None → Seq K 𝓛 Γ G)
      → ((b o : ℕ) (x : Row.Denot) → p ≡ block_ptr b o → live ≡ true → s ≡ Some x → Seq K 𝓛 (‵ (box_owns (ghosts.dealloc_token heap) Row (block_ptr b o) x) ∷ Γ) G)
      → Seq K 𝓛 (‵ (holds Row p live s) ∷ Γ) G
  either t p false None off on = drop t $ off refl refl
  either t p true (Some x) off on = in_a_block t p (λ q. box_owns (ghosts.dealloc_token heap) Row q x) (fst∗ 𝓤 (never 𝓤) (sem 𝓛 (ghosts.dealloc_token heap (bare (lone Row.mir)) null_ptr))) (λ b o e. on b o x e refl refl)
  either t p true None off on = use1 𝓛 (given ⊥ (‵ ftrue)) (never_e 𝓤 _) $ learn t (λ z. absurd z)
  either t p false (Some x) off on = use1 𝓛 (given ⊥ (‵ ftrue)) (never_e 𝓤 _) $ learn t (λ z. absurd z)
