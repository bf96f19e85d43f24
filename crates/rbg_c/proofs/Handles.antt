-- The machine values of a `Handle`, and what it holds. Assumes `Logic`.
use Rattle.std.proofs.Common.{◌≡◌, ℕ, ◌^◌, ◌<◌, List, [], ◌∷◌, ◌++◌, refl, sym, subst, lit<}
use Rattle.std.specs.Prelude.{Option, None, Some}
use seplogic.Ra.Ura.{Ura}
use mir.Raw.{raw as bare}
use mir.Val.{Val, vstruct, vcons, vnil, of_list}
use base.Logic.{ent, guard, guard_i, via, never, fst∗, snd∗}
use contract.Monad.{fact, fact_use, fact_mono}
use types.Logic.{Logic, sem}
use types.Kit.{Item, Goal, Seq, Step, step, given, ‵, ◌$◌, drop, learn, fsplit, fjoin, fpick, fpack, feq_i, feq_l, use1}
use denote.RattleType.{RattleType, Valss}
use denote.Builtin.{RawPtr}
use denote.Memory.{lone}
use denote.RawPtr.{Ptr, block_ptr, null_ptr, ptr_val, count_of, in_a_block, Testable}
use denote.Steps.{nothing}
use denote.Struct.Struct.{within}
use denote.Struct.Owning.{shape}
use Rattle.libc.specs.Heap.{chunk, chunk_start}
use Rattle.core.specs.Ptr.{points_to}
use Rattle.std_alloc.specs.Box.Ownership.{box_owns}
use Rattle.rbg_c.specs.Held.{held}
use Rattle.rbg_c.specs.States.{AbstractState}
use Rattle.rbg_c.specs.contracts.state.State.{the_row as Row}
use Rattle.rbg_c.specs.contracts.handle.Handle as handle

abbrev pub one : Val → Val
one v = vstruct (vcons v vnil)

abbrev pub Hd : RattleType
Hd = handle.the_row

module _ {M : Type 1} {𝓤 : Ura M} (𝓛 : Logic 𝓤) (p : Ptr) (x : AbstractState) where
  -- the start of a block may be compared with null
  pub tested : ent 𝓤 (sem 𝓛 (box_owns chunk Row p x)) (guard 𝓤 (Testable p) (sem 𝓛 (box_owns chunk Row p x)))
  tested = let τ = bare (lone Row.mir) in
      fact_use 𝓤 (Testable p) (via 𝓤 (sem 𝓛 (chunk τ p)) (snd∗ 𝓤 (sem 𝓛 (points_to Row p x)) (sem 𝓛 (chunk τ p)))
      (via 𝓤 (fact 𝓤 (count_of p ≡ 0)) (chunk_start 𝓛 τ p) (fact_mono 𝓤 (count_of p ≡ 0) (Testable p) (λ e. subst (λ (k : ℕ). k < 2 ^ 63) (sym e) (lit< tt)))))
      (guard_i 𝓤 (Testable p) (sem 𝓛 (box_owns chunk Row p x)))

module _ {M : Type 1} {𝓤 : Ura M} {𝓛 : Logic 𝓤} {K : Type 0} {Γ : List (Item 𝓤)} {G : Goal 𝓤 𝓛.H} where
  -- what is held is nothing, at null, or a value in a block
  pub either_held : K → (p : Ptr) (v : Option AbstractState)
      → (v ≡ None → p ≡ null_ptr → Seq K 𝓛 Γ G)
      → ((b o : ℕ) (x : AbstractState) → v ≡ Some x → p ≡ block_ptr b o → Testable (block_ptr b o) → Seq K 𝓛 (‵ (box_owns chunk Row (block_ptr b o) x) ∷ Γ) G)
      → Seq K 𝓛 (‵ (held p v) ∷ Γ) G
  either_held t p None empty full = feq_l t (λ e. empty refl e)
  either_held t p (Some x) empty full =
      in_a_block t p (λ (q : Ptr). box_owns chunk Row q x) (fst∗ 𝓤 (never 𝓤) (sem 𝓛 (chunk (bare (lone Row.mir)) null_ptr))) (λ b o e.
      use1 𝓛 (given (Testable (block_ptr b o)) (‵ (box_owns chunk Row (block_ptr b o) x))) (tested 𝓛 (block_ptr b o) x) $ learn t (λ may. full b o x refl e may))

  -- a handle by value is its pointer, and what it holds
  pub handle_out : K → (d : Hd.Denot) (vs : List Val) → (vs ≡ one (ptr_val d.inside) ∷ [] → Seq K 𝓛 (‵ (held d.inside d.value) ∷ Γ) G) → Seq K 𝓛 (‵ (Hd.own_val d vs) ∷ Γ) G
  handle_out t d vs k =
      fsplit t $ fpick t (λ vss. fsplit t $ feq_l t (λ ev. fsplit t $ feq_l t (λ ep. drop t $
      k (subst (λ (ps : List Val). vs ≡ vstruct (of_list (ps ++ [])) ∷ []) ep ev))))

  pub handle_in : K → (p : Ptr) (v : Option AbstractState) → Step K 𝓛 (‵ (Hd.own_val (record { inside = p; value = v }) (one (ptr_val p) ∷ [])) ∷ Γ) G (‵ (held p v) ∷ Γ) G
  handle_in t p v = step (λ s. let w : Val = one (ptr_val p) in
      nothing t $ feq_i t (List Val) (ptr_val p ∷ []) (ptr_val p ∷ []) refl $ fjoin t $ feq_i t (List Val) (w ∷ []) (w ∷ []) refl $ fjoin t $
      fpack t (Valss (RawPtr ∷ [])) (within (shape handle.the_type) (p, tt) (w ∷ [])) (ptr_val p ∷ [], tt) $ fjoin t $ s)
