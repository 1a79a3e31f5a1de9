-- The machine values of a `Handle`, and of a `Loose` at the heap. Assumes `Logic`.
use Rattle.std.proofs.Common.{◌≡◌, ℕ, List, [], ◌∷◌, ◌++◌, refl, sym, subst}
use lib.Dec.{T}
use seplogic.Ra.Ura.{Ura}
use mir.Raw.{raw as bare}
use mir.Val.{Val, vptr, vstruct, vcons, vnil, of_list}
use base.Logic.{never, fst∗}
use types.Logic.{Logic, sem}
use types.Kit.{Item, Goal, Seq, Step, step, ‵, ◌$◌, drop, fsplit, fjoin, fpick, fpack, rewrite, feq_i, feq_l}
use denote.RattleType.{RattleType, Valss}
use denote.Builtin.{RawPtr}
use denote.Memory.{lone}
use denote.RawPtr.{Ptr, block_ptr, null_ptr, ptr_val, in_a_block}
use denote.Steps.{nothing}
use denote.Struct.Struct.{within}
use denote.Struct.Owning.{shape}
use Rattle.std_alloc.specs.Box.Ownership.{box_owns}
use Rattle.std.specs.Prelude.{Option, None, Some, IsSome}
use Rattle.h3_c.specs.Held.{held, freed}
use Rattle.h3_c.specs.contracts.handle.Handle as handle
use Rattle.h3_c.specs.contracts.connection.Connection as connection

pub case_some {ℓ} : {A : Type 0} {B : Type ℓ} (o : Option A) → IsSome o → ((x : A) → o ≡ Some x → B) → B
case_some None i k = absurd (subst T (sym i) tt)
case_some (Some x) i k = k x refl

abbrev pub alone : Val → Val
alone v = vstruct (vcons v vnil)

abbrev pub R : RattleType
R = connection.the_row

abbrev pub Owned : Ptr → R.Denot → base.Fml.Fml
Owned p x = box_owns freed R p x

module _ {M : Type 1} {𝓤 : Ura M} {𝓛 : Logic 𝓤} {K : Type 0} {Γ : List (Item 𝓤)} {G : Goal 𝓤 𝓛.H} where
  pub handle_out : K → (d : (handle.the_row).Denot) (x : R.Denot) → d.value ≡ Some x → (vs : List Val)
      → ((b o : ℕ) → vs ≡ alone (vptr b o) ∷ [] → Seq K 𝓛 (‵ (Owned (block_ptr b o) x) ∷ Γ) G)
      → Seq K 𝓛 (‵ ((handle.the_row).own_val d vs) ∷ Γ) G
  unfolding held
  handle_out t d x is vs k =
      fsplit t $ fpick t (λ vss. fsplit t $ feq_l t (λ ev. fsplit t $ feq_l t (λ ep. drop t $
      rewrite t 0 (λ (y : _). ‵ (held R d.at y)) is refl $
      in_a_block t d.at (λ p. Owned p x) (fst∗ 𝓤 (never 𝓤) (sem 𝓛 (freed (bare (lone R.mir)) null_ptr))) (λ b o e. k b o
      (subst (λ (p : Ptr). vs ≡ vstruct (of_list (ptr_val p ∷ [])) ∷ []) e
      (subst (λ (ps : List Val). vs ≡ vstruct (of_list (ps ++ [])) ∷ []) ep ev))))))

  pub handle_in : K → (b o : ℕ) (x : R.Denot)
      → Step K 𝓛 (‵ ((handle.the_row).own_val (record { at = block_ptr b o; value = Some x }) (alone (vptr b o) ∷ [])) ∷ Γ) G (‵ (Owned (block_ptr b o) x) ∷ Γ) G
  unfolding held
  handle_in t b o x = step (λ s. let v : Val = alone (vptr b o) in
      nothing t $ feq_i t (List Val) (vptr b o ∷ []) (vptr b o ∷ []) refl $ fjoin t $ feq_i t (List Val) (v ∷ []) (v ∷ []) refl $ fjoin t $
      fpack t (Valss (RawPtr ∷ [])) (within (shape handle.the_type) (block_ptr b o, tt) (v ∷ [])) (vptr b o ∷ [], tt) $ fjoin t $ s)
