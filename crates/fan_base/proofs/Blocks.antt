-- A room or a block by value is [what lies in memory; the right to free it; the allocator].
--     D, B, V               a block as contracts see it; a block and a room as the logic's types
--     block_ty, room_ty     their types in the MIR.        word     the machine value of either, at the allocator's
--     room_out, room_in     a room taken apart, and made.        block_out, block_in     the same for a block
use mathlib.Core.Path.{◌≡◌, refl, subst}
use Prim.Native.Nat.{ℕ}
use mathlib.Core.List.{List, [], ◌∷◌, ◌++◌}
use seplogic.Ra.Ura.{Ura}
use lib.Dec.{T}
use mir.Syntax.{Ty, ty_ptr, ty_struct, tcons, tnil}
use mir.Val.{Val, vptr, vstruct, vcons, vnil, of_list, has_ty, WT}
use mir.Raw.{raw as bare}
use base.Fraction.{full_share}
use base.Logic.{fst∗, never}
use base.Fml.{froom}
use types.Logic.{Logic, sem}
use types.Kit.{Item, Goal, Seq, Step, step, ‵, ◌$◌, move, drop, fsplit, fjoin, fpick, fpack, feq_l, feq_i}
use denote.RattleType.{RattleType, Valss}
use denote.Memory.{part_at}
use denote.RawPtr.{Ptr, RawPtr, block_ptr, null_ptr, ptr_val, in_a_block}
use denote.Steps.{nothing}
use denote.Struct.Struct.{within}
use denote.Struct.Owning.{Owning, shape}
use Rattle.std.proofs.alloc.Calls.{α, token, Fits, handle_tells}
use Rattle.std.proofs.BoxSteps.Form.{Bx, X, τ, R, P, handle}
use Rattle.std.proofs.ResultValues.{and_tt}
use Rattle.fan_base.specs.Block.{block_owns, room_owns}
use Rattle.fan_base.specs.declared.parcel.block.Block.{Block}
use Rattle.fan_base.specs.contracts.parcel.block.Block as block
use Rattle.fan_base.specs.contracts.parcel.block.Room as room

module _ (E : Bx) where
  abbrev pub D : Type 0
  D = Block (X E) E.al.row.Denot

  abbrev pub block_owning : Owning
  block_owning = block.the_type (R E) (P E) E.al.g

  abbrev pub B : RattleType
  B = block.the_row (R E) (P E) E.al.g

  abbrev pub room_owning : Owning
  room_owning = room.the_type (R E) (P E) E.al.g

  abbrev pub V : RattleType
  V = room.the_row (R E) (P E) E.al.g

  abbrev pub block_ty : Ty
  block_ty = ty_struct block_owning.name (tcons ty_ptr (tcons (α E.al) tnil))

  abbrev pub room_ty : Ty
  room_ty = ty_struct room_owning.name (tcons ty_ptr (tcons (α E.al) tnil))

  -- the two words of either
  abbrev pub word : Val → ℕ → ℕ → Val
  word hv b o = vstruct (vcons (vptr b o) (vcons hv vnil))

  pub block_typed : (hv : Val) (b o : ℕ) → Fits E.al hv → T (has_ty block_ty (word hv b o)) × WT (word hv b o)
  block_typed hv b o fa = (and_tt (has_ty (α E.al) hv) fa.0, (tt, (fa.1, tt)))

  pub room_typed : (hv : Val) (b o : ℕ) → Fits E.al hv → T (has_ty room_ty (word hv b o)) × WT (word hv b o)
  room_typed hv b o fa = (and_tt (has_ty (α E.al) hv) fa.0, (tt, (fa.1, tt)))

  module _ {M : Type 1} {𝓤 : Ura M} {𝓛 : Logic 𝓤} {K : Type 0} {Γ : List (Item 𝓤)} {G : Goal 𝓤 𝓛.H} where
    pub room_out : K → (d : V.Denot) (vs : List Val)
        → ((b o : ℕ) (hv : Val) → d.ptr ≡ block_ptr b o → vs ≡ word hv b o ∷ [] → Fits E.al hv
        → Seq K 𝓛 (‵ (froom (bare (τ E)) b o) ∷ ‵ (token E.al d.alloc (bare (τ E)) (block_ptr b o)) ∷ ‵ (E.al.row.own_val d.alloc (hv ∷ [])) ∷ Γ) G)
        → Seq K 𝓛 (‵ (V.own_val d vs) ∷ Γ) G
    room_out t d vs k =
        fsplit t $ fpick t (λ vss. fsplit t $ feq_l t (λ ev. fsplit t $ feq_l t (λ ep. fsplit t $ handle_tells E.al t d.alloc vss.1.0 (λ hv ea fa. move t (1 ∷ []) $ drop t $ move t (1 ∷ []) $
        in_a_block t d.ptr (room_owns (token E.al d.alloc) (R E)) (fst∗ 𝓤 (never 𝓤) (sem 𝓛 (token E.al d.alloc (bare (τ E)) null_ptr))) (λ b o e. fsplit t $ k b o hv e
        (subst (λ (p : Ptr). vs ≡ vstruct (of_list (ptr_val p ∷ hv ∷ [])) ∷ []) e
        (subst (λ (ws : List Val). vs ≡ vstruct (of_list (ptr_val d.ptr ∷ (ws ++ []))) ∷ []) ea (subst (λ (ps : List Val). vs ≡ vstruct (of_list (ps ++ (vss.1.0 ++ []))) ∷ []) ep ev))) fa)))))

    pub room_in : K → {hv : Val} (a : E.al.row.Denot) (b o : ℕ)
        → Step K 𝓛 (‵ (V.own_val (record { ptr = block_ptr b o; alloc = a }) (word hv b o ∷ [])) ∷ Γ) G (‵ (froom (bare (τ E)) b o) ∷ ‵ (token E.al a (bare (τ E)) (block_ptr b o)) ∷ ‵ (E.al.row.own_val a (hv ∷ [])) ∷ Γ) G
    room_in t {hv} a b o = step (λ s.
        fjoin t $ nothing t $ move t (2 ∷ 0 ∷ []) $ fjoin t $ feq_i t (List Val) (vptr b o ∷ []) (vptr b o ∷ []) refl $ fjoin t $
        feq_i t (List Val) (word hv b o ∷ []) (word hv b o ∷ []) refl $ fjoin t $
        fpack t (Valss (RawPtr ∷ P E ∷ [])) (within (shape room_owning) (block_ptr b o, (a, tt)) (word hv b o ∷ [])) (vptr b o ∷ [], (hv ∷ [], tt)) $ fjoin t $ s)

    pub block_out : K → (d : D) (vs : List Val)
        → ((b o : ℕ) (hv : Val) → d.ptr ≡ block_ptr b o → vs ≡ word hv b o ∷ [] → Fits E.al hv
        → Seq K 𝓛 (‵ (part_at (R E) full_share d.value b o) ∷ ‵ (token E.al d.alloc (bare (τ E)) (block_ptr b o)) ∷ ‵ (handle E d.alloc hv) ∷ Γ) G)
        → Seq K 𝓛 (‵ (B.own_val d vs) ∷ Γ) G
    block_out t d vs k =
        fsplit t $ fpick t (λ vss. fsplit t $ feq_l t (λ ev. fsplit t $ feq_l t (λ ep. fsplit t $ handle_tells E.al t d.alloc vss.1.0 (λ hv ea fa. move t (1 ∷ []) $ drop t $ move t (1 ∷ []) $
        in_a_block t d.ptr (λ p. block_owns (token E.al d.alloc) (R E) p d.value) (fst∗ 𝓤 (never 𝓤) (sem 𝓛 (token E.al d.alloc (bare (τ E)) null_ptr))) (λ b o e. fsplit t $ k b o hv e
        (subst (λ (p : Ptr). vs ≡ vstruct (of_list (ptr_val p ∷ hv ∷ [])) ∷ []) e
        (subst (λ (ws : List Val). vs ≡ vstruct (of_list (ptr_val d.ptr ∷ (ws ++ []))) ∷ []) ea (subst (λ (ps : List Val). vs ≡ vstruct (of_list (ps ++ (vss.1.0 ++ []))) ∷ []) ep ev))) fa)))))

    pub block_in : K → {hv : Val} (a : E.al.row.Denot) (b o : ℕ) (x : X E)
        → Step K 𝓛 (‵ (B.own_val (record { ptr = block_ptr b o; alloc = a; value = x }) (word hv b o ∷ [])) ∷ Γ) G (‵ (part_at (R E) full_share x b o) ∷ ‵ (token E.al a (bare (τ E)) (block_ptr b o)) ∷ ‵ (handle E a hv) ∷ Γ) G
    block_in t {hv} a b o x = step (λ s.
        fjoin t $ nothing t $ move t (2 ∷ 0 ∷ []) $ fjoin t $ feq_i t (List Val) (vptr b o ∷ []) (vptr b o ∷ []) refl $ fjoin t $
        feq_i t (List Val) (word hv b o ∷ []) (word hv b o ∷ []) refl $ fjoin t $
        fpack t (Valss (RawPtr ∷ P E ∷ [])) (within (shape block_owning) (block_ptr b o, (a, tt)) (word hv b o ∷ [])) (vptr b o ∷ [], (hv ∷ [], tt)) $ fjoin t $ s)
