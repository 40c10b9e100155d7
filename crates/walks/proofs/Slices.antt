-- Elements that lie in memory, lent as a slice for one call.
--     loaned_slice       they are lent for a lifetime α that is made:  a `&α mut [T]`, α's token, and what the lender keeps
--     ended_slice        the token and the last elements:  they lie there again
-- Assumes `Logic`.
use Prim.Native.Nat.{ℕ}
use mathlib.Core.List.{List, [], ◌∷◌}
use lib.ListN.{length}
use seplogic.Ra.Ura.{Ura}
use base.Fraction.{full_share}
use mir.Syntax.{Lifetime}
use base.Fml.{Fml, GName, flft, flent}
use types.Logic.{Logic}
use types.Kit.{Goal, Soaks, Item, ‵, ◌⊛◌, some, later, Seq, Step, step, ◌$◌, move, drop, use1, use3, split, pick, await, fsplit}
use types.Tokens.{lft_new, lft_end}
use types.SemTy.{cells, Arr}
use denote.RattleType.{RattleType}
use denote.Memory.{mem}
use denote.Slice.{slice_val, MutSlice, Room, finally}
use denote.Lend.{Held, lends_slice, slice_back}
use denote.Index.{row, whole_in, whole_out}

-- what is owned of the loan of ys, for α under γ
abbrev pub SliceLoan : Lifetime → (R : RattleType) → ℕ → GName → ℕ → ℕ → List R.Denot → Fml
SliceLoan ℓ R α γ b o ys = (MutSlice ℓ (α ∷ []) R).own_val (record { ref_ptr = (b, o); ghost_name = γ; now = ys }) (slice_val (b, o) (length ys) ∷ [])

module _ {M : Type 1} {𝓤 : Ura M} {𝓛 : Logic 𝓤} {K : Type 0} {Γ : List (Item 𝓤)} where
  open 𝓛 use {H}

  module _ {G : Goal 𝓤 H} where
    pub loaned_slice : K → Soaks G → (ℓ : Lifetime) (R : RattleType) (ys : List R.Denot) (b o : ℕ) → Room R (length ys)
        → ((α : ℕ) (γ : GName)
        → Seq K 𝓛 (‵ (SliceLoan ℓ R α γ b o ys) ∷ ‵ (flft (α ∷ []) full_share) ∷ ‵ (flent (α ∷ []) (Held R (length ys) b o γ)) ∷ Γ) G)
        → Seq K 𝓛 (‵ (row R full_share ys b o) ∷ Γ) G
    loaned_slice t z ℓ R ys b o room c =
        use1 𝓛 (‵ (cells (mem R) ys b o)) (whole_in 𝓛 R ys b o) $ lft_new t z (λ α. move t (1 ∷ []) $
        use1 𝓛 (later (some (λ (γ : GName). ‵ (SliceLoan ℓ R α γ b o ys) ⊛ ‵ (flent (α ∷ []) (Held R (length ys) b o γ)))))
        (lends_slice 𝓛 R ℓ (α ∷ []) ys b o room) $ await t z $ pick t (λ γ. split t $ move t (0 ∷ 2 ∷ 1 ∷ []) $ c α γ))

    pub ended_slice : K → Soaks G → (R : RattleType) (n : ℕ) (zs : List R.Denot) (b o : ℕ) {α : ℕ} {γ : GName}
        → Step K 𝓛 (‵ (row R full_share zs b o) ∷ Γ) G
        (‵ (flft (α ∷ []) full_share) ∷ ‵ (finally R γ zs) ∷ ‵ (flent (α ∷ []) (Held R n b o γ)) ∷ Γ) G
    ended_slice t z R n zs b o {α} {γ} = step (λ s.
        lft_end t z $ move t (0 ∷ 2 ∷ 1 ∷ []) $ use3 𝓛 (later (‵ ((Arr (mem R) n).own_at zs b o))) (slice_back 𝓛 R (α ∷ []) γ zs n b o) $
        await t z $ fsplit t $ drop t $ use1 𝓛 (‵ (row R full_share zs b o)) (whole_out 𝓛 R zs b o) $ s)
