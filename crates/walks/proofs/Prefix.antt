-- An array in a local, and its first elements lent as a slice for one call.
--     array_stored       the cell of an array of plain data that stands there:  the array in memory
--     array_read         and back: the cell, with the machine value that stands for the array
--     front_lent         the first k elements of an array in memory are lent for a lifetime α that is made:  a `&α mut [T]`, α's token, and what the
--                        lender keeps, which is the right to have the memory back, and the elements behind
--     front_back         the token and the last elements:  the array in memory, with these before the elements behind
--     each_into          what is said of an array's elements is said of them as a struct's field has them
-- Assumes `Logic`.
use mathlib.Core.Path.{◌≡◌, refl, sym, ◌∙◌}
use Prim.Native.Nat.{ℕ}
use mathlib.Core.List.{List, [], ◌∷◌, ◌++◌, map}
use lib.ListN.{length, take, drop as behind, take-append-drop}
use seplogic.Ra.Ura.{Ura}
use base.Fraction.{full_share}
use mir.Syntax.{Lifetime, ty_array}
use mir.Val.{Val}
use base.Fml.{Fml, GName, fsep, fat, flft, flent}
use types.Logic.{Logic}
use types.Kit.{Goal, Soaks, Item, ‵, ◌⊛◌, Seq, Step, step, ◌$◌, move, drop, use1, use2, split, rewrite, fsplit, fjoin, fpick, fpack, feq_i}
use types.SemTy.{cells}
use types.Share.{arr_parts}
use denote.RattleType.{RattleType}
use denote.Shadow.{shadow}
use denote.Laws.{Is, Makes, shows}
use denote.Memory.{cell_at, lone, part_at, mem, shares, part_of}
use denote.Array.{Array, each, array_val, Array-Makes}
use denote.ArrayMemory.{Single, Array-apart, Array-whole}
use denote.Slice.{Room, finally}
use denote.Lend.{Held}
use denote.Index.{row, whole_in, whole_out}
use denote.Steps.{owned, facts}
use borrow.Table.Elements.{at, cut_app, join_app, same_len}
use Rattle.walks.proofs.Slices.{SliceLoan, loaned_slice, ended_slice}

pub each_into : {X Y : Type 0} (into : X → Y) (f : Y → List Val → Fml) (xs : List X) (us : List Val)
    → shadow (each X (λ x. f (into x)) xs us) → shadow (each Y f (map into xs) us)
each_into into f [] [] s = s
each_into into f [] (u ∷ us) s = s
each_into into f (x ∷ xs) [] s = s
each_into into f (x ∷ xs) (u ∷ us) s = (s.0, each_into into f xs us s.1)

-- the elements behind the first k, where they lie
abbrev pub Behind : (R : RattleType) → List R.Denot → (k b o : ℕ) → Fml
Behind R xs k b o = cells (mem R) (behind k xs) b (at o (mem R).size (length (take k xs)))

module _ {M : Type 1} {𝓤 : Ura M} {𝓛 : Logic 𝓤} {K : Type 0} {Γ : List (Item 𝓤)} where
  open 𝓛 use {H}

  module _ {G : Goal 𝓤 H} (t : K) (R : RattleType) (n : ℕ) (b o : ℕ) where
    pub array_stored : Makes 𝓛 R (Is R) → (xs : List R.Denot) (v : Val) → Is (Array R n) xs (v ∷ [])
        → Step K 𝓛 (‵ (part_at (Array R n) full_share xs b o) ∷ Γ) G (‵ (fat full_share (ty_array (lone R.mir) n) b o v) ∷ Γ) G
    unfolding part_of
    array_stored mk xs v is = step (λ s.
        use1 𝓛 (‵ (cell_at full_share (Array R n).mir (v ∷ []) b o)) (𝓛.laws.at_raw full_share (ty_array (lone R.mir) n) b o v) $
        owned t (Array R n) (Is (Array R n)) (Array-Makes 𝓛 R mk n) xs (v ∷ []) is $ move t (1 ∷ 0 ∷ []) $ fjoin t $
        fpack t (List Val) (λ vs. fsep (cell_at full_share (Array R n).mir vs b o) ((Array R n).own_val xs vs)) (v ∷ []) $ s)

    pub array_read : (xs : List R.Denot)
        → ((us : List Val) → Is (Array R n) xs (array_val us ∷ [])
        → Seq K 𝓛 (‵ (fat full_share (ty_array (lone R.mir) n) b o (array_val us)) ∷ Γ) G)
        → Seq K 𝓛 (‵ (part_at (Array R n) full_share xs b o) ∷ Γ) G
    unfolding part_of
    array_read xs c =
        fpick t (λ vs. fsplit t $ move t (1 ∷ []) $ facts t (Array R n) (Is (Array R n)) (shows 𝓛 (Array R n)) xs vs (λ p.
        rewrite t 0 (λ (ws : List Val). ‵ (cell_at full_share (Array R n).mir ws b o)) p.1.0.0 refl $
        use1 𝓛 (‵ (fat full_share (ty_array (lone R.mir) n) b o (array_val p.0)))
        (𝓛.laws.raw_at full_share (ty_array (lone R.mir) n) b o (array_val p.0)) $
        c p.0 (p.0, ((refl, p.1.0.1), p.1.1))))

    pub front_lent : Soaks G → Single R.mir → (ℓ : Lifetime) (xs : List R.Denot) (k : ℕ) → Room R (length (take k xs))
        → ((α : ℕ) (γ : GName) → Seq K 𝓛 (‵ (SliceLoan ℓ R α γ b o (take k xs)) ∷ ‵ (flft (α ∷ []) full_share)
        ∷ ‵ (flent (α ∷ []) (Held R (length (take k xs)) b o γ)) ∷ ‵ (Behind R xs k b o) ∷ Γ) G)
        → Seq K 𝓛 (‵ (part_at (Array R n) full_share xs b o) ∷ Γ) G
    front_lent z one ℓ xs k room c =
        use1 𝓛 (‵ ((arr_parts (shares R) n).part full_share xs b o)) (Array-apart 𝓛 R full_share one n xs b o) $ fsplit t $ drop t $
        use1 𝓛 (‵ (cells (mem R) xs b o)) (whole_in 𝓛 R xs b o) $
        rewrite t 0 (λ (l : List R.Denot). ‵ (cells (mem R) l b o)) (sym (take-append-drop k xs)) refl $
        use1 𝓛 (‵ (cells (mem R) (take k xs) b o) ⊛ ‵ (Behind R xs k b o)) (cut_app 𝓛 (mem R) (take k xs) (behind k xs) b o) $ split t $
        use1 𝓛 (‵ (row R full_share (take k xs) b o)) (whole_out 𝓛 R (take k xs) b o) $
        loaned_slice t z ℓ R (take k xs) b o room c

    pub front_back : Soaks G → (xs zs : List R.Denot) (k : ℕ) → length zs ≡ length (take k xs) → length xs ≡ n → {α : ℕ} {γ : GName}
        → Step K 𝓛 (‵ (part_at (Array R n) full_share (zs ++ behind k xs) b o) ∷ Γ) G
        (‵ (flft (α ∷ []) full_share) ∷ ‵ (finally R γ zs) ∷ ‵ (flent (α ∷ []) (Held R (length (take k xs)) b o γ))
        ∷ ‵ (Behind R xs k b o) ∷ Γ) G
    front_back z xs zs k as_many long = step (λ s.
        ended_slice t z R (length (take k xs)) zs b o $ use1 𝓛 (‵ (cells (mem R) zs b o)) (whole_in 𝓛 R zs b o) $
        rewrite t 1 (λ (m : ℕ). ‵ (cells (mem R) (behind k xs) b (at o (mem R).size m))) (sym as_many) refl $
        use2 𝓛 (‵ (cells (mem R) (zs ++ behind k xs) b o)) (join_app 𝓛 (mem R) zs (behind k xs) b o) $
        use1 𝓛 (‵ (row R full_share (zs ++ behind k xs) b o)) (whole_out 𝓛 R (zs ++ behind k xs) b o) $
        feq_i t ℕ (length (zs ++ behind k xs)) n (same_len k xs zs as_many ∙ long) $ fjoin t $
        use1 𝓛 (‵ (part_at (Array R n) full_share (zs ++ behind k xs) b o)) (Array-whole 𝓛 R full_share n (zs ++ behind k xs) b o) $ s)
