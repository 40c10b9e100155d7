-- What a walk needs to lend two fields of one struct at once, both arrays of unsigned integers, the one before the other. `Lent.antt` lends one field.
--     two_out            a struct's place is the places of two of its fields, and a wand that takes them back, the one and then the other, with
--                        whatever they then hold
--     lent_two_mut       the two fields are lent out of the struct's cell, for lifetimes α and β that are made:  a `&α mut [T; n]`, a `&β mut [U; m]`,
--                        the two tokens, and what the lender keeps
--     back_two_mut       the tokens and the last values:  the cell with those values in the fields
--     lent_two_shr, back_two_shr     the same as `&α [T; n]` and `&β [U; m]`, at any share of the cell
-- Assumes `Logic`.
use mathlib.Core.Path.{◌≡◌, subst}
use Prim.Native.Nat.{ℕ, zero, suc, ◌+◌, ◌<◌}
use native.Mathlib.Nat.{le_of_suc-le-suc, not-suc-le-zero}
use mathlib.Core.List.{List, [], ◌∷◌}
use mathlib.Core.Option.{some as just, none-ne-some, some-injective}
use seplogic.Ra.Ura.{Ura}
use base.Fraction.{full_share}
use mir.Syntax.{Sym, Ty, Tys, tnil, tcons, Width, ty_int, ty_array, ty_struct}
use mir.Val.{Val, Vals, vnil, vcons, vstruct}
use mir.Fields.{get_v, set_v}
use base.Logic.{SProp, ent, sep, wand, all, via, mono_r, comm∗, all_e, apply∗, never_e}
use base.Fml.{GName, Share, fat, flft, flent, fres}
use prog.Memory.{size, align, up, field_at}
use prog.Model.{fields_at}
use prog.Fields.{fields_pick}
use prog.Wp.{Heap}
use types.Logic.{Logic}
use types.Kit.{Goal, Soaks, Item, ‵, raw, ◌⊛◌, Seq, Step, step, ◌$◌, ◌∵◌, !, qed, move, use1, use2, split, split3, frame, each, assume, done}
use types.SemTy.{Body}
use denote.Memory.{part_at, mem}
use Rattle.walks.proofs.Lent.{words, Words, Stand, MutLoan, ShrLoan, Back, Kept, words_out, words_in, loaned_mut, ended_mut, back_mut}
use Rattle.walks.proofs.Lent.{loaned_shr, ended_shr, back_shr}

-- what is kept of a struct whose machine values are us while its fields j and k, which lie c and d bytes on, are out: once field j is back, what is
-- kept while field k is out
abbrev pub KeptTwo : {M : Type 1} (𝓤 : Ura M) (H : Heap 𝓤) → Width → ℕ → Width → ℕ → Share → Sym → Tys
    → (j c k d b o : ℕ) → Vals → SProp 𝓤
KeptTwo 𝓤 H w n v m q ν τs j c k d b o us = Back 𝓤 H w n q b (o + c) (λ x. Kept 𝓤 H v m q ν τs k d b o (set_v us j x))

-- ---- two places out of one
module _ {M : Type 1} {𝓤 : Ura M} (𝓛 : Logic 𝓤) where
  -- what takes Y back, with whatever it then holds, and gives R
  open 𝓛 use {H}

  abbrev Takes : {X : Type 0} (Y R : X → SProp 𝓤) → SProp 𝓤
  Takes {X} Y R = all 𝓤 (λ (y : X). wand 𝓤 (Y y) (R y))

  taken : {X : Type 0} (Y R : X → SProp 𝓤) (y : X) → ent 𝓤 (sep 𝓤 (Y y) (Takes Y R)) (R y)
  taken {X} Y R y =
      via 𝓤 (sep 𝓤 (Y y) (wand 𝓤 (Y y) (R y))) (mono_r 𝓤 (Y y) (all_e 𝓤 (λ (u : X). wand 𝓤 (Y u) (R u)) y)) (apply∗ 𝓤 (Y y) (R y))

  -- X at x, Y at y, and what takes X back and then Y, and gives R
  abbrev Out : (x y : Val) (X Y : Val → SProp 𝓤) (R : Val → Val → SProp 𝓤) → SProp 𝓤
  Out x y X Y R = sep 𝓤 (X x) (sep 𝓤 (Y y) (Takes X (λ x'. Takes Y (R x'))))

  -- X, beside what Y can be taken out of
  out_first : (F : SProp 𝓤) (x y : Val) (X Y G : Val → SProp 𝓤) → ent 𝓤 F (sep 𝓤 (Y y) (Takes Y G))
      → ent 𝓤 (sep 𝓤 (X x) F) (Out x y X Y (λ x' y'. sep 𝓤 (X x') (G y')))
  out_first F x y X Y G out =
      qed 𝓛 (raw (X x) ∷ raw F ∷ []) ∵ frame ! $ use1 𝓛 (raw (Y y) ⊛ raw (Takes Y G)) out $ split ! $ frame ! $
      each ! _ (λ x'. assume ! (raw (X x')) $ each ! _ (λ y'. assume ! (raw (Y y')) $
      -- [Y; X; what takes Y]
      move ! (1 ∷ []) $ frame ! $ use2 𝓛 (raw (G y')) (taken Y G y') $ done !))

  -- what X and Y can be taken out of, beside B
  out_beside : (F B : SProp 𝓤) (x y : Val) (X Y : Val → SProp 𝓤) (G R : Val → Val → SProp 𝓤) → ent 𝓤 F (Out x y X Y G)
      → ((x' y' : Val) → ent 𝓤 (sep 𝓤 (G x' y') B) (R x' y')) → ent 𝓤 (sep 𝓤 F B) (Out x y X Y R)
  out_beside F B x y X Y G R out home =
      qed 𝓛 (raw F ∷ raw B ∷ []) ∵ use1 𝓛 (raw (X x) ⊛ raw (Y y) ⊛ raw (Takes X (λ x'. Takes Y (G x')))) out $ split3 ! $ frame ! $ frame ! $
      each ! _ (λ x'. assume ! (raw (X x')) $ each ! _ (λ y'. assume ! (raw (Y y')) $
      -- [Y; X; what takes X; B]
      move ! (1 ∷ 2 ∷ []) $ use2 𝓛 (raw (Takes Y (G x'))) (taken X (λ u. Takes Y (G u)) x') $
      move ! (1 ∷ 0 ∷ []) $ use2 𝓛 (raw (G x' y')) (taken Y (G x') y') $ use2 𝓛 (raw (R x' y')) (home x' y') $ done !))

  -- of a list of fields' places, two are taken out
  fields_two : (q : Share) (τs : Tys) (e j k : ℕ) → j < k → (σ τ : Ty) (c d : ℕ)
      → field_at e τs j ≡ just (σ, c) → field_at e τs k ≡ just (τ, d)
      → (b o : ℕ) (vs : Vals) → ent 𝓤 (fields_at 𝓤 H q τs e b o vs)
      (Out (get_v vs j) (get_v vs k) (H.at q σ b (o + c)) (H.at q τ b (o + d)) (λ x y. fields_at 𝓤 H q τs e b o (set_v (set_v vs j x) k y)))
  fields_two q tnil e j k l σ τ c d at at' b o vs = absurd (none-ne-some {A = Ty × ℕ} (σ, c) at)
  fields_two q (tcons ρ τs) e j k l σ τ c d at at' b o vnil = never_e 𝓤 _
  fields_two q (tcons ρ τs) e j zero l σ τ c d at at' b o (vcons v vs) = absurd (not-suc-le-zero l)
  fields_two q (tcons ρ τs) e zero (suc k) l σ τ c d at at' b o (vcons v vs) =
      let a = up (align ρ) e in
      subst (λ (f : Ty × ℕ). ent 𝓤 (sep 𝓤 (H.at q ρ b (o + a) v) (fields_at 𝓤 H q τs (a + size ρ) b o vs))
      (Out v (get_v vs k) (H.at q f.0 b (o + f.1)) (H.at q τ b (o + d))
      (λ x y. sep 𝓤 (H.at q ρ b (o + a) x) (fields_at 𝓤 H q τs (a + size ρ) b o (set_v vs k y)))))
      (some-injective {A = Ty × ℕ} (ρ, a) (σ, c) at)
      (out_first (fields_at 𝓤 H q τs (a + size ρ) b o vs) v (get_v vs k) (H.at q ρ b (o + a)) (H.at q τ b (o + d))
      (λ y. fields_at 𝓤 H q τs (a + size ρ) b o (set_v vs k y)) (fields_pick 𝓤 H q τs (a + size ρ) k τ d at' b o vs))
  fields_two q (tcons ρ τs) e (suc j) (suc k) l σ τ c d at at' b o (vcons v vs) =
      let a = up (align ρ) e in
      let P = H.at q ρ b (o + a) v in
      let F = fields_at 𝓤 H q τs (a + size ρ) b o vs in
      via 𝓤 (sep 𝓤 F P) (comm∗ 𝓤 P F)
      (out_beside F P (get_v vs j) (get_v vs k) (H.at q σ b (o + c)) (H.at q τ b (o + d))
      (λ x y. fields_at 𝓤 H q τs (a + size ρ) b o (set_v (set_v vs j x) k y))
      (λ x y. sep 𝓤 P (fields_at 𝓤 H q τs (a + size ρ) b o (set_v (set_v vs j x) k y)))
      (fields_two q τs (a + size ρ) j k (le_of_suc-le-suc l) σ τ c d at at' b o vs)
      (λ x y. comm∗ 𝓤 (fields_at 𝓤 H q τs (a + size ρ) b o (set_v (set_v vs j x) k y)) P))

  two_out : (q : Share) (ν : Sym) (τs : Tys) (j k : ℕ) → j < k → (σ τ : Ty) (c d : ℕ)
      → field_at zero τs j ≡ just (σ, c) → field_at zero τs k ≡ just (τ, d) → (b o : ℕ) (us : Vals)
      → ent 𝓤 (H.at q (ty_struct ν τs) b o (vstruct us))
      (Out (get_v us j) (get_v us k) (H.at q σ b (o + c)) (H.at q τ b (o + d)) (λ x y. H.at q (ty_struct ν τs) b o (vstruct (set_v (set_v us j x) k y))))
  two_out q ν τs j k l σ τ c d at at' b o us =
      let F = fields_at 𝓤 H q τs zero b o in
      let R : Vals → SProp 𝓤 = λ vs. H.at q (ty_struct ν τs) b o (vstruct vs) in
      via 𝓤 (sep 𝓤 (F us) (Takes F R)) (𝓛.laws.at_fields q ν τs b o us)
      (out_beside (F us) (Takes F R) (get_v us j) (get_v us k) (H.at q σ b (o + c)) (H.at q τ b (o + d))
      (λ x y. F (set_v (set_v us j x) k y)) (λ x y. R (set_v (set_v us j x) k y)) (fields_two q τs zero j k l σ τ c d at at' b o us)
      (λ x y. taken F R (set_v (set_v us j x) k y)))

-- ---- two fields that are arrays
module _ {M : Type 1} {𝓤 : Ura M} {𝓛 : Logic 𝓤} {K : Type 0} {Γ : List (Item 𝓤)} where
  open 𝓛 use {H}

  module _ {G : Goal 𝓤 H} (t : K) (w : Width) (n : ℕ) (v : Width) (m : ℕ) (q : Share) {ν : Sym} {τs : Tys} (j c k d : ℕ) (l : j < k)
      (at : field_at zero τs j ≡ just (ty_array (ty_int w) n, c)) (at' : field_at zero τs k ≡ just (ty_array (ty_int v) m, d)) (b o : ℕ) (us : Vals) where
    arrays_out : (xs ys : List ℕ) → get_v us j ≡ words w xs → Stand w n xs → get_v us k ≡ words v ys → Stand v m ys
        → Step K 𝓛 (‵ (part_at (Words w n) q xs b (o + c)) ∷ ‵ (part_at (Words v m) q ys b (o + d))
        ∷ raw (KeptTwo 𝓤 H w n v m q ν τs j c k d b o us) ∷ Γ) G
        (‵ (fat q (ty_struct ν τs) b o (vstruct us)) ∷ Γ) G
    arrays_out xs ys e is e' is' = step (λ s.
        use1 𝓛 (‵ (fat q (ty_array (ty_int w) n) b (o + c) (get_v us j)) ⊛ ‵ (fat q (ty_array (ty_int v) m) b (o + d) (get_v us k))
        ⊛ raw (KeptTwo 𝓤 H w n v m q ν τs j c k d b o us))
        (two_out 𝓛 q ν τs j k l (ty_array (ty_int w) n) (ty_array (ty_int v) m) c d at at' b o us) $ split3 t $
        words_out t w n q b (o + c) xs e is $ move t (1 ∷ []) $ words_out t v m q b (o + d) ys e' is' $ move t (1 ∷ []) $ s)

    pub lent_two_shr : Soaks G → (xs ys : List ℕ) → get_v us j ≡ words w xs → Stand w n xs → get_v us k ≡ words v ys → Stand v m ys
        → ((α : ℕ) (γ : GName) (β : ℕ) (δ : GName) → Seq K 𝓛 (‵ (ShrLoan w n α γ b (o + c) xs) ∷ ‵ (ShrLoan v m β δ b (o + d) ys)
        ∷ ‵ (flft (α ∷ []) full_share) ∷ ‵ (flft (β ∷ []) full_share)
        ∷ ‵ (flent (α ∷ []) (part_at (Words w n) q xs b (o + c))) ∷ ‵ (flent (β ∷ []) (part_at (Words v m) q ys b (o + d)))
        ∷ raw (KeptTwo 𝓤 H w n v m q ν τs j c k d b o us) ∷ Γ) G)
        → Seq K 𝓛 (‵ (fat q (ty_struct ν τs) b o (vstruct us)) ∷ Γ) G
    lent_two_shr z xs ys e is e' is' f =
        arrays_out xs ys e is e' is' $ loaned_shr t w n q b (o + c) z xs (λ α γ. move t (3 ∷ []) $ loaned_shr t v m q b (o + d) z ys (λ β δ.
        move t (3 ∷ 0 ∷ 4 ∷ 1 ∷ 5 ∷ 2 ∷ []) $ f α γ β δ))

    pub back_two_shr : Soaks G → (xs ys : List ℕ) {α β : ℕ}
        → Step K 𝓛 (‵ (fat q (ty_struct ν τs) b o (vstruct (set_v (set_v us j (words w xs)) k (words v ys)))) ∷ Γ) G
        (‵ (flft (α ∷ []) full_share) ∷ ‵ (flft (β ∷ []) full_share)
        ∷ ‵ (flent (α ∷ []) (part_at (Words w n) q xs b (o + c))) ∷ ‵ (flent (β ∷ []) (part_at (Words v m) q ys b (o + d)))
        ∷ raw (KeptTwo 𝓤 H w n v m q ν τs j c k d b o us) ∷ Γ) G
    back_two_shr z xs ys = step (λ s.
        move t (0 ∷ 2 ∷ []) $ ended_shr t w n q b (o + c) z xs $ move t (0 ∷ 3 ∷ []) $
        words_in t w n q b (o + c) (λ x. Kept 𝓤 H v m q ν τs k d b o (set_v us j x)) xs (λ _.
        move t (1 ∷ 2 ∷ 0 ∷ []) $ back_shr t v m q k d at' b o (set_v us j (words w xs)) z ys $ s))

  module _ {G : Goal 𝓤 H} (t : K) (w : Width) (n : ℕ) (v : Width) (m : ℕ) {ν : Sym} {τs : Tys} (j c k d : ℕ) (l : j < k)
      (at : field_at zero τs j ≡ just (ty_array (ty_int w) n, c)) (at' : field_at zero τs k ≡ just (ty_array (ty_int v) m, d)) (b o : ℕ) (us : Vals) where
    pub lent_two_mut : Soaks G → (xs ys : List ℕ) → get_v us j ≡ words w xs → Stand w n xs → get_v us k ≡ words v ys → Stand v m ys
        → ((α : ℕ) (γ : GName) (β : ℕ) (δ : GName) → Seq K 𝓛 (‵ (MutLoan w n α γ b (o + c) xs) ∷ ‵ (MutLoan v m β δ b (o + d) ys)
        ∷ ‵ (flft (α ∷ []) full_share) ∷ ‵ (flft (β ∷ []) full_share)
        ∷ ‵ (flent (α ∷ []) (Body (mem (Words w n)) b (o + c) γ)) ∷ ‵ (flent (β ∷ []) (Body (mem (Words v m)) b (o + d) δ))
        ∷ raw (KeptTwo 𝓤 H w n v m full_share ν τs j c k d b o us) ∷ Γ) G)
        → Seq K 𝓛 (‵ (fat full_share (ty_struct ν τs) b o (vstruct us)) ∷ Γ) G
    lent_two_mut z xs ys e is e' is' f =
        arrays_out t w n v m full_share j c k d l at at' b o us xs ys e is e' is' $ loaned_mut t w n b (o + c) z xs (λ α γ.
        move t (3 ∷ []) $ loaned_mut t v m b (o + d) z ys (λ β δ. move t (3 ∷ 0 ∷ 4 ∷ 1 ∷ 5 ∷ 2 ∷ []) $ f α γ β δ))

    pub back_two_mut : Soaks G → (xs ys : List ℕ) {α β : ℕ} {γ δ : GName} → (Stand w n xs → Stand v m ys
        → Seq K 𝓛 (‵ (fat full_share (ty_struct ν τs) b o (vstruct (set_v (set_v us j (words w xs)) k (words v ys)))) ∷ Γ) G)
        → Seq K 𝓛 (‵ (flft (α ∷ []) full_share) ∷ ‵ (flft (β ∷ []) full_share)
        ∷ ‵ (fres γ ((Words w n).coded.code xs)) ∷ ‵ (fres δ ((Words v m).coded.code ys))
        ∷ ‵ (flent (α ∷ []) (Body (mem (Words w n)) b (o + c) γ)) ∷ ‵ (flent (β ∷ []) (Body (mem (Words v m)) b (o + d) δ))
        ∷ raw (KeptTwo 𝓤 H w n v m full_share ν τs j c k d b o us) ∷ Γ) G
    back_two_mut z xs ys f =
        move t (0 ∷ 2 ∷ 4 ∷ []) $ ended_mut t w n b (o + c) z xs $ move t (0 ∷ 4 ∷ []) $
        words_in t w n full_share b (o + c) (λ x. Kept 𝓤 H v m full_share ν τs k d b o (set_v us j x)) xs (λ is.
        move t (1 ∷ 2 ∷ 3 ∷ 0 ∷ []) $ back_mut t v m k d at' b o (set_v us j (words w xs)) z ys (λ is'. f is is'))
