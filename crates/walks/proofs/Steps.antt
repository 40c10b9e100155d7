-- What every walk of a function by hand shares.
--     here, local        a local's own place; what is copied out of the local whose cell is entry n of the context
--     aside, again_had   entries that a part of a walk does not touch, as one entry; and back
--     freed_at           at the end, the local whose cell is entry n of the context is freed, whatever it holds; so is the entry m of the others that frees it
--     freed, freed_room  what frees it stands behind it; nothing was stored in it
--     concluded          from a walk, at each choice of what the contract's triple binds outside, to the function's statement
-- Assumes `Logic`.
use mathlib.Core.Path.{◌≡◌, sym, subst}
use Prim.Native.Nat.{ℕ}
use mathlib.Core.List.{List, [], ◌∷◌, ◌++◌}
use seplogic.Ra.Ura.{Ura}
use base.Fraction.{full_share}
use mir.Syntax.{Ty, Fn, place, copy}
use mir.Val.{Val}
use base.Logic.{SProp, ent, sep, id⊢, via, assoc', mono_l, mono_r}
use base.Fml.{Share, fat, froom, fdies}
use prog.Model.{Model}
use prog.Routine.{Callee, Env as Names}
use prog.Wp.{Env, spot_of, WpFn, Closed}
use types.Logic.{Logic}
use contract.Lifetimes.{Lfts, Shares, AllOutlive}
use contract.Running.{Running, tables, tables_of}
use types.Kit.{Goal, frees, Item, ‵, raw, mean, ⋆, nth, del, pull, Step, step, cut}
use types.Run.{Finds, Opd, look, stop, from, load}
use sound.WpLaws.{WpFn-mono}
use denote.Laws.{Are, Ises, Spells, valss, Tellss}
use denote.RattleType.{flat}
use denote.Signature.{types_at}
use denote.Triple.Clauses.{Ended, Clauses, closing}
use denote.Triple.Entry.{Args, on_entry}
use denote.Triple.Spec.{triple_of}
use denote.Triple.Statement.{Triple}
use denote.Triple.Table.{entered}
use denote.Triple.Walked.{Stays, AllGo, walk_of, walked, walk_Meets}

-- the local i, whose cell is entry n of the context, holds v
abbrev pub Holds : {M : Type 1} {𝓤 : Ura M} (𝓛 : Logic 𝓤) → List (Item 𝓤) → Env 𝓤 𝓛.H → ℕ → ℕ → Share → Val → Type 2
Holds {𝓤 = 𝓤} 𝓛 Γ E i n q v = nth 𝓛 n Γ ≡ ‵ (fat q (spot_of 𝓤 𝓛.H E i).0 (spot_of 𝓤 𝓛.H E i).1 (spot_of 𝓤 𝓛.H E i).2 v)

module _ {M : Type 1} {𝓤 : Ura M} {𝓛 : Logic 𝓤} {K : Type 0} {Γ : List (Item 𝓤)} where
  open 𝓛 use {H}

  module _ {E : Env 𝓤 H} {i : ℕ} where
    pub here : K → Finds K 𝓛 Γ E (place i []) (spot_of 𝓤 H E i)
    here t = from t (stop t)

    pub local : K → (n : ℕ) {q : Share} {v : Val} → Holds 𝓛 Γ E i n q v → Opd K 𝓛 Γ E (copy (place i [])) v
    local t n e = load t (here t) (look t n e)

  module _ {G : Goal 𝓤 H} where
    -- the first entries as one, and back
    pub aside : K → (Δ : List (Item 𝓤)) → Step K 𝓛 (raw (⋆ 𝓛 Δ) ∷ Γ) G (Δ ++ Γ) G
    aside t Δ = cut Δ (raw (⋆ 𝓛 Δ) ∷ []) Γ (id⊢ 𝓤 (⋆ 𝓛 Δ))

    pub again_had : K → (Δ : List (Item 𝓤)) → Step K 𝓛 (Δ ++ Γ) G (raw (⋆ 𝓛 Δ) ∷ Γ) G
    again_had t Δ = cut (raw (⋆ 𝓛 Δ) ∷ []) Δ Γ (id⊢ 𝓤 (⋆ 𝓛 Δ))

  -- ---- at the end
  freed_as : K → (n m : ℕ) {τ : Ty} {b : ℕ} {E : Env 𝓤 H} {g : Goal 𝓤 H} → ent 𝓤 (mean 𝓛 (nth 𝓛 n Γ)) (H.room τ b 0)
      → nth 𝓛 m (del 𝓛 n Γ) ≡ ‵ (fdies τ b)
      → Step K 𝓛 (del 𝓛 m (del 𝓛 n Γ)) (frees E g) Γ (frees ((τ, b) ∷ E) g)
  freed_as t n m {τ} {b} empties e = step (λ s.
      let rest : List (Item 𝓤) = del 𝓛 n Γ in
      let others : SProp 𝓤 = ⋆ 𝓛 (del 𝓛 m rest) in
      let dies = subst (λ (j : Item 𝓤). ent 𝓤 (⋆ 𝓛 rest) (sep 𝓤 (mean 𝓛 j) others)) e (pull 𝓛 m rest) in
      record {
        prf = via 𝓤 (sep 𝓤 (H.room τ b 0) (⋆ 𝓛 rest))
            (via 𝓤 (sep 𝓤 (mean 𝓛 (nth 𝓛 n Γ)) (⋆ 𝓛 rest)) (pull 𝓛 n Γ) (mono_l 𝓤 (⋆ 𝓛 rest) empties))
            (via 𝓤 (sep 𝓤 (H.room τ b 0) (sep 𝓤 (H.dies τ b) others)) (mono_r 𝓤 (H.room τ b 0) dies)
            (via 𝓤 (sep 𝓤 (sep 𝓤 (H.room τ b 0) (H.dies τ b)) others)
            (assoc' 𝓤 (H.room τ b 0) (H.dies τ b) others) (mono_r 𝓤 (sep 𝓤 (H.room τ b 0) (H.dies τ b)) s.prf)));
      })

  pub freed_at : K → (n m : ℕ) {τ : Ty} {b : ℕ} {v : Val} {E : Env 𝓤 H} {g : Goal 𝓤 H} → nth 𝓛 n Γ ≡ ‵ (fat full_share τ b 0 v)
      → nth 𝓛 m (del 𝓛 n Γ) ≡ ‵ (fdies τ b)
      → Step K 𝓛 (del 𝓛 m (del 𝓛 n Γ)) (frees E g) Γ (frees ((τ, b) ∷ E) g)
  freed_at t n m {τ} {b} {v} e e' =
      freed_as t n m (subst (λ (j : Item 𝓤). ent 𝓤 (mean 𝓛 j) (H.room τ b 0)) (sym e) (𝓛.laws.at_room τ b 0 v)) e'

  -- what frees it stands behind it
  pub freed : K → (n : ℕ) {τ : Ty} {b : ℕ} {v : Val} {E : Env 𝓤 H} {g : Goal 𝓤 H} → nth 𝓛 n Γ ≡ ‵ (fat full_share τ b 0 v)
      → nth 𝓛 n (del 𝓛 n Γ) ≡ ‵ (fdies τ b)
      → Step K 𝓛 (del 𝓛 n (del 𝓛 n Γ)) (frees E g) Γ (frees ((τ, b) ∷ E) g)
  freed t n e e' = freed_at t n n e e'

  -- nothing was stored in it
  pub freed_room : K → (n m : ℕ) {τ : Ty} {b : ℕ} {E : Env 𝓤 H} {g : Goal 𝓤 H} → nth 𝓛 n Γ ≡ ‵ (froom τ b 0)
      → nth 𝓛 m (del 𝓛 n Γ) ≡ ‵ (fdies τ b)
      → Step K 𝓛 (del 𝓛 m (del 𝓛 n Γ)) (frees E g) Γ (frees ((τ, b) ∷ E) g)
  freed_room t n m {τ} {b} e e' =
      freed_as t n m (subst (λ (j : Item 𝓤). ent 𝓤 (mean 𝓛 j) (H.room τ b 0)) (sym e) (id⊢ 𝓤 (H.room τ b 0))) e'

module _ {M : Type 1} {𝓤 : Ura M} (𝓛 : Logic 𝓤) (𝓜 : Model 𝓤 𝓛.H) (𝓡 : Running 𝓤 𝓛.H 𝓜) (T : Ended)
    (hs : Stays T.signature.params T.kept) (c : Clauses 𝓤 T) (names : Names) (k : Callee) (e : Fn) where
  open 𝓛 use {H}

  pub concluded : Closed 𝓤 H (tables 𝓤 H 𝓜 𝓡 names).C (tables 𝓤 H 𝓜 𝓡 names).Λ k e
      → AllGo 𝓛 T.signature.lifetimes T.signature.params T.kept hs
      → (sp : (κs : Lfts T.signature.lifetimes) → Spells (types_at T.signature.params κs))
      → ((κs : Lfts T.signature.lifetimes) → Tellss (types_at T.signature.params κs) (Ises (types_at T.signature.params κs)) (sp κs))
      → ((κs : Lfts T.signature.lifetimes) (qs : Shares T.signature.lifetimes)
      (bounds : AllOutlive T.signature.lifetimes T.signature.outlives κs) (a : Args T.signature κs) (g : (c κs a).ghost)
      → Are (types_at T.signature.params κs) (Ises (types_at T.signature.params κs)) a (valss (types_at T.signature.params κs) (sp κs) a)
      → ent 𝓤 (sep 𝓤 (on_entry 𝓛 T.signature κs qs a (valss (types_at T.signature.params κs) (sp κs) a)) ((c κs a).requires g))
      (WpFn 𝓤 H (tables 𝓤 H 𝓜 𝓡 names).C (tables 𝓤 H 𝓜 𝓡 names).Λ e
      (flat (types_at T.signature.params κs) (valss (types_at T.signature.params κs) (sp κs) a))
      ((walk_of 𝓛 T hs c).post ((κs, qs, bounds, a, valss (types_at T.signature.params κs) (sp κs) a), g))))
      → Triple 𝓤 (𝓡.run (names k)) (triple_of 𝓛 T.signature (closing 𝓛 T c))
  unfolding tables_of
  concluded unfolded goes sp tl walk =
      entered 𝓤 H (triple_of 𝓛 T.signature (closing 𝓛 T c))
      (tables 𝓤 H 𝓜 𝓡 names).C (tables 𝓤 H 𝓜 𝓡 names).Λ k e unfolded
      (walk_Meets 𝓛 T hs goes c (WpFn 𝓤 H (tables 𝓤 H 𝓜 𝓡 names).C (tables 𝓤 H 𝓜 𝓡 names).Λ e)
      (WpFn-mono 𝓤 H 𝓛.laws (tables_of 𝓤 H 𝓜 (tables 𝓤 H 𝓜 𝓡 names)) e)
      (walked 𝓛 T hs c (WpFn 𝓤 H (tables 𝓤 H 𝓜 𝓡 names).C (tables 𝓤 H 𝓜 𝓡 names).Λ e) sp tl walk))
