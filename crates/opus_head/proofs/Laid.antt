-- The bytes of a header as they are laid into a buffer: those that every header has, then the table.
-- Assumes nothing.
use Prim.Native.Nat.{ℕ, ◌+◌, ◌≤◌}
use native.Mathlib.Omega.{arith}
use mathlib.Core.Path.{◌≡◌, refl, sym, ap, ◌∙◌}
use mathlib.Core.List.{List, ◌∷◌, ◌++◌}
use mathlib.Core.Bool.{cond}
use lib.Dec.{eqb}
use lib.ListN.{length, take}
use lib.Seq.{sets, length-take-le}
use mir.Syntax.{w16}
use mir.Val.{to_z, of_z, SFits}
use mir.ValLaws.{to_z-of_z}
use borrow.Author.Tests.{eq-eqb, ne_eqb, eqb-true, eqb-false}
use Rattle.laws.proofs.Never.{by_test}
use Rattle.blocks.specs.Blocks.{copied}
use Rattle.blocks.proofs.Sets.{put_behind}
use Rattle.opus_head.specs.declared.OpusHead.{OpusHead}
use Rattle.opus_head.specs.Header.{table, head_bytes, fixed_bytes}
use Rattle.opus_head.specs.Parts.{fields_of}
use Rattle.opus_head.specs.Reading.{bytes_needed}

abbrev pub fixed_of : OpusHead → List ℕ
fixed_of h = fixed_bytes h.version h.channels h.pre_skip h.rate h.gain h.family

pub bytes_then : (h : OpusHead) (rest : List ℕ) → head_bytes h ++ rest ≡ fixed_of h ++ (table h ++ rest)
unfolding head_bytes
bytes_then h rest = refl

bytes_plain : (h : OpusHead) → h.family ≡ 0 → head_bytes h ≡ fixed_of h
unfolding head_bytes
bytes_plain h e = rw (eq-eqb h.family 0 e)

bytes_table : (h : OpusHead) → (h.family ≡ 0 → ⊥) → head_bytes h ≡ fixed_of h ++ (h.streams ∷ h.coupled ∷ take h.channels h.mapping)
unfolding head_bytes
bytes_table h o = rw (ne_eqb h.family 0 o)

pub bytes_long : (h : OpusHead) → h.channels ≤ length h.mapping → length (head_bytes h) ≡ bytes_needed h.family h.channels
bytes_long h k =
    by_test (eqb h.family 0)
    (λ t. ap length (bytes_plain h (eqb-true h.family 0 t)) ∙ sym (ap (λ b. cond b 19 (21 + h.channels)) t))
    (λ t. ap length (bytes_table h (eqb-false h.family 0 t))
    ∙ (rw (length-take-le h.channels h.mapping k) (omega arith) ∙ sym (ap (λ b. cond b 19 (21 + h.channels)) t)))

-- a call is passed the bits of the gain, which say the gain again
abbrev pub passed : OpusHead → OpusHead
passed h =
    fields_of h.version h.channels h.pre_skip h.rate (to_z w16 (of_z w16 h.gain)) h.family h.streams h.coupled h.mapping

pub passed_is : (h : OpusHead) → SFits w16 h.gain → passed h ≡ h
passed_is h f = rw (to_z-of_z w16 h.gain f)

module _ (h : OpusHead) (g : SFits w16 h.gain) (l : List ℕ) {fixed d : List ℕ} (f : fixed ≡ fixed_of (passed h)) (e : d ≡ copied l 0 fixed 0 19) where
  laid : d ≡ sets l 0 (fixed_of h)
  laid = rw (f, to_z-of_z w16 h.gain g) at e

  pub laid_plain : h.family ≡ 0 → d ≡ sets l 0 (head_bytes h)
  laid_plain p = laid ∙ ap (sets l 0) (sym (bytes_plain h p))

  pub laid_table : (h.family ≡ 0 → ⊥) → {n : ℕ} {d' : List ℕ} → n ≡ h.channels
      → d' ≡ sets d 19 (h.streams ∷ h.coupled ∷ take n h.mapping)
      → d' ≡ sets l 0 (head_bytes h)
  laid_table o en ed =
      ed ∙ ap (λ m. sets d 19 (h.streams ∷ h.coupled ∷ take m h.mapping)) en
      ∙ put_behind l (fixed_of h) (h.streams ∷ h.coupled ∷ take h.channels h.mapping) laid refl
      ∙ ap (sets l 0) (sym (bytes_table h o))
