-- Which text the header has, by the reader's answer.
--     text_read, text_refused      what it is
--     text_same, texts, texts_most     by answers that are the same; by every answer, and how long it is
--     number_is                    a refusal's number as it is passed on
-- Assumes nothing.
use Prim.Native.Nat.{ℕ, ◌≤◌}
use native.Mathlib.Omega.{arith}
use mathlib.Core.Path.{◌≡◌, refl, sym}
use mathlib.Core.List.{List}
use mathlib.Core.Logic.{◌⊎◌, inl, inr}
use lib.IntN.{ℤ, negsuc}
use lib.ListN.{length}
use mir.Syntax.{w32}
use mir.Val.{to_z, of_z}
use Rattle.opus_defines.specs.Numbers.{refusal_number}
use Rattle.opus_defines.specs.declared.Refusal.{Refusal}
use Rattle.opus_defines.specs.declared.Refusal.TheVariants.{BadHeader, UnknownVersion, BadField}
use Rattle.std.specs.Prelude.{Err, Ok}
use Rattle.opus_defines.proofs.Others.{refusal_passed}
use Rattle.std.specs.Prelude.{Result}
use Rattle.opus_head.specs.Heads.{InRange}
use Rattle.opus_head.specs.Reading.{head_read}
use Rattle.opus_head.specs.declared.OpusHead.{OpusHead}
use Rattle.show.specs.Text.{refusal}
use Rattle.show.proofs.Refusals.{refusal_most}
use Rattle.head_text.specs.Text.{head_lines, head_text}
use Rattle.head_text.proofs.Room.{lines_most}

module _ (s : List ℕ) (r : Result OpusHead Refusal) (e : r ≡ head_read s) where
  pub text_read : (h : OpusHead) → r ≡ Ok h → head_text s ≡ head_lines h
  unfolding head_text
  text_read h v = rw (← e, v)

  pub text_refused : (x : Refusal) → r ≡ Err x → head_text s ≡ refusal (refusal_number x)
  unfolding head_text
  text_refused x v = rw (← e, v)

pub text_same : (s t : List ℕ) → head_read s ≡ head_read t → head_text s ≡ head_text t
unfolding head_text
text_same s t e = rw e

-- ---- every answer
abbrev Answers : List ℕ → Type 0
Answers s =
    ((h : OpusHead) × (head_read s ≡ Ok h))
    ⊎ ((head_read s ≡ Err BadHeader) ⊎ ((head_read s ≡ Err UnknownVersion) ⊎ (head_read s ≡ Err BadField)))

refused_by_lem : (s : List ℕ) (x : Refusal) → head_read s ≡ Err x → head_text s ≡ refusal (refusal_number x)
refused_by_lem s x e = text_refused s (Err x) (sym e) x refl

pub texts : (s : List ℕ) → Answers s
    → ((h : OpusHead) × ((head_read s ≡ Ok h) × (head_text s ≡ head_lines h)))
    ⊎ ((head_text s ≡ refusal (negsuc 21)) ⊎ ((head_text s ≡ refusal (negsuc 22)) ⊎ (head_text s ≡ refusal (negsuc 23))))
texts s (inl (h, e)) = inl (h, (e, text_read s (Ok h) (sym e) h refl))
texts s (inr (inl e)) = inr (inl (refused_by_lem s BadHeader e))
texts s (inr (inr (inl e))) = inr (inr (inl (refused_by_lem s UnknownVersion e)))
texts s (inr (inr (inr e))) = inr (inr (inr (refused_by_lem s BadField e)))

refused_most : (s : List ℕ) (x : Refusal) → head_read s ≡ Err x → length (head_text s) ≤ 1165
refused_most s x e = rw (refused_by_lem s x e) (omega (arith, refusal_most x))

pub texts_most : (s : List ℕ) → ((h : OpusHead) → head_read s ≡ Ok h → InRange h) → Answers s → length (head_text s) ≤ 1165
texts_most s range (inl (h, e)) = rw (text_read s (Ok h) (sym e) h refl) (lines_most h (range h e))
texts_most s range (inr (inl e)) = refused_most s BadHeader e
texts_most s range (inr (inr (inl e))) = refused_most s UnknownVersion e
texts_most s range (inr (inr (inr e))) = refused_most s BadField e

-- the number y of a refusal x, as a call is passed it
pub number_is : (x : Refusal) {y : ℤ} → y ≡ refusal_number x → to_z w32 (of_z w32 y) ≡ refusal_number x
number_is x e = rw e (refusal_passed x)
