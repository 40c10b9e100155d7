-- Two packets held against each other: what the reader's answers tell of whether they say the same.
--     same_bytes                          the same bytes say the same
--     Taken, taken, unread                a packet that the reader accepts, and one that it refuses
--     first_unread, second_unread         where one is refused, other bytes do not say the same
--     six_apart, lengths-apart            nor do they by other upper six TOC bits, or by other lengths of frames
--     blocks-within, blocks-told          with the same ones, the blocks of frames tell
-- Assumes nothing.
use Prim.Native.Nat.{ℕ, ◌+◌, ◌-◌, ◌/◌, ◌≤◌}
use native.Mathlib.Omega.{arith}
use mathlib.Core.Path.{◌≡◌, refl, sym, ap, ◌∙◌}
use mathlib.Core.List.{List, [], append-nil}
use mathlib.Core.Bool.{Bool, true, false}
use lib.ListN.{length, take, drop, length-drop}
use Rattle.laws.specs.Bytes.{Bytes}
use Rattle.laws.proofs.Never.{never}
use Rattle.opus_defines.specs.declared.Refusal.{Refusal}
use Rattle.opus_defines.specs.declared.Rule.{Rule}
use Rattle.std.specs.Prelude.{Err, Ok}
use Rattle.opus_size.specs.Size.{most_bytes}
use Rattle.opus_toc.specs.Toc.{upper_six}
use Rattle.opus_format.specs.Frames.{lengths, joined, cut, total, longest}
use Rattle.opus_format.specs.Reading.{Reading, refused, accepted, read}
use Rattle.opus_format.proofs.Frames.{joined-cut, lengths-cut}
use Rattle.opus_format.proofs.Lengths.{cut-front}
use Rattle.opus_format.proofs.Facts.{facts}
use Rattle.opus.specs.Answers.{parsed, packet_with}
use Rattle.opus.specs.declared.PacketHead.{PacketHead}
use Rattle.opus.proofs.Parsed.{parsed_accepted, parsed_refused}
use Rattle.opus_header.specs.Sums.{sums_of}
use Rattle.opus_header.specs.declared.Sums.{Sums}
use Rattle.opus_header.proofs.Forms.{sums_total}
use Rattle.compaction.specs.Lossless.{Same, alike, kept}
use Rattle.sameness.specs.Sameness.{Tells}
use Rattle.sameness.proofs.Equal.{tells_not}

-- ---- the same bytes
same_itself : (p : List ℕ) → Same p p
same_itself p = go (read false p) refl
  where
    go : (x : Reading) → read false p ≡ x → Same p p
    go (refused rule place) r = kept rule place r refl
    go (accepted toc ns first taken) r = alike toc ns first taken toc ns first taken r r refl refl

pub same_bytes : (p q : List ℕ) → p ≡ q → Same p q
same_bytes p q e = rw e (same_itself q)

-- ---- the reader's answer, with the lengths in the list l
pub record Taken (p : List ℕ) (h : PacketHead) (l : List ℕ) : Type 0 where
  pub inside : h.count ≤ length l
  pub some : (1 ≤ length (take h.count l)) × (length (take h.count l) ≤ 48) × (longest (take h.count l) ≤ most_bytes)
  pub block : h.first + total (take h.count l) ≤ length p
  pub means : read false p ≡ accepted h.toc (take h.count l) h.first h.taken

pub taken : (p : List ℕ) (h : PacketHead) (l : List ℕ) → Ok (packet_with h l) ≡ parsed false p → Bytes p → Taken p h l
taken p h l e bytes =
    let d = parsed_accepted false p (packet_with h l) e in
    let f = facts false p h.toc (take h.count l) h.first h.taken bytes d.means in
    record { inside = d.inside; some = (f.some, f.few, f.small); block = omega (arith, f.block, f.within); means = d.means }

pub unread : (p : List ℕ) {c : Refusal} → Err c ≡ parsed false p → length p ≤ 65535 → (rule : Rule) × (place : ℕ) × (read false p ≡ refused rule place)
unread p {c} e short = let r = parsed_refused false p c e short in (r.0, r.1, r.3)

-- frames, off their block alone
cut_block : (ns s : List ℕ) → total ns ≤ length s → cut ns (take (total ns) s) ≡ cut ns s
cut_block ns s h = rw (append-nil (take (total ns) s)) at (cut-front ns s [] h)

-- ---- packets that are not the same bytes
module _ (p q : List ℕ) (f : p ≡ q → ⊥) where
  pub first_unread : (rule : Rule) × (place : ℕ) × (read false p ≡ refused rule place) → Tells false (Same p q)
  first_unread r = tells_not go
    where
      go : Same p q → ⊥
      go (alike toc ns first taken toc' ns' first' taken' x y six frames) = never (let z = r.2 in cc)
      go (kept rule place x e) = f (sym e)

  pub second_unread : (rule : Rule) × (place : ℕ) × (read false q ≡ refused rule place) → Tells false (Same p q)
  second_unread r = tells_not go
    where
      go : Same p q → ⊥
      go (alike toc ns first taken toc' ns' first' taken' x y six frames) = never (let z = r.2 in cc)
      go (kept rule place x e) = f (sym e)

  -- both are read
  module _ {h g : PacketHead} {l k : List ℕ} (x : Taken p h l) (y : Taken q g k) where
    abbrev ns : List ℕ
    ns = take h.count l

    abbrev ms : List ℕ
    ms = take g.count k

    -- what they say the same by
    by : Same p q → (upper_six g.toc ≡ upper_six h.toc) × (cut ms (drop g.first q) ≡ cut ns (drop h.first p))
    by (kept rule place r e) = absurd (f (sym e))
    by (alike toc ns₁ first taken toc' ms₁ first' taken' r s six frames) = let e = x.means in let d = y.means in (cc, cc)

    pub six_apart : (h.toc / 4 ≡ g.toc / 4 → ⊥) → Tells false (Same p q)
    six_apart d = tells_not (λ s. d (sym (by s).0))

    enough₁ : total ns ≤ length (drop h.first p)
    enough₁ = omega (arith, x.block, length-drop h.first p)

    enough₂ : total ms ≤ length (drop g.first q)
    enough₂ = omega (arith, y.block, length-drop g.first q)

    pub lengths-apart : {r : Bool} → Tells r (ns ≡ ms) → r ≡ false → Tells false (Same p q)
    lengths-apart t z =
        tells_not (λ s.
        let e : ns ≡ ms =
        sym (lengths-cut ns (drop h.first p) enough₁)
        ∙ (ap lengths (sym (by s).1) ∙ lengths-cut ms (drop g.first q) enough₂) in
        never (let o = t.only e in cc))

    -- the blocks, as they are lent on
    abbrev block₁ : Sums → List ℕ
    block₁ m = take (h.first + m.total - h.first) (drop h.first p)

    abbrev block₂ : Sums → List ℕ
    block₂ m = take (g.first + m.total - g.first) (drop g.first q)

    module _ {t : Bool} (b : Tells t (ns ≡ ms)) (z : t ≡ true) {m : Sums} (is : m ≡ sums_of ns) where
      same-lengths : ns ≡ ms
      same-lengths = b.so z

      sum₁ : m.total ≡ total ns
      sum₁ = sums_total ns is

      sum₂ : m.total ≡ total ms
      sum₂ = sum₁ ∙ ap total same-lengths

      -- they lie within the packets
      pub blocks-within : (h.first + m.total ≤ length p) × (g.first + m.total ≤ length q)
      blocks-within = (omega (arith, x.block, sum₁), omega (arith, y.block, sum₂))

      is_block₁ : block₁ m ≡ take (total ns) (drop h.first p)
      is_block₁ = let n : h.first + m.total - h.first ≡ total ns = omega (arith, sum₁) in rw n

      is_block₂ : block₂ m ≡ take (total ms) (drop g.first q)
      is_block₂ = let n : g.first + m.total - g.first ≡ total ms = omega (arith, sum₂) in rw n

      same_cuts : block₁ m ≡ block₂ m → cut ms (drop g.first q) ≡ cut ns (drop h.first p)
      same_cuts e =
          sym (cut_block ms (drop g.first q) enough₂)
          ∙ (ap (cut ms) (sym is_block₂ ∙ (sym e ∙ is_block₁))
          ∙ (ap (λ (i : List ℕ). cut i (take (total ns) (drop h.first p))) (sym same-lengths) ∙ cut_block ns (drop h.first p) enough₁))

      same_blocks : cut ms (drop g.first q) ≡ cut ns (drop h.first p) → block₁ m ≡ block₂ m
      same_blocks e =
          is_block₁ ∙ (sym (joined-cut ns (drop h.first p)) ∙ (ap joined (sym e) ∙ (joined-cut ms (drop g.first q) ∙ sym is_block₂)))

      pub blocks-told : h.toc / 4 ≡ g.toc / 4 → {u : Bool} → Tells u (block₁ m ≡ block₂ m) → Tells u (Same p q)
      blocks-told six u =
          record {
            so = λ e.
                alike h.toc ns h.first h.taken g.toc ms g.first g.taken x.means y.means (sym six) (same_cuts (u.so e));
            only = λ s. u.only (same_blocks (by s).1);
          }
