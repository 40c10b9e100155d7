-- What an accepted add leaves as it was.
--     add_took                              an accepted add has taken what was read
--     later_keeps, first_sets               the TOC byte and the frame size
--     lengths_stay, bytes_stay              lengths and bytes of the store beside the new ones
-- Assumes nothing.
use Prim.Native.Nat.{ℕ, suc, ◌+◌, ◌≤◌, ◌<◌}
use native.Mathlib.Omega.{arith}
use mathlib.Core.Path.{◌≡◌, refl, sym, ◌∙◌}
use mathlib.Core.List.{List, [], ◌∷◌}
use mathlib.Core.Bool.{Bool}
use mathlib.Core.Logic.{◌⊎◌, inl, inr}
use lib.ListN.{length, get_or, set}
use lib.Seq.{sets, get_or-set_other}
use borrow.Author.Tests.{eq-eqb, ne_eqb}
use Rattle.laws.proofs.Never.{never}
use Rattle.std.specs.Prelude.{Ok}
use Rattle.opus_toc.specs.Toc.{configuration, samples}
use Rattle.opus_format.specs.Reading.{accepted, read}
use Rattle.blocks.specs.Blocks.{part, copied}
use Rattle.blocks.proofs.Sets.{sets-before, length-part_le}
use Rattle.collector.specs.declared.OpusRepacketizer.{OpusRepacketizer}
use Rattle.repacketizer.specs.Adding.{Addition, refusal, takes, with_frames, leaves_add, adds, added}
use Rattle.repacketizer.proofs.Adds.{taken, took}

-- ---- an accepted add
pub add_took : (sd : Bool) (rp : OpusRepacketizer) (p store : List ℕ) (toc : ℕ) (ns : List ℕ) (first end : ℕ)
    → read sd p ≡ accepted toc ns first end
    → (added sd rp p store).answer.verdict ≡ Ok tt → added sd rp p store ≡ taken rp toc ns p first store
unfolding added
add_took sd rp p store toc ns first end r v = go (adds sd rp p (length store)) refl v
  where
    go : (x : Addition) → adds sd rp p (length store) ≡ x → (leaves_add rp p store x).answer.verdict ≡ Ok tt
        → leaves_add rp p store x ≡ taken rp toc ns p first store
    go (refusal e) h v = never (cc)
    go (takes toc' ns' first') h v =
        let t = took sd rp p (length store) toc' ns' first' h in
        let same : accepted toc' ns' first' t.end ≡ accepted toc ns first end = sym t.reads ∙ r in
        let toc_is : toc' ≡ toc = cc in
        let lengths_are : ns' ≡ ns = cc in
        let first-is : first' ≡ first = cc in
        rw (toc_is, lengths_are, first-is)

-- ---- the TOC byte and the frame size
module _ (rp : OpusRepacketizer) (toc : ℕ) (ns : List ℕ) where
  pub first_sets : rp.nb_frames ≡ 0
      → ((with_frames rp toc ns).toc ≡ toc) × ((with_frames rp toc ns).framesize.0 ≡ samples 8000 (configuration toc))
  first_sets e = rw (eq-eqb rp.nb_frames 0 e) (refl, refl)

  pub later_keeps : (rp.nb_frames ≡ 0 → ⊥) → ((with_frames rp toc ns).toc ≡ rp.toc) × ((with_frames rp toc ns).framesize ≡ rp.framesize)
  later_keeps z = rw (ne_eqb rp.nb_frames 0 z) (refl, refl)

-- ---- what is beside a run of at most n places
sets_past : (l : List ℕ) (at : ℕ) (vs : List ℕ) (k : ℕ) → at + length vs ≤ k → get_or (sets l at vs) k 0 ≡ get_or l k 0
sets_past l at [] k h = refl
sets_past l at (v ∷ vs) k h = sets_past (set l at v) (suc at) vs k (omega arith) ∙ get_or-set_other l at k v 0 (λ e. omega arith)

beside : (l : List ℕ) (at : ℕ) (vs : List ℕ) (n k : ℕ) → length vs ≤ n → (k < at) ⊎ (at + n ≤ k) → get_or (sets l at vs) k 0 ≡ get_or l k 0
beside l at vs n k h (inl b) = sets-before l at vs k 0 b
beside l at vs n k h (inr b) = sets_past l at vs k (omega arith)

pub lengths_stay : (rp : OpusRepacketizer) (toc : ℕ) (ns : List ℕ) (k : ℕ) → (k < rp.nb_frames) ⊎ (rp.nb_frames + length ns ≤ k)
    → get_or (with_frames rp toc ns).len k 0 ≡ get_or rp.len k 0
lengths_stay rp toc ns k o = beside rp.len rp.nb_frames ns (length ns) k (omega arith) o

pub bytes_stay : (store : List ℕ) (at : ℕ) (p : List ℕ) (first n k : ℕ) → (k < at) ⊎ (at + n ≤ k)
    → get_or (copied store at p first n) k 0 ≡ get_or store k 0
bytes_stay store at p first n k o = beside store at (part p first n) n k (length-part_le p first n) o
