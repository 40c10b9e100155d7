-- What is said of a packet that the reader accepts, by the bytes that it takes.
--     longer_told, shorter_said     longer than needed
--     clean_told, compact-said      clean
--     behind-same                   what stands behind a self-delimited packet does not count
-- Assumes nothing.
use Prim.Native.Nat.{ℕ, ◌≤◌, ◌<◌}
use native.Mathlib.Omega.{arith}
use mathlib.Core.Path.{◌≡◌, refl, sym, ap, ◌∙◌}
use mathlib.Core.List.{List, ◌++◌}
use mathlib.Core.Bool.{Bool, true, false}
use mathlib.Core.Logic.{⊎_elim}
use lib.ListN.{length, take, drop, take-append-drop}
use lib.Seq.{length-take-le}
use Rattle.laws.specs.Bytes.{Bytes}
use Rattle.opus_toc.specs.Toc.{upper_six}
use Rattle.opus_format.specs.Frames.{cut}
use Rattle.opus_format.specs.Format.{Spells, Behind}
use Rattle.opus_format.specs.Reading.{accepted, read}
use Rattle.opus_format.specs.Dirt.{dirty, dirty_packet}
use Rattle.opus_format.proofs.Sound.{Spelled, read_spelled}
use Rattle.opus_format.proofs.Dirt.{spelled_dirt}
use Rattle.opus_header.specs.Compact.{compact}
use Rattle.opus_header.proofs.Shortest.{shortest}
use Rattle.opus_header.proofs.Spelled.{compact_spelled, compact-unpadded}
use Rattle.opus_header.proofs.Rebuilt.{spelled_lasts, compact_of_lem, never_longer}
use Rattle.packet_judge.specs.Judging.{said, judged}
use Rattle.packet_judge.specs.Least.{Least}
use Rattle.packet_judge.specs.declared.Judged.TheVariants.{Longer, Clean}
use Rattle.packet_judge.proofs.Verdicts.{said_longer, said_clean, says_longer, says_clean, judged_spelled}

-- no packet is shorter than the compact one
compact_least : (sd : Bool) (six : ℕ) (p : List ℕ) (frames : List (List ℕ)) → Spells sd six p frames
    → Least sd six frames (length (compact sd six frames))
compact_least sd six p frames w =
    record { packet = compact sd six frames; spelled = compact_of_lem w; long = refl; least = λ q v. never_longer v }

-- the bytes c are the compact packet, and so they have no padding
compact_undirty : (sd : Bool) (six : ℕ) (c rest : List ℕ) (frames : List (List ℕ)) (w : Spells sd six c frames) → Behind sd rest
    → c ≡ compact sd six frames → dirty_packet sd (c ++ rest) ≡ false
compact_undirty sd six c rest frames w b e =
    let lasting = spelled_lasts w in
    rw e (spelled_dirt (compact_spelled sd six frames lasting w.small) rest b ∙ ap dirty (compact-unpadded sd six frames lasting w.small))

module _ (sd : Bool) (p : List ℕ) (toc : ℕ) (ns : List ℕ) (first taken : ℕ) (bytes : Bytes p) (r : read sd p ≡ accepted toc ns first taken) where
  abbrev six : ℕ
  six = upper_six toc

  abbrev frames : List (List ℕ)
  frames = cut ns (drop first p)

  spelled : Spelled sd p toc ns first taken
  spelled = read_spelled sd p toc ns first taken bytes r

  dirt : dirty_packet sd p ≡ dirty spelled.packet.padding
  dirt = rw (take-append-drop taken p) at (spelled_dirt spelled.packet (drop taken p) spelled.behind)

  took : length (take taken p) ≡ taken
  took = length-take-le taken p spelled.within

  module _ (short : length p ≤ 65535) where
    verdict : judged sd p ≡ said (dirty_packet sd p) (length (compact sd six frames)) taken
    verdict =
        rw (take-append-drop taken p, ← dirt, took) at
        (judged_spelled spelled.packet (drop taken p) spelled.behind (rw (take-append-drop taken p) short))

    pub longer_told : (n : ℕ) → judged sd p ≡ Longer n → (dirty_packet sd p ≡ false) × (n < taken) × Least sd six frames n
    longer_told n e =
        let s = said_longer (dirty_packet sd p) (length (compact sd six frames)) taken n (sym verdict ∙ e) in
        (s.0, rw (← s.2) s.1, rw (← s.2) (compact_least sd six (take taken p) frames spelled.packet))

    pub shorter_said : dirty_packet sd p ≡ false → (q : List ℕ) → Spells sd six q frames → length q < taken
        → (n : ℕ) × (judged sd p ≡ Longer n) × Least sd six frames n
    shorter_said d q w h =
        let least = length (compact sd six frames) in
        (least, verdict ∙ says_longer (dirty_packet sd p) least taken d (omega (arith, never_longer w)), compact_least sd six q frames w)

    pub clean_told : judged sd p ≡ Clean → take taken p ≡ compact sd six frames
    clean_told e =
        let k = said_clean (dirty_packet sd p) (length (compact sd six frames)) taken (sym verdict ∙ e) in
        ⊎_elim (λ same. same) (λ (h : length (compact sd six frames) < length (take taken p)). absurd (omega (arith, took))) (shortest spelled.packet)

    pub compact-said : take taken p ≡ compact sd six frames → judged sd p ≡ Clean
    compact-said e =
        let clean = rw (take-append-drop taken p) at (compact_undirty sd six (take taken p) (drop taken p) frames spelled.packet spelled.behind e) in
        verdict ∙ says_clean (dirty_packet sd p) (length (compact sd six frames)) taken clean (omega (arith, took, ap length e))

-- in the self-delimited form anything may stand behind
module _ (p : List ℕ) (toc : ℕ) (ns : List ℕ) (first taken : ℕ) (bytes : Bytes p) (short : length p ≤ 65535)
    (r : read true p ≡ accepted toc ns first taken) where
  pub behind-same : (rest : List ℕ) → length (take taken p ++ rest) ≤ 65535 → judged true (take taken p ++ rest) ≡ judged true p
  behind-same rest h =
      let w = (read_spelled true p toc ns first taken bytes r).packet in
      let here = judged_spelled w (drop taken p) tt (rw (take-append-drop taken p) short) in
      judged_spelled w rest tt h ∙ sym (rw (take-append-drop taken p) at here)
