-- What callers know of a packet that was read, stated once.
--     facts      count, lengths, places and time of an accepted packet
--     said       its first bytes say how many frames it has
--     frames_read, frames_counted     its frames, and how many they are
-- Assumes nothing.
use Prim.Native.Nat.{ℕ, suc, ◌+◌, ◌*◌, ◌%◌, ◌≤◌, ◌<◌}
use native.Mathlib.Omega.{arith}
use mathlib.Core.Path.{◌≡◌, refl, sym, ap, ◌∙◌}
use mathlib.Core.List.{List, [], ◌∷◌, ◌++◌, append_assoc}
use mathlib.Core.Bool.{Bool}
use lib.ListN.{length, drop, length-append, length-replicate, take-append-drop, length-map, length-drop}
use lib.Seq.{length-take-le}
use borrow.Author.Tests.{leb-true, le-leb}
use Rattle.laws.specs.Bytes.{Bytes}
use Rattle.opus_size.specs.Size.{most_bytes}
use Rattle.std.specs.Prelude.{Ok}
use Rattle.opus_toc.specs.Toc.{upper_six, toc_byte, configuration, duration, time}
use Rattle.opus_toc.specs.Answers.{nb_frames}
use Rattle.opus_toc.proofs.Samples.{lasts_at_lem}
use Rattle.opus_format.specs.Frames.{joined, cut, total, longest}
use Rattle.opus_format.specs.Format.{Lasts, Layout, code0, code1, code2, code3equal, code3unequal}
use Rattle.opus_format.specs.Reading.{accepted, read, frames_of}
use Rattle.opus_format.proofs.Frames.{total-lengths, lengths-cut}
use Rattle.opus_format.proofs.Counts.{byte_count, lasts_few, two_last}
use Rattle.opus_format.proofs.Padding.{padding_flag_lem}
use Rattle.opus_format.proofs.Sound.{read_spelled}

-- the frames of every layout last at most 120 ms
pub layout_lasts : {sd : Bool} {six : ℕ} {head ns : List ℕ} {pad : ℕ} → Layout sd six head ns pad → Lasts six (length ns)
layout_lasts {six = six} (code0 n) = two_last six 1 (omega arith) (omega arith)
layout_lasts {six = six} (code1 n) = two_last six 2 (omega arith) (omega arith)
layout_lasts {six = six} (code2 m n) = two_last six 2 (omega arith) (omega arith)
layout_lasts (code3equal count n l d) = rw (length-replicate count n) l
layout_lasts (code3unequal ns n l d) = let e : length (ns ++ (n ∷ [])) ≡ suc (length ns) = omega (arith, length-append ns (n ∷ [])) in rw e l

-- and the TOC byte comes first
pub layout_headed : {sd : Bool} {six : ℕ} {head ns : List ℕ} {pad : ℕ} → Layout sd six head ns pad → 1 ≤ length head
layout_headed (code0 n) = omega arith
layout_headed (code1 n) = omega arith
layout_headed (code2 m n) = omega arith
layout_headed (code3equal count n l d) = omega arith
layout_headed (code3unequal ns n l d) = omega arith

-- its first bytes say how many frames there are
layout_said : {sd : Bool} {six : ℕ} {head ns : List ℕ} {pad : ℕ} → Layout sd six head ns pad → (u : List ℕ) → nb_frames (head ++ u)
    ≡ Ok (length ns)
unfolding nb_frames
layout_said {six = six} (code0 n) u = let c : toc_byte six 0 % 4 ≡ 0 = omega arith in rw c
layout_said {six = six} (code1 n) u = let c : toc_byte six 1 % 4 ≡ 1 = omega arith in rw c
layout_said {six = six} (code2 m n) u = let c : toc_byte six 2 % 4 ≡ 2 = omega arith in rw c
layout_said {six = six} (code3equal count n {p} l d) u =
    let c : toc_byte six 3 % 4 ≡ 3 = omega arith in
    rw (c, byte_count 0 p count (omega arith) (padding_flag_lem d) (omega (arith, lasts_few l)), length-replicate count n)
layout_said {six = six} (code3unequal ns n {p} l d) u =
    let c : toc_byte six 3 % 4 ≡ 3 = omega arith in
    let e : length (ns ++ (n ∷ [])) ≡ suc (length ns) = omega (arith, length-append ns (n ∷ [])) in
    rw (c, byte_count 1 p (suc (length ns)) (omega arith) (padding_flag_lem d) (omega (arith, lasts_few l)), e)

pub said : (sd : Bool) (p : List ℕ) (toc : ℕ) (ns : List ℕ) (first taken : ℕ) → Bytes p → read sd p ≡ accepted toc ns first taken
    → nb_frames p ≡ Ok (length ns)
said sd p toc ns first taken bytes r =
    let w = read_spelled sd p toc ns first taken bytes r in
    let q = w.packet in
    let rest = joined (cut ns (drop first p)) ++ q.padding in
    let whole : p ≡ q.head ++ (rest ++ drop taken p) =
    sym (take-append-drop taken p) ∙ (ap (λ s. s ++ drop taken p) q.bytes ∙ append_assoc q.head rest (drop taken p)) in
    ap nb_frames whole ∙ (layout_said q.layout (rest ++ drop taken p) ∙ ap (λ l. Ok (length l)) w.lengths_are)

-- m is the length of what was read
pub record Facts (m toc : ℕ) (ns : List ℕ) (first taken : ℕ) : Type 0 where
  pub byte : toc < 256
  pub some : 1 ≤ length ns
  pub few : length ns ≤ 48
  pub small : longest ns ≤ most_bytes
  pub headed : 1 ≤ first
  pub block : first + total ns ≤ taken
  pub within : taken ≤ m
  pub lasts : Lasts (upper_six toc) (length ns)
  -- R5, in samples at 48 kHz
  pub short : time toc (length ns) ≤ 5760

pub facts : (sd : Bool) (p : List ℕ) (toc : ℕ) (ns : List ℕ) (first taken : ℕ) → Bytes p → read sd p ≡ accepted toc ns first taken
    → Facts (length p) toc ns first taken
facts sd p toc ns first taken bytes r =
    let w = read_spelled sd p toc ns first taken bytes r in
    let frames = cut ns (drop first p) in
    let q = w.packet in
    let byte : toc < 256 = omega (arith, w.toc_is, bytes.byte 0) in
    let l : Lasts (upper_six toc) (length ns) = rw w.lengths_are at (layout_lasts q.layout) in
    let sum : total ns ≡ length (joined frames) = sym (ap total w.lengths_are) ∙ total-lengths frames in
    let parts : taken ≡ length q.head + (length (joined frames) + length q.padding) =
    sym (length-take-le taken p w.within)
    ∙ (ap length q.bytes
    ∙ (length-append q.head (joined frames ++ q.padding)
    ∙ ap (λ (n : ℕ). length q.head + n) (length-append (joined frames) q.padding))) in
    let limit = lasts_at_lem 48000 refl (length ns) (configuration toc) (omega arith) in
    record {
      byte = byte;
      some = l.some;
      few = lasts_few l;
      small = rw w.lengths_are at q.small;
      headed = omega (arith, w.place, layout_headed q.layout);
      block = omega (arith, w.place);
      within = w.within;
      lasts = l;
      short = leb-true (time toc (length ns)) 5760 (limit ∙ le-leb (length ns * duration (configuration toc)) 1200 l.short);
    }

module _ (sd : Bool) (p : List ℕ) (toc : ℕ) (ns : List ℕ) (first taken : ℕ) (r : read sd p ≡ accepted toc ns first taken) where
  pub frames_read : frames_of p (read sd p) ≡ cut ns (drop first p)
  unfolding frames_of
  frames_read = rw r

  pub frames_counted : Bytes p → length (frames_of p (read sd p)) ≡ length ns
  frames_counted bytes =
      let f = facts sd p toc ns first taken bytes r in
      let lens = lengths-cut ns (drop first p) (omega (arith, f.block, f.within, length-drop first p)) in
      ap length frames_read ∙ (sym (length-map (cut ns (drop first p)) length) ∙ ap length lens)
