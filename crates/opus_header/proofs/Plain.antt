-- A packet of code 0 or 1 is as short as there is one: its header is the TOC byte, and it has no padding.
-- Assumes nothing.
use Prim.Native.Nat.{ℕ, ◌≤◌, ◌<◌}
use native.Mathlib.Omega.{arith}
use mathlib.Core.Path.{◌≡◌, refl, ap}
use mathlib.Core.List.{List, ◌++◌}
use mathlib.Core.Bool.{false}
use lib.ListN.{length, get_or, length-append}
use Rattle.opus_toc.specs.Toc.{code}
use Rattle.opus_format.specs.Frames.{lengths, joined}
use Rattle.opus_format.specs.Format.{Layout, code0, code1, code2, code3equal, code3unequal, Spells}
use Rattle.opus_format.proofs.Facts.{layout_lasts, layout_headed}
use Rattle.opus_format.proofs.Complete.{layout_toc}
use Rattle.opus_header.specs.Compact.{compact}
use Rattle.opus_header.proofs.Forms.{compact-size}
use Rattle.opus_header.proofs.Spelled.{compact_layout}

-- a header of one byte, and no padding
layout_plain : {six : ℕ} {head ns : List ℕ} {pad : ℕ} → Layout false six head ns pad → code (get_or head 0 0) < 2 → (length head ≡ 1) × (pad ≡ 0)
layout_plain (code0 n) c = (refl, refl)
layout_plain (code1 n) c = (refl, refl)
layout_plain (code2 m n) c = absurd (omega arith)
layout_plain (code3equal count n l d) c = absurd (omega arith)
layout_plain (code3unequal ns n l d) c = absurd (omega arith)

pub plain_least : {six : ℕ} {p : List ℕ} {frames : List (List ℕ)} → Spells false six p frames → code (get_or p 0 0) < 2
    → length p ≤ length (compact false six frames)
plain_least {six} {p} {frames} w c =
    let behind = joined frames ++ w.padding in
    let plain = layout_plain w.layout (rw (w.bytes, (layout_toc w.layout behind).0) at c) in
    let ns = lengths frames in
    omega (
      arith,
      compact-size false six frames,
      layout_headed (compact_layout false six ns (layout_lasts w.layout)),
      ap length w.bytes,
      length-append w.head behind,
      length-append (joined frames) w.padding,
    )
