-- `opus_toc::samples_in_table` meets its contract: the table's rule is one test at all 256 TOC bytes, which antt computes.
-- Assumes nothing.
use mathlib.Core.Path.{refl, ap, ◌∙◌}
use Prim.Native.Nat.{ℕ}
use mathlib.Core.List.{List, [], ◌∷◌, ◌++◌}
use lib.ListN.{replicate}
use Rattle.opus_toc.specs.Toc.{configuration, duration, samples}
use Rattle.opus_toc.proofs.Samples.{table_rule}
use Rattle.opus_toc.proofs.samples_in_table.Goals as goal

-- the table: a row of eight TOC bytes for each configuration
eightfold : List ℕ → List ℕ
eightfold [] = []
eightfold (n ∷ ns) = replicate 8 n ++ eightfold ns

table : List ℕ
table =
    eightfold
    (480 ∷ 960 ∷ 1920 ∷ 2880 ∷ 480 ∷ 960 ∷ 1920 ∷ 2880 ∷ 480 ∷ 960 ∷ 1920 ∷ 2880 ∷ 480 ∷ 960 ∷ 480 ∷ 960 ∷
    120 ∷ 240 ∷ 480 ∷ 960 ∷ 120 ∷ 240 ∷ 480 ∷ 960 ∷ 120 ∷ 240 ∷ 480 ∷ 960 ∷ 120 ∷ 240 ∷ 480 ∷ 960 ∷ [])

pub returns : goal.returns
unfolding samples duration table eightfold
returns c =
    table_rule table refl c.place-i.result c.place-i.ensures.1 ∙ ap (λ (t : ℕ). samples 48000 (configuration t)) c.place-i.ensures.0
