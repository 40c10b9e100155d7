-- A packet that is not too long and that the reader refused: the add is refused (`refused_lem`).
-- Assumes nothing.
use Prim.Native.Nat.{ℕ, ◌≤◌}
use mathlib.Core.Path.{◌≡◌, sym, ap, ◌∙◌}
use mathlib.Core.List.{List}
use mathlib.Core.Bool.{Bool}
use lib.ListN.{length}
use Rattle.opus_defines.specs.declared.Refusal.{Refusal}
use Rattle.std.specs.Prelude.{Err}
use Rattle.opus.specs.Answers.{parsed}
use Rattle.opus.proofs.Parsed.{parsed_refused}
use Rattle.collector.specs.declared.OpusRepacketizer.{OpusRepacketizer}
use Rattle.repacketizer.specs.Adding.{no_add, add_packet}
use Rattle.repacketizer.specs.Parts.{why_not}
use Rattle.repacketizer.proofs.Adds.{add_refused}

module _ (sd : Bool) (p : List ℕ) where
  pub refused_lem : {c : Refusal} → Err c ≡ parsed sd p → length p ≤ 65535 → (rp : OpusRepacketizer) (store : List ℕ)
      → add_packet sd rp p store ≡ no_add (why_not rp p c) rp store
  refused_lem {c} e k rp store =
      let r = parsed_refused sd p c e k in
      add_refused sd rp p store r.0 r.1 k r.3 ∙ ap (λ (x : Refusal). no_add (why_not rp p x) rp store) (sym r.2)
