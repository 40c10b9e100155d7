-- What the outputs answer, and what they leave in the destination (document 01, 'Collecting and writing').
use Rattle.std.specs.Prelude.{ℕ, ◌-◌, List, Bool, false, cond, ◌&&◌, ltb, leb, ℤ, pos, negsuc, length, take, drop}
use Rattle.opus_defines.specs.Bounds.{most_packet}
use Rattle.opus_defines.specs.Outcome.{Effect, refusal, written, Outcome, leaves}
use Rattle.opus_defines.specs.declared.Refusal.TheVariants.{BadArg, BufferTooSmall, InvalidState}
use Rattle.opus_toc.specs.Toc.{upper_six}
use Rattle.opus_header.specs.Compact.{compact, filling}
use Rattle.collector.specs.declared.OpusRepacketizer.{OpusRepacketizer}
use Rattle.collector.specs.Collector.{held, least_store, sound}

-- frames begin to end - 1
abbrev pub range : {A : Type 0} → ℕ → ℕ → List A → List A
range begin end l = take (end - begin) (drop begin l)

-- the packet that is written: with padding asked for it fills m bytes
abbrev pub out_packet : Bool → Bool → ℕ → List (List ℕ) → ℕ → List ℕ
out_packet sd pad six frames m = cond pad (filling sd six frames m) (compact sd six frames)

-- into so much room; refused for it exactly where the compact packet is longer
unfoldable pub output : Bool → Bool → ℕ → List (List ℕ) → ℕ → Effect
output sd pad six frames room =
    cond (ltb room (length (compact sd six frames))) (refusal BufferTooSmall) (written (out_packet sd pad six frames room))

-- 0 <= begin < end <= held
abbrev pub out_frames : Bool → Bool → ℕ → List (List ℕ) → ℤ → ℤ → ℕ → Effect
out_frames sd pad six frames (negsuc b) end room = refusal BadArg
out_frames sd pad six frames (pos b) (negsuc e) room = refusal BadArg
out_frames sd pad six frames (pos b) (pos e) room =
    cond (ltb b e && leb e (length frames)) (output sd pad six (range b e frames) room) (refusal BadArg)

abbrev pub outputs : Bool → Bool → OpusRepacketizer → List ℕ → ℤ → ℤ → ℕ → Effect
outputs sd pad rp store begin end room =
    cond (sound rp)
    (cond (ltb (length store) least_store) (refusal BadArg)
    (cond (ltb most_packet room) (refusal BadArg)
    (out_frames sd pad (upper_six rp.toc) (held rp store) begin end room)))
    (refusal InvalidState)

-- `opus_repacketizer_out_range_impl`; `opus_repacketizer_out_range` is its unpadded ordinary form
unfoldable pub out_range : Bool → Bool → OpusRepacketizer → List ℕ → ℤ → ℤ → List ℕ → Outcome
out_range sd pad rp store begin end dst = leaves dst (outputs sd pad rp store begin end (length dst))

-- `opus_repacketizer_out`
abbrev pub out_all : OpusRepacketizer → List ℕ → List ℕ → Outcome
out_all rp store dst = out_range false false rp store (pos 0) (pos rp.nb_frames) dst
