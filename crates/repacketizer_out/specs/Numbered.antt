-- Output of the frames that came in one packet, by its number (document 02, M-107).
use Rattle.std.specs.Prelude.{ℕ, ◌+◌, List, [], ◌∷◌, Bool, true, false, cond, ltb, leb, eqb, ℤ, pos, negsuc, length, take}
use Rattle.opus_defines.specs.Bounds.{most_packet}
use Rattle.opus_defines.specs.Outcome.{Effect, refusal, Outcome, leaves}
use Rattle.opus_defines.specs.declared.Refusal.TheVariants.{BadArg, InvalidState}
use Rattle.opus_toc.specs.Toc.{upper_six}
use Rattle.collector.specs.declared.OpusRepacketizer.{OpusRepacketizer}
use Rattle.collector.specs.Collector.{held, held_numbers, least_store, sound}
use Rattle.repacketizer_out.specs.declared.by_number.Range.{Range}
use Rattle.repacketizer_out.specs.Output.{output}

-- the frames that came in packet k: those that have its number
unfoldable pub brought_by : ℕ → List ℕ → List (List ℕ) → List (List ℕ)
brought_by k [] frames = []
brought_by k (n ∷ ns) [] = []
brought_by k (n ∷ ns) (f ∷ frames) = cond (eqb n k) (f ∷ brought_by k ns frames) (brought_by k ns frames)

-- as one compact packet; a packet that brought none is not held
abbrev pub output_some : ℕ → List (List ℕ) → ℕ → Effect
output_some six [] room = refusal BadArg
output_some six (f ∷ frames) room = output false false six (f ∷ frames) room

abbrev pub output_of : ℕ → List ℕ → List (List ℕ) → ℤ → ℕ → Effect
output_of six numbers frames (pos k) room = output_some six (brought_by k numbers frames) room
output_of six numbers frames (negsuc k) room = refusal BadArg

abbrev pub numbered_outputs : OpusRepacketizer → List ℕ → ℤ → ℕ → Effect
numbered_outputs rp store number room =
    cond (sound rp)
    (cond (ltb (length store) least_store) (refusal BadArg)
    (cond (ltb most_packet room) (refusal BadArg)
    (output_of (upper_six rp.toc) (held_numbers rp) (held rp store) number room)))
    (refusal InvalidState)

-- `opus_repacketizer_out_packet`
unfoldable pub out_numbered : OpusRepacketizer → List ℕ → ℤ → List ℕ → Outcome
out_numbered rp store number dst = leaves dst (numbered_outputs rp store number (length dst))

-- ---- what the code counts
abbrev pub one_if : Bool → ℕ
one_if true = 1
one_if false = 0

-- how many numbers are below k
unfoldable pub below : ℕ → List ℕ → ℕ
below k [] = 0
below k (n ∷ ns) = one_if (ltb n k) + below k ns

abbrev pub no_range : Range
no_range = record { begin = pos 0; end = pos 0 }

-- where the frames with number k stand, if the numbers rise
abbrev pub range_in : List ℕ → ℕ → Range
range_in numbers k = record { begin = pos (below k numbers); end = pos (below (k + 1) numbers) }

-- among the first n frames, for any number
abbrev pub range_of : ℕ → List ℕ → ℤ → Range
range_of n numbers (negsuc k) = no_range
range_of n numbers (pos k) = cond (ltb 48 n) no_range (cond (leb 48 k) no_range (range_in (take n numbers) k))
