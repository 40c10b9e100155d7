-- What the inner functions answer, where a collector's lengths and numbers are lent beside the rest of it.
use Rattle.std.specs.Prelude.{ℕ, ◌*◌, Bool, cond, ◌&&◌, List, [], ◌==◌, nat_le, Option, Some, None}
use Rattle.opus_toc.specs.Toc.{configuration, samples}
use Rattle.opus_format.specs.Frames.{total}
use Rattle.packet_numbers.specs.Numbers.{kept_well}
use Rattle.collector.specs.declared.OpusRepacketizer.{OpusRepacketizer}
use Rattle.collector.specs.declared.Head.{Head}
use Rattle.collector.specs.declared.Front.{Front}
use Rattle.collector.specs.declared.Front.TheVariants.{Known, Held}
use Rattle.collector.specs.Collector.{held_lengths, sound}

-- a collector without its lengths and numbers
abbrev pub head_of : OpusRepacketizer → Head
head_of rp = record { toc = rp.toc; nb_frames = rp.nb_frames; framesize = rp.framesize }

-- the collector with this head, these lengths and these numbers
abbrev pub collector_of : Head → List ℕ → List ℕ → OpusRepacketizer
collector_of h len packet = record { toc = h.toc; nb_frames = h.nb_frames; framesize = h.framesize; len = len; packet = packet }

-- the same with the numbers left aside, where they are not looked at
abbrev pub bare : Head → List ℕ → OpusRepacketizer
bare h len = collector_of h len []

-- the frame size is the TOC's at 8 kHz, and the frames last at most 120 ms
abbrev pub head_fits : Head → Bool
head_fits h = h.framesize.0 == samples 8000 (configuration h.toc) && nat_le (h.nb_frames * h.framesize.0) 960

-- by its head alone a collector that holds nothing is sound, and one whose head does not fit is not; of any other the frames are to be looked at
abbrev pub front_of : Head → Front
front_of h =
    cond (h.nb_frames == 0) (Known (Some 0)) (cond (head_fits h) (Held h.nb_frames) (Known None))

-- lengths and numbers of frames: the sum of the lengths, where a sound collector can have them
abbrev pub checked_held : List ℕ → List ℕ → Option ℕ
checked_held ns ks = cond (kept_well ns ks) (Some (total ns)) None

-- the bytes of the frames held, if the collector is sound
unfoldable pub checked : OpusRepacketizer → Option ℕ
checked rp = cond (sound rp) (Some (total (held_lengths rp))) None
