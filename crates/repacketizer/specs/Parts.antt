-- What the inner functions answer, where a collector's lengths and numbers are lent beside the rest of it.
use Rattle.std.specs.Prelude.{ℕ, ◌+◌, ◌≤◌, ◌<◌, ◌≡◌, List, Bool, true, false, cond, ◌&&◌, leb, eqb, length}
use Rattle.opus_defines.specs.Bounds.{most_packet}
use Rattle.opus_defines.specs.declared.Refusal.{Refusal}
use Rattle.opus_defines.specs.declared.Refusal.TheVariants.{InvalidPacket, DirtyPadding}
use Rattle.std.specs.Prelude.{Err, Ok}
use Rattle.opus_toc.specs.Toc.{configuration, samples}
use Rattle.opus_format.specs.Frames.{total}
use Rattle.opus_format.specs.Dirt.{dirty_packet}
use Rattle.collector.specs.declared.OpusRepacketizer.{OpusRepacketizer}
use Rattle.collector.specs.declared.Head.{Head}
use Rattle.collector.specs.Collector.{held_lengths, least_store, sound}
use Rattle.collector.specs.Parts.{collector_of}
use Rattle.repacketizer.specs.declared.Added.{Added}
use Rattle.repacketizer.specs.declared.AddedHead.{AddedHead}
use Rattle.repacketizer.specs.Adding.{Adding, Addition, goes_with, stays_out, refusal, takes, leaves_add, packet_adds, unless_dirty}

-- a sound collector with this head, these lengths and these numbers, whose frames end at a place, and a store that is long enough
pub record ReadyAt (h : Head) (len packet : List ℕ) (at : ℕ) (store : List ℕ) : Type 0 where
  pub lengths48 : length len ≡ 48
  pub numbers48 : length packet ≡ 48
  pub soundly : sound (collector_of h len packet) ≡ true
  pub place : at ≡ total (held_lengths (collector_of h len packet))
  pub roomy : least_store ≤ length store

abbrev pub refused_head : Refusal → Head → AddedHead
refused_head e h = record { verdict = Err e; toc = h.toc; framesize = h.framesize; count = h.nb_frames }

-- n frames more; the first packet sets the TOC byte
abbrev pub more_frames : Head → ℕ → ℕ → AddedHead
more_frames h toc n =
    record {
      verdict = Ok tt;
      toc = cond (eqb h.nb_frames 0) toc h.toc;
      framesize = cond (eqb h.nb_frames 0) (record { 0 = samples 8000 (configuration toc) }) h.framesize;
      count = h.nb_frames + n;
    }

-- frames of a packet that was read: they go with those held, or are refused
unfoldable pub add_block : OpusRepacketizer → ℕ → List ℕ → List ℕ → ℕ → List ℕ → Adding
add_block rp toc ns p first store = leaves_add rp p store (cond (goes_with rp toc (length ns)) (takes toc ns first) (refusal InvalidPacket))

-- a packet of at most 65,535 bytes has dirty padding; a longer one no add looks at
abbrev pub has_dirt : Bool → List ℕ → Bool
has_dirt sd p = leb (length p) most_packet && dirty_packet sd p

-- why a strict add refuses such a packet: all that an ordinary add asks comes first
abbrev pub why_dirty : OpusRepacketizer → List ℕ → Refusal
why_dirty rp p = cond (stays_out rp p) InvalidPacket DirtyPadding

-- an add of either kind to a sound collector with a store that is long enough
abbrev pub packet_adds_by : Bool → Bool → OpusRepacketizer → List ℕ → Addition
packet_adds_by false sd rp p = packet_adds sd rp p
packet_adds_by true sd rp p = unless_dirty (dirty_packet sd p) (packet_adds sd rp p)

unfoldable pub add_packet_by : Bool → Bool → OpusRepacketizer → List ℕ → List ℕ → Adding
add_packet_by strict sd rp p store = leaves_add rp p store (packet_adds_by strict sd rp p)

-- why a packet that cannot be read is refused
abbrev pub why_not : OpusRepacketizer → List ℕ → Refusal → Refusal
why_not rp p e = cond (stays_out rp p) InvalidPacket e

-- the answer is what is said beside the lengths and the numbers, and those that are left
abbrev pub added_of : AddedHead → List ℕ → List ℕ → Added
added_of r len packet =
    record {
      verdict = r.verdict;
      rp = record { toc = r.toc; nb_frames = r.count; framesize = r.framesize; len = len; packet = packet };
    }

-- what an add leaves: its answer with these lengths and numbers, and the store; its count fits the field
abbrev pub Leaves : AddedHead → List ℕ → List ℕ → List ℕ → Adding → Type 0
Leaves r len packet store a = (added_of r len packet ≡ a.answer) × ((store ≡ a.store) × (r.count < 65536))
