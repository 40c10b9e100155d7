-- What an add answers, and what it leaves in the store (document 01, 'Collecting and writing'; the order of refusals under 'Return numbers';
-- document 02, M-105 and M-107).
use Rattle.std.specs.Prelude.{ℕ, ◌+◌, ◌*◌, List, [], ◌∷◌, Bool, true, false, cond, ◌&&◌, ◌||◌, ltb, leb, eqb, ℤ, length, replicate}
use Rattle.std.proofs.lemmas.List.Edits.{sets}
use Rattle.opus_defines.specs.Bounds.{most_packet}
use Rattle.opus_defines.specs.Numbers.{verdict_report}
use Rattle.opus_defines.specs.declared.Report.{Report}
use Rattle.opus_defines.specs.Rules.{rule_refusal}
use Rattle.opus_defines.specs.declared.Refusal.{Refusal}
use Rattle.opus_defines.specs.declared.Refusal.TheVariants.{BadArg, InvalidPacket, InvalidState, DirtyPadding}
use Rattle.std.specs.Prelude.{Err, Ok, Result}
use Rattle.opus_toc.specs.Toc.{upper_six, configuration, samples}
use Rattle.opus_toc.specs.Answers.{nb_frames}
use Rattle.opus_format.specs.Frames.{total}
use Rattle.opus_format.specs.Reading.{lasts, Reading, refused, accepted, read}
use Rattle.opus_format.specs.Dirt.{dirty_packet}
use Rattle.blocks.specs.Blocks.{copied}
use Rattle.packet_numbers.specs.Numbers.{number_after}
use Rattle.collector.specs.declared.OpusRepacketizer.{OpusRepacketizer}
use Rattle.collector.specs.Collector.{held_lengths, least_store, sound}
use Rattle.repacketizer.specs.declared.Added.{Added}

-- the answer, with the collector handed back, and the store
pub record Adding : Type 0 where
  pub answer : Added
  pub store : List ℕ

-- 0, or the refusal's number with rule and place; the number is the crate's
abbrev pub added_report : Added → Report
added_report r = verdict_report 0 r.verdict

abbrev pub added_number : Added → ℤ
added_number r = (added_report r).number

-- a refusal hands the collector back as it was, and leaves every byte of the store
abbrev pub refused_add : Refusal → OpusRepacketizer → Added
refused_add e rp = record { verdict = Err e; rp = rp }

abbrev pub no_add : Refusal → OpusRepacketizer → List ℕ → Adding
no_add e rp store = record { answer = refused_add e rp; store = store }

-- whether n frames with this TOC byte go with those held: an empty collector takes any, a later packet needs the same upper six TOC
-- bits and at most 120 ms in all
abbrev pub goes_with : OpusRepacketizer → ℕ → ℕ → Bool
goes_with rp toc n =
    eqb rp.nb_frames 0
    || (eqb (upper_six toc) (upper_six rp.toc) && leb ((rp.nb_frames + n) * rp.framesize.0) 960)

-- the collector with frames of these lengths more, which came in one packet and get its number; the first packet sets the TOC byte
abbrev pub with_frames : OpusRepacketizer → ℕ → List ℕ → OpusRepacketizer
with_frames rp toc ns =
    record {
      toc = cond (eqb rp.nb_frames 0) toc rp.toc;
      nb_frames = rp.nb_frames + length ns;
      framesize = cond (eqb rp.nb_frames 0) (record { 0 = samples 8000 (configuration toc) }) rp.framesize;
      len = sets rp.len rp.nb_frames ns;
      packet = sets rp.packet rp.nb_frames (replicate (length ns) (number_after rp.packet rp.nb_frames));
    }

-- an add refuses, or takes frames of these lengths, with this TOC byte, from a place of the packet on
pub data Addition : Type 0 where
  refusal : Refusal → Addition
  takes : ℕ → List ℕ → ℕ → Addition

-- what it leaves: the frames of the packet p are copied behind those held as one block
abbrev pub leaves_add : OpusRepacketizer → List ℕ → List ℕ → Addition → Adding
leaves_add rp p store (refusal e) = no_add e rp store
leaves_add rp p store (takes toc ns first) =
    record {
      answer = record { verdict = Ok tt; rp = with_frames rp toc ns };
      store = copied store (total (held_lengths rp)) p first (total ns);
    }

-- 001 asks before it reads: whether the n frames that the first bytes of a packet say do not go with those held, though they last at most 120 ms by
-- themselves or have other upper six TOC bits. A packet that lasts too long by itself is the reader's to refuse (R5).
abbrev pub apart : OpusRepacketizer → ℕ → ℕ → Bool
apart rp toc n =
    cond (goes_with rp toc n) false (cond (eqb (upper_six toc) (upper_six rp.toc)) (lasts (upper_six toc) n) true)

-- the frames that were said, 0 where the count byte is missing
abbrev pub said_frames : Result ℕ Refusal → ℕ
said_frames (Ok n) = n
said_frames (Err e) = 0

-- an empty packet says nothing
unfoldable pub stays_out : OpusRepacketizer → List ℕ → Bool
stays_out rp [] = false
stays_out rp (toc ∷ s) = apart rp toc (said_frames (nb_frames (toc ∷ s)))

abbrev pub read_adds : Reading → Addition
read_adds (refused rule place) = refusal (rule_refusal rule place)
read_adds (accepted toc ns first taken) = takes toc ns first

-- a packet over 65,535 bytes is refused before it is looked at
abbrev pub packet_adds : Bool → OpusRepacketizer → List ℕ → Addition
packet_adds sd rp p = cond (ltb most_packet (length p)) (refusal BadArg) (cond (stays_out rp p) (refusal InvalidPacket) (read_adds (read sd p)))

-- an unsound collector, then a store of too few bytes
abbrev pub adds : Bool → OpusRepacketizer → List ℕ → ℕ → Addition
adds sd rp p bytes = cond (sound rp) (cond (ltb bytes least_store) (refusal BadArg) (packet_adds sd rp p)) (refusal InvalidState)

unfoldable pub add_packet : Bool → OpusRepacketizer → List ℕ → List ℕ → Adding
add_packet sd rp p store = leaves_add rp p store (packet_adds sd rp p)

-- `opus_repacketizer_cat_impl`; `opus_repacketizer_cat` is its ordinary form
unfoldable pub added : Bool → OpusRepacketizer → List ℕ → List ℕ → Adding
added sd rp p store = leaves_add rp p store (adds sd rp p (length store))

-- ---- a strict add (document 02, M-105): the ordinary one, but that it refuses last of all a packet with dirty padding
abbrev pub unless_dirty : Bool → Addition → Addition
unless_dirty dirt (refusal e) = refusal e
unless_dirty dirt (takes toc ns first) = cond dirt (refusal DirtyPadding) (takes toc ns first)

-- an add of either kind
abbrev pub adds_by : Bool → Bool → OpusRepacketizer → List ℕ → ℕ → Addition
adds_by false sd rp p bytes = adds sd rp p bytes
adds_by true sd rp p bytes = unless_dirty (dirty_packet sd p) (adds sd rp p bytes)

-- `opus_repacketizer_cat_strict_impl`; `opus_repacketizer_cat_strict` is its ordinary form
unfoldable pub added_strictly : Bool → OpusRepacketizer → List ℕ → List ℕ → Adding
added_strictly sd rp p store = leaves_add rp p store (adds_by true sd rp p (length store))

-- the two calls that add, by their kind
abbrev pub added_by : Bool → Bool → OpusRepacketizer → List ℕ → List ℕ → Adding
added_by false sd rp p store = added sd rp p store
added_by true sd rp p store = added_strictly sd rp p store
