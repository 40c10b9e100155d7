-- What a buyer may count on: the borders of the packets that were merged can be restored (document 02, M-107).
-- Assumes nothing.
use Prim.Native.Nat.{ℕ, ◌≤◌}
use native.Mathlib.Omega.{arith}
use mathlib.Core.Path.{◌≡◌, ap, subst, ◌∙◌}
use mathlib.Core.List.{List, ◌∷◌, ◌++◌}
use mathlib.Core.Bool.{Bool, false}
use lib.IntN.{pos}
use lib.ListN.{length, get_or, take, drop}
use lib.Seq.{take_all}
use Rattle.laws.specs.Bytes.{Bytes}
use Rattle.opus_defines.specs.Outcome.{leaves, into_room}
use Rattle.opus_toc.specs.Toc.{upper_six}
use Rattle.opus_format.specs.Frames.{cut}
use Rattle.opus_format.specs.Reading.{accepted, read, frames_of}
use Rattle.opus_format.proofs.Sound.{read_spelled}
use Rattle.opus_format.proofs.Facts.{frames_read}
use Rattle.blocks.proofs.Sets.{take-sets}
use Rattle.opus_header.specs.Compact.{compact}
use Rattle.packet_pad.specs.Unpad.{unpadded}
use Rattle.packet_pad.proofs.Promises.{unpad_is_compact, unpad_never_grows}
use Rattle.repacketizer.specs.Runs.{State, Empty, Arrival, AllBytes, after_adds, accepted_of}
use Rattle.repacketizer.proofs.Runs.{accepted_came}
use Rattle.repacketizer.proofs.Promises.{six_bits_are_kept}
use Rattle.repacketizer_out.specs.Output.{output}
use Rattle.repacketizer_out.specs.Pieces.{front}
use Rattle.repacketizer_out.specs.Numbered.{out_numbered}
use Rattle.repacketizer_out.proofs.Brought.{came_at}
use Rattle.repacketizer_out.proofs.NumberPromises.{output_of_a_packet}

-- what unpadding leaves in front of a packet that lies in a buffer of its own length
unpadded-front : (p : List ℕ) → Bytes p → length p ≤ 65535 → (toc : ℕ) (ns : List ℕ) (first end : ℕ)
    → read false p ≡ accepted toc ns first end
    → front (unpadded p (pos (length p))) ≡ compact false (upper_six (get_or p 0 0)) (frames_of p (read false p))
unpadded-front p b short toc ns first end r =
    let whole = take_all (length p) p (omega arith) in
    let q : read false (take (length p) p) ≡ accepted toc ns first end = rw whole r in
    let toc_is = (read_spelled false p toc ns first end b r).toc_is in
    let frames = cut ns (drop first (take (length p) p)) in
    let is = unpad_is_compact p b (length p) (omega arith) short toc ns first end q in
    let fits = (unpad_never_grows p b (length p) (omega arith) short toc ns first end q).1 in
    ap front is ∙ (take-sets p (compact false (upper_six toc) frames) fits ∙ rw (frames_read false p toc ns first end r, whole, toc_is))

-- an output of frames that unpadding has left in front of a buffer
as_unpadded : (dst p front : List ℕ) (sd : Bool) (six : ℕ) → sd ≡ false → front ≡ compact false six (frames_of p (read false p))
    → leaves dst (output false false six (frames_of p (read sd p)) (length dst)) ≡ leaves dst (into_room front (length dst))
unfolding output
as_unpadded dst p front sd six ordinary is = rw (ordinary, is)

-- From any collector that holds nothing, after any list of adds, strict and ordinary ones, in either delimiting, refused ones among them: output of packet
-- k, where the k-th accepted packet is an ordinary one, has the number and the bytes that unpadding that original would have given, into the same room.
pub packet_output_is_unpad : (empty : State) → Empty empty → (l : List Arrival) → AllBytes l
    → (before : List Arrival) (a : Arrival) (after : List Arrival)
    → accepted_of empty l ≡ before ++ (a ∷ after) → a.sd ≡ false → (dst : List ℕ) → length dst ≤ 65535
    → let full = after_adds empty l in
    out_numbered full.rp full.store (pos (length before)) dst
    ≡ leaves dst (into_room (front (unpadded a.packet (pos (length a.packet)))) (length dst))
packet_output_is_unpad empty z l b before a after q ordinary dst h =
    let six = upper_six (after_adds empty l).rp.toc in
    let c = came_at six before a after (rw q at (accepted_came six empty l b (six_bits_are_kept empty l b))) in
    let reads = subst (λ (sd : Bool). read sd a.packet ≡ accepted c.toc c.ns c.first c.end) ordinary c.reads in
    let is = unpadded-front a.packet c.bytes c.short c.toc c.ns c.first c.end reads in
    output_of_a_packet empty z l b dst h before a after q
    ∙ as_unpadded dst a.packet (front (unpadded a.packet (pos (length a.packet)))) a.sd (upper_six (get_or a.packet 0 0)) ordinary is
