-- Frames in pieces, each written as a packet of its own and added in order, are held together again.
--     Fine, fine_append     frames of bytes, none too long
--     piece-..              one piece more is accepted and held
--     pieces-held           all pieces
--     cuts_held             pieces of what a collector holds, added to one that holds nothing
--     outputs-held          the same, of what the output calls left in their destinations
-- Assumes nothing.
use Prim.Native.Nat.{ℕ, ◌+◌, ◌-◌, ◌≤◌, ◌<◌}
use native.Mathlib.Nat.{zero-add}
use native.Mathlib.Omega.{arith}
use mathlib.Core.Path.{◌≡◌, refl, sym, ap, ◌∙◌}
use mathlib.Core.List.{List, [], ◌∷◌, ◌++◌, map, map-append, append-nil, append_assoc}
use mathlib.Core.Bool.{Bool, true, false}
use lib.Dec.{eqb}
use lib.ListN.{length, get_or, drop, length-append, length-map, take-append-drop, drop_of_length-le}
use lib.Seq.{take-append_seam, drop-drop}
use borrow.Author.Tests.{eqb-true, eqb-false}
use Rattle.laws.specs.Bytes.{Bytes}
use Rattle.laws.proofs.Never.{by_test, cond_elim}
use Rattle.laws.proofs.Bytes.{bytes_nil, bytes_take, bytes_after}
use Rattle.std.specs.Prelude.{Ok}
use Rattle.opus_size.specs.Size.{most_bytes}
use Rattle.opus_toc.specs.Toc.{upper_six}
use Rattle.opus_format.specs.Frames.{lengths, joined, total, longest}
use Rattle.opus_format.specs.Format.{Lasts, Spells}
use Rattle.opus_format.specs.Reading.{accepted, read}
use Rattle.opus_format.proofs.Frames.{joined-cut, lengths-cut}
use Rattle.opus_format.proofs.Counts.{lasts_few}
use Rattle.opus_format.proofs.Complete.{spelled_read}
use Rattle.blocks.proofs.Sets.{take-sets}
use Rattle.opus_header.specs.Compact.{compact}
use Rattle.opus_format.specs.Dirt.{dirty_packet}
use Rattle.opus_format.proofs.Dirt.{spelled_dirt}
use Rattle.opus_header.proofs.Spelled.{compact_spelled, compact-unpadded}
use Rattle.collector.specs.Collector.{held, held_lengths}
use Rattle.repacketizer.specs.Adding.{Adding, goes_with, with_frames}
use Rattle.repacketizer.specs.Runs.{State, Ready, Empty, Holds, Arrival, AllAccepted, adding, after_add, after_adds}
use Rattle.opus_format.proofs.Lengths.{longest-append}
use Rattle.collector.proofs.Sound.{lasts_timed, sound-framed, framed-full}
use Rattle.collector.proofs.Held.{Holding}
use Rattle.repacketizer.proofs.Adds.{goes_none, goes_time, taken, add-sound, add_read, block_added}
use Rattle.repacketizer.proofs.StrictAdds.{by_clean}
use Rattle.repacketizer.proofs.Steps.{add_ready, add-held}
use Rattle.repacketizer.proofs.Runs.{empty_ready, empty-held}
use Rattle.repacketizer_out.specs.Output.{range}
use Rattle.repacketizer_out.specs.Pieces.{Piece, Nonempty, together, packed, Cut, Cuts, Room, outputs_added}
use Rattle.repacketizer_out.proofs.Ranges.{length-range, lasts_fewer, length-held, ready_holding}
use Rattle.repacketizer_out.proofs.Outputs.{range-output, output-written}
use Rattle.repacketizer_out.proofs.Packets.{nothing-behind, spelled_back, spelled_bytes, compact-short}

-- ---- frames of bytes, none too long
pub record Fine (frames : List (List ℕ)) : Type 0 where
  pub small : longest (lengths frames) ≤ most_bytes
  pub bytes : Bytes (joined frames)

joined-append : (a b : List (List ℕ)) → joined (a ++ b) ≡ joined a ++ joined b
joined-append [] b = refl
joined-append (f ∷ a) b = rw (joined-append a b, append_assoc)

bytes_front : (s t : List ℕ) → Bytes (s ++ t) → Bytes s
bytes_front s t h = rw (take-append_seam s t) at (bytes_take (length s) (s ++ t) h)

fine_append : (a b : List (List ℕ)) → Fine (a ++ b) → Fine a × Fine b
fine_append a b f =
    let most = longest-append (lengths a) (lengths b) in
    let small : longest (lengths a ++ lengths b) ≤ most_bytes = rw (map-append length a b) at f.small in
    let all : Bytes (joined a ++ joined b) = rw (joined-append a b) at f.bytes in (
      record { small = omega arith; bytes = bytes_front (joined a) (joined b) all },
      record { small = omega arith; bytes = bytes_after (joined a) (joined b) all },
    )

-- ---- one piece more
module _ (sd : Bool) (six : ℕ) (k : six < 64) {s : State} {done : List (List ℕ)} (h : Holds six s done) (strict : Bool) (piece : List (List ℕ))
    (some : 1 ≤ length piece) (l : Lasts six (length done + length piece)) (f : Fine piece) where
  abbrev p : List ℕ
  p = compact sd six piece

  abbrev toc : ℕ
  toc = get_or p 0 0

  abbrev ns : List ℕ
  ns = lengths piece

  brief : Lasts six (length piece)
  brief = lasts_fewer (length piece) l some (omega arith)

  spells : Spells sd six p piece
  spells = compact_spelled sd six piece brief f.small

  bytes : Bytes p
  unfolding spells
  bytes = spelled_bytes spells k f.bytes (rw (compact-unpadded sd six piece brief f.small) bytes_nil)

  reads : read sd p ≡ accepted toc ns (length spells.head) (length p)
  reads = rw (append-nil p) at (spelled_read spells [] (nothing-behind sd))

  count : s.rp.nb_frames ≡ length done
  count = sym (length-held s.rp s.store (ready_holding s h.ready)) ∙ ap length h.frames

  goes : goes_with s.rp toc (length ns) ≡ true
  goes =
      let r = h.ready in
      by_test (eqb s.rp.nb_frames 0) (λ e. sym (goes_none s.rp toc (length ns) (eqb-true s.rp.nb_frames 0 e)))
      (λ e.
      let z = eqb-false s.rp.nb_frames 0 e in
      let six-is : upper_six s.rp.toc ≡ six = h.same (omega (arith, count)) in
      let all : Lasts (upper_six s.rp.toc) (s.rp.nb_frames + length ns) = rw (six-is, count, length-map piece length) l in
      sym (goes_time s.rp toc (length ns) z ((spelled_back spells).1 ∙ sym six-is))
      ∙ (lasts_timed r.byte (framed-full s.rp z (sound-framed s.rp r.soundly)).timed.size all).time)

  abbrev one : Arrival
  one = packed sd six (record { strict = strict; frames = piece })

  -- there is no padding, so a strict add is the ordinary one
  clean : dirty_packet sd p ≡ false
  unfolding spells
  clean = rw (append-nil p, compact-unpadded sd six piece brief f.small) at (spelled_dirt spells [] (nothing-behind sd))

  accepted_is : adding s one ≡ taken s.rp toc ns p (length spells.head) s.store
  accepted_is =
      let r = h.ready in
      let first = length spells.head in
      by_clean sd s.rp p s.store strict clean
      ∙ (add-sound sd s.rp p s.store r.soundly r.roomy
      ∙ (add_read sd s.rp p s.store toc ns first (length p) bytes (compact-short sd six piece (lasts_few brief) f.small) reads
      ∙ block_added s.rp toc ns p first s.store goes))

  -- the first packet sets the TOC byte, a later one has the same six bits
  kept : upper_six (with_frames s.rp toc ns).toc ≡ six
  kept =
      cond_elim (λ (n : ℕ). upper_six n ≡ six) (eqb s.rp.nb_frames 0) toc s.rp.toc (λ e. (spelled_back spells).1)
      (λ e. h.same (omega (arith, count, eqb-false s.rp.nb_frames 0 e)))

  piece_accepted : (adding s one).answer.verdict ≡ Ok tt
  piece_accepted = rw accepted_is

  piece_held : Holds six (after_add s one) (done ++ piece)
  piece_held =
      record {
        ready = add_ready s one h.ready bytes;
        frames = add-held s one h.ready bytes ∙ rw (accepted_is, h.frames, (spelled_back spells).0);
        same = λ m. ap (λ (a : Adding). upper_six a.answer.rp.toc) accepted_is ∙ kept;
      }

-- all pieces
pub pieces-held : (sd : Bool) (six : ℕ) → six < 64 → {s : State} {done : List (List ℕ)} → Holds six s done → (pieces : List Piece)
    → Nonempty pieces → Lasts six (length done + length (together pieces)) → Fine (together pieces)
    → let l = map (packed sd six) pieces in AllAccepted s l × Holds six (after_adds s l) (done ++ together pieces)
pieces-held sd six k {s = s} {done = done} h [] n l f = (tt, rw (append-nil done) h)
pieces-held sd six k {s = s} {done = done} h (piece ∷ pieces) n l f =
    let rest = together pieces in
    let frames = piece.frames in
    let parts = fine_append frames rest f in
    let size = length-append frames rest in
    let more : length (done ++ frames) + length rest ≡ length done + length (frames ++ rest) = omega (arith, length-append done frames) in
    let brief = lasts_fewer (length done + length frames) l (omega (arith, n.0)) (omega arith) in
    let now = piece_held sd six k h piece.strict frames n.0 brief parts.0 in
    let all = pieces-held sd six k {s = after_add s (packed sd six piece)} {done = done ++ frames} now pieces n.1 (rw more l) parts.1 in
    ((piece_accepted sd six k h piece.strict frames n.0 brief parts.0, all.0), rw (← append_assoc done frames rest) all.1)

-- ---- pieces of what a collector holds
none-held : (six : ℕ) (e : State) → Empty e → Holds six e []
none-held six e z = record { ready = empty_ready e z; frames = empty-held e z; same = λ m. absurd (omega arith) }

-- the ranges between cut points
abbrev pub ranges : ℕ → List Cut → List (List ℕ) → List Piece
ranges begin [] frames = []
ranges begin (c ∷ more) frames = record { strict = c.strict; frames = range begin c.end frames } ∷ ranges c.end more frames

cuts_within : (begin n : ℕ) (cuts : List Cut) → Cuts begin n cuts → begin ≤ n
cuts_within begin n [] k = omega (arith, k)
cuts_within begin n (c ∷ more) k = omega (arith, k.0, cuts_within c.end n more k.1)

ranges_nonempty : (begin : ℕ) (cuts : List Cut) (frames : List (List ℕ)) → Cuts begin (length frames) cuts → Nonempty (ranges begin cuts frames)
ranges_nonempty begin [] frames k = tt
ranges_nonempty begin (c ∷ more) frames k =
    let within = cuts_within c.end (length frames) more k.1 in
    (omega (arith, k.0, length-range begin c.end frames within), ranges_nonempty c.end more frames k.1)

ranges_together : (begin : ℕ) (cuts : List Cut) (frames : List (List ℕ)) → Cuts begin (length frames) cuts
    → together (ranges begin cuts frames) ≡ drop begin frames
ranges_together begin [] frames k = sym (drop_of_length-le frames {i = begin} (omega (arith, k)))
ranges_together begin (c ∷ more) frames k =
    let n = c.end - begin in
    let sum : begin + n ≡ c.end = omega (arith, k.0) in
    let rest : drop c.end frames ≡ drop n (drop begin frames) = sym (drop-drop n begin frames ∙ ap (λ m. drop m frames) sum) in
    rw (ranges_together c.end more frames k.1, rest) (take-append-drop n (drop begin frames))

module _ (s : State) (r : Ready s) where
  holds : Holding s.rp
  holds = ready_holding s r

  held_fine : Bytes s.store → Fine (held s.rp s.store)
  held_fine b =
      let ns = held_lengths s.rp in
      record {
        small = rw (lengths-cut ns s.store (omega (arith, holds.fits, r.roomy))) holds.small;
        bytes = rw (joined-cut ns s.store) (bytes_take (total ns) s.store b);
      }

  held-lasts : 1 ≤ length (held s.rp s.store) → Lasts (upper_six s.rp.toc) (length (held s.rp s.store))
  held-lasts h = rw (length-held s.rp s.store holds) (holds.lasts (omega (arith, length-held s.rp s.store holds)))

  -- added to a collector that holds nothing
  pub cuts_held : (sd : Bool) → Bytes s.store → (pieces : List Piece) → Nonempty pieces → together pieces ≡ held s.rp s.store
      → (e : State) → Empty e
      → let l = map (packed sd (upper_six s.rp.toc)) pieces in
      AllAccepted e l × Holds (upper_six s.rp.toc) (after_adds e l) (held s.rp s.store)
  cuts_held sd b [] n same e z = (tt, rw (← same) (none-held (upper_six s.rp.toc) e z))
  cuts_held sd b (piece ∷ pieces) n same e z =
      let all : 1 ≤ length (held s.rp s.store) = omega (arith, n.0, length-append piece.frames (together pieces), ap length same) in
      let six = upper_six s.rp.toc in
      rw same at
      (pieces-held sd six (omega (arith, r.byte)) (none-held six e z) (piece ∷ pieces) n (rw (same, zero-add) (held-lasts all)) (rw same (held_fine b)))

  -- ---- what the output calls left
  pub outputs-packed : (sd : Bool) (begin : ℕ) (cuts : List Cut) → let frames = held s.rp s.store in
      Cuts begin (length frames) cuts → Room sd (upper_six s.rp.toc) frames begin cuts
      → outputs_added sd s begin cuts ≡ map (packed sd (upper_six s.rp.toc)) (ranges begin cuts frames)
  outputs-packed sd begin [] k m = refl
  outputs-packed sd begin (c ∷ more) k m =
      let frames = held s.rp s.store in
      let six = upper_six s.rp.toc in
      let within = cuts_within c.end (length frames) more k.1 in
      let vs = compact sd six (range begin c.end frames) in
      rw (
        range-output sd false s r begin c.end k.0 within c.dst m.1.0 ∙ output-written sd false six (range begin c.end frames) c.dst m.0,
        take-sets c.dst vs m.0,
        outputs-packed sd c.end more k.1 m.1.1,
      )

  pub outputs-held : (sd : Bool) → Bytes s.store → (cuts : List Cut) → let frames = held s.rp s.store in
      Cuts 0 (length frames) cuts → Room sd (upper_six s.rp.toc) frames 0 cuts → (e : State) → Empty e
      → let l = outputs_added sd s 0 cuts in AllAccepted e l × Holds (upper_six s.rp.toc) (after_adds e l) frames
  outputs-held sd b cuts k m e z =
      let frames = held s.rp s.store in
      rw (outputs-packed sd 0 cuts k m)
      (cuts_held sd b (ranges 0 cuts frames) (ranges_nonempty 0 cuts frames k) (ranges_together 0 cuts frames k) e z)
