-- What a readable multistream packet holds, and that its rewritten forms hold the same.
--     Held, held        its first stream, and those behind it
--     spelled_streams   what is spelled reads as its stream, and then what stands behind it
--     exchanged         any bytes that spell that stream may take its place
--     readable_some     it is not empty
--     repack_compact    unpad writes the compact packets of its streams,
--     compact_holds     which hold its streams
--     LastOf, last_of   its last stream, which may be exchanged likewise
-- Assumes nothing.
use Prim.Native.Nat.{ℕ, zero, suc, ◌+◌, ◌≤◌}
use native.Mathlib.Omega.{arith}
use mathlib.Core.Path.{◌≡◌, refl, sym, ap, ◌∙◌}
use mathlib.Core.List.{List, [], ◌∷◌, ◌++◌, append_assoc, append-nil}
use mathlib.Core.Bool.{Bool, true, false}
use lib.ListN.{length, take, drop}
use lib.Seq.{drop-append_seam, drop-drop, take-add, length-take-le}
use Rattle.laws.specs.Bytes.{Bytes}
use Rattle.laws.proofs.Bytes.{bytes_drop}
use Rattle.laws.proofs.Never.{never}
use Rattle.opus_toc.specs.Toc.{upper_six}
use Rattle.opus_format.specs.Frames.{cut}
use Rattle.opus_format.specs.Format.{Spells, Behind}
use Rattle.opus_format.specs.Reading.{Reading, refused, accepted, read}
use Rattle.opus_format.proofs.Facts.{facts, frames_read}
use Rattle.opus_format.proofs.Sound.{read_spelled}
use Rattle.opus_format.proofs.Complete.{spelled_read, spelled_six, spelled_frames}
use Rattle.opus_header.specs.Compact.{compact}
use Rattle.opus_header.proofs.Rebuilt.{compact_of_lem}
use Rattle.std.specs.Prelude.{Ok}
use Rattle.multistream.specs.Streams.{pass_streams}
use Rattle.multistream.specs.Unpad.{Repacked, repacked, repack_reading, repack_streams}
use Rattle.multistream.specs.Reading.{Stream, Streams, unreadable, streams, and_streams, then_streams, read_streams, compact_streams}

-- ---- one stream and those behind it
abbrev pub stream_at : List ℕ → ℕ → List ℕ → ℕ → Stream
stream_at p toc ns first = record { six = upper_six toc; frames = cut ns (drop first p) }

pub record Held (sd : Bool) (next : List ℕ → Streams) (p : List ℕ) (xs : List Stream) : Type 0 where
  pub toc : ℕ
  pub ns : List ℕ
  pub first : ℕ
  pub taken : ℕ
  pub means : read sd p ≡ accepted toc ns first taken
  pub others : List Stream
  pub rest : next (drop taken p) ≡ streams others
  pub all : stream_at p toc ns first ∷ others ≡ xs

-- its first stream and those behind it, in a list
abbrev first_of : {sd : Bool} {next : List ℕ → Streams} {p : List ℕ} {xs : List Stream} → Held sd next p xs → List Stream
first_of {p = p} h = stream_at p h.toc h.ns h.first ∷ h.others

pub held : (sd : Bool) (next : List ℕ → Streams) (p : List ℕ) (xs : List Stream) → then_streams next p (read sd p) ≡ streams xs → Held sd next p xs
held sd next p xs e = go (read sd p) refl e
  where
    go : (x : Reading) → read sd p ≡ x → then_streams next p x ≡ streams xs → Held sd next p xs
    go (refused rule place) r e = never (cc)
    go (accepted toc ns first taken) r e = more (next (drop taken p)) refl e
      where
        more : (y : Streams) → next (drop taken p) ≡ y → and_streams (stream_at p toc ns first) y ≡ streams xs → Held sd next p xs
        more unreadable q f = never (cc)
        more (streams ys) q f =
            record { toc = toc; ns = ns; first = first; taken = taken; means = r; others = ys; rest = q; all = cc }

-- what is spelled reads as its stream, and then what stands behind it
pub spelled_streams : {sd : Bool} {six : ℕ} {c : List ℕ} {frames : List (List ℕ)} (w : Spells sd six c frames) (rest : List ℕ) → Behind sd rest
    → (next : List ℕ → Streams) → then_streams next (c ++ rest) (read sd (c ++ rest)) ≡ and_streams (record { six = six; frames = frames }) (next rest)
spelled_streams {sd = sd} {c = c} w rest b next =
    let reads = spelled_read w rest b in
    let frames-are = sym (frames_read sd (c ++ rest) _ _ _ _ reads) ∙ spelled_frames w rest b in
    rw (reads, spelled_six w, frames-are, drop-append_seam c rest)

-- and it is passed over likewise
spelled_passed : {six : ℕ} {c : List ℕ} {frames : List (List ℕ)} → Spells true six c frames → {n : ℕ} → length c ≡ n
    → (k at : ℕ) (rest : List ℕ)
    → pass_streams k rest ≡ Ok at → pass_streams (suc k) (c ++ rest) ≡ Ok (n + at)
spelled_passed {c = c} w e k at rest h = rw (spelled_read w rest tt, drop-append_seam c rest, h, e)

module _ (sd : Bool) (next : List ℕ → Streams) (p : List ℕ) (bytes : Bytes p) (xs : List Stream) (h : Held sd next p xs) where
  abbrev pub frames : List (List ℕ)
  frames = cut h.ns (drop h.first p)

  abbrev pub six : ℕ
  six = upper_six h.toc

  was : Spells sd six (take h.taken p) frames
  was = (read_spelled sd p h.toc h.ns h.first h.taken bytes h.means).packet

  held_some : 1 ≤ length p
  held_some =
      let f = facts sd p h.toc h.ns h.first h.taken bytes h.means in
      omega (arith, f.headed, f.block, f.within)

  taken_size : length (take h.taken p) ≡ h.taken
  taken_size = length-take-le h.taken p (read_spelled sd p h.toc h.ns h.first h.taken bytes h.means).within

  -- any bytes that spell the stream may take its place
  pub exchanged : {c : List ℕ} → Spells sd six c frames → (rest : List ℕ) → Behind sd rest → next rest ≡ streams h.others
      → then_streams next (c ++ rest) (read sd (c ++ rest)) ≡ streams xs
  exchanged w rest b e = spelled_streams w rest b next ∙ rw (e, h.all)

-- its compact packet stands in front of those behind it
repacks : (sd : Bool) (next : List ℕ → Streams) (p : List ℕ) (xs : List Stream) (h : Held sd next p xs) (nextR : List ℕ → Repacked) (q : List ℕ)
    → nextR (drop h.taken p) ≡ repacked q
    → repack_reading sd nextR p (read sd p) ≡ repacked (compact sd (upper_six h.toc) (cut h.ns (drop h.first p)) ++ q)
repacks sd next p xs h nextR q e = rw (h.means, e)

-- ---- all streams
pub readable_some : (k : ℕ) (p : List ℕ) → Bytes p → (xs : List Stream) → read_streams k p ≡ streams xs → 1 ≤ length p
readable_some zero p bytes xs e = held_some false (λ t. streams []) p bytes xs (held false (λ t. streams []) p xs e)
readable_some (suc k) p bytes xs e = held_some true (read_streams k) p bytes xs (held true (read_streams k) p xs e)

pub repack_compact : (k : ℕ) (p : List ℕ) (xs : List Stream) → read_streams k p ≡ streams xs → repack_streams k p ≡ repacked (compact_streams k xs)
repack_compact zero p xs e =
    let next : List ℕ → Streams = λ t. streams [] in
    let h = held false next p xs e in
    let same = append-nil (compact_streams 0 (first_of h)) ∙ ap (λ ys. compact_streams 0 ys) h.all in
    repacks false next p xs h (λ t. repacked []) [] refl ∙ ap repacked same
repack_compact (suc k) p xs e =
    let h = held true (read_streams k) p xs e in
    repacks true (read_streams k) p xs h (repack_streams k) (compact_streams k h.others) (repack_compact k (drop h.taken p) h.others h.rest)
    ∙ ap (λ ys. repacked (compact_streams (suc k) ys)) h.all

pub compact_holds : (k : ℕ) (p : List ℕ) → Bytes p → (xs : List Stream) → read_streams k p ≡ streams xs
    → read_streams k (compact_streams k xs) ≡ streams xs
compact_holds zero p bytes xs e =
    let next : List ℕ → Streams = λ t. streams [] in
    let h = held false next p xs e in
    let same = append-nil (compact_streams 0 (first_of h)) ∙ ap (λ ys. compact_streams 0 ys) h.all in
    ap (λ q. read_streams 0 q) (sym same) ∙ exchanged false next p bytes xs h (compact_of_lem (was false next p bytes xs h)) [] refl h.rest
compact_holds (suc k) p bytes xs e =
    let next = read_streams k in
    let h = held true next p xs e in
    let rest = compact_holds k (drop h.taken p) (bytes_drop h.taken p bytes) h.others h.rest in
    ap (λ ys. read_streams (suc k) (compact_streams (suc k) ys)) (sym h.all)
    ∙ exchanged true next p bytes xs h (compact_of_lem (was true next p bytes xs h)) (compact_streams k h.others) tt rest

-- ---- the last stream
-- it is at a place behind the others, where anything may stand in its place, and what reads as it keeps the streams
pub record LastOf (k : ℕ) (p : List ℕ) (xs : List Stream) : Type 0 where
  pub at : ℕ
  pub passed : pass_streams k p ≡ Ok at
  pub last : List Stream
  pub reads : read_streams 0 (drop at p) ≡ streams last
  pub stays : (v : List ℕ) → pass_streams k (take at p ++ v) ≡ Ok at
  pub keeps : (v : List ℕ) → read_streams 0 v ≡ streams last → read_streams k (take at p ++ v) ≡ streams xs

pub last_of : (k : ℕ) (p : List ℕ) → Bytes p → (xs : List Stream) → read_streams k p ≡ streams xs → LastOf k p xs
last_of zero p bytes xs e = record { at = 0; passed = refl; last = xs; reads = e; stays = λ v. refl; keeps = λ v r. r }
last_of (suc k) p bytes xs e =
    let h = held true (read_streams k) p xs e in
    let n = h.taken in
    let l = last_of k (drop n p) (bytes_drop n p bytes) h.others h.rest in
    record {
      at = n + l.at;
      passed = rw (h.means, l.passed);
      last = l.last;
      reads = rw (drop-drop l.at n p) at l.reads;
      stays =
          λ v. rw (take-add n l.at p, append_assoc (take n p) (take l.at (drop n p)) v)
          (spelled_passed (was true (read_streams k) p bytes xs h) (taken_size true (read_streams k) p bytes xs h) k l.at
          (take l.at (drop n p) ++ v) (l.stays v));
      keeps =
          λ v r. rw (take-add n l.at p, append_assoc (take n p) (take l.at (drop n p)) v)
          (exchanged true (read_streams k) p bytes xs h (was true (read_streams k) p bytes xs h) (take l.at (drop n p) ++ v) tt (l.keeps v r));
    }
