-- One packet or stream that is read, and its compact packet.
--     cut_count, time_six                as many frames as lengths; the time goes by the upper six bits
--     Readable, readable                 what the reader accepts: where its frames lie
--     look_told, look_refused            what is told of it, or why it cannot be read
--     read_again, put_is                 one that was read before
-- Assumes nothing.
use Prim.Native.Nat.{ℕ, ◌+◌, ◌*◌, ◌/◌, ◌≤◌}
use native.Mathlib.Omega.{arith}
use mathlib.Core.Path.{◌≡◌, refl, sym, ap}
use mathlib.Core.List.{List, [], ◌∷◌}
use mathlib.Core.Bool.{Bool, true}
use lib.ListN.{length, drop}
use lib.Seq.{length-take-le}
use Rattle.laws.specs.Bytes.{Bytes}
use Rattle.opus_defines.specs.declared.Refusal.{Refusal}
use Rattle.std.specs.Prelude.{Err, Ok}
use Rattle.opus_size.specs.Size.{most_bytes}
use Rattle.opus_toc.specs.Toc.{upper_six, time}
use Rattle.opus_format.specs.Frames.{cut, total, longest}
use Rattle.opus_format.specs.Reading.{accepted, read}
use Rattle.opus_format.proofs.Facts.{facts}
use Rattle.opus.specs.Answers.{parsed}
use Rattle.opus.specs.declared.Packet.{Packet}
use Rattle.opus.proofs.Parsed.{lengths_of, parsed_accepted, parsed_refused}
use Rattle.opus_header.specs.Compact.{compact}
use Rattle.opus_header.specs.Sums.{sums_of}
use Rattle.opus_header.specs.Forms.{compact_bytes}
use Rattle.opus_header.specs.declared.Sums.{Sums}
use Rattle.opus_header.proofs.Forms.{own_most, compact-front, sums_few}
use Rattle.opus_header.proofs.Standing.{compact_needs}
use Rattle.multistream.specs.Parts.{compact_by}
use Rattle.stream_join.specs.Join.{lasting}
use Rattle.stream_join.specs.Parts.{stream_at, look_by}
use Rattle.stream_join.specs.declared.Look.{Look}

pub cut_count : (ns s : List ℕ) → length (cut ns s) ≡ length ns
cut_count [] s = refl
cut_count (n ∷ ns) s = rw (cut_count ns (drop n s))

-- the lower two bits of a TOC byte do not count
pub time_six : (toc count : ℕ) → time toc count ≡ time (4 * upper_six toc) count
time_six toc count = let e : 4 * (toc / 4) / 4 ≡ toc / 4 = omega arith in rw e

-- ---- the reader's answer
module _ (sd : Bool) (p : List ℕ) (answer : Packet) (e : Ok answer ≡ parsed sd p) where
  pub record Readable : Type 0 where
    pub inside : answer.count ≤ length answer.lengths
    pub means : read sd p ≡ accepted answer.toc (lengths_of answer) answer.first answer.taken
    pub some : (1 ≤ length (lengths_of answer)) × (length (lengths_of answer) ≤ 48) × (longest (lengths_of answer) ≤ most_bytes)
    pub block : answer.first + total (lengths_of answer) ≤ length p

  pub readable : Bytes p → Readable
  readable bytes =
      let d = parsed_accepted sd p answer e in
      let f = facts sd p answer.toc (lengths_of answer) answer.first answer.taken bytes d.means in
      record { inside = d.inside; means = d.means; some = (f.some, f.few, f.small); block = omega (arith, f.block, f.within) }

  -- the compact packet is delimited as `out` says
  module _ (out : Bool) where
    pub look_told : Bytes p → (m : Sums) → m ≡ sums_of (lengths_of answer)
        → (need : ℕ) → need ≡ compact_bytes answer.count m out → (t : ℕ) → t ≡ time answer.toc answer.count
        → (Ok (record { taken = answer.taken; time = t; bytes = need }) ≡ look_by out p (read sd p)) × (need ≤ 65536)
    look_told bytes m s need k t g =
        let r = readable bytes in
        let ns = lengths_of answer in
        let count : length ns ≡ answer.count = length-take-le answer.count answer.lengths r.inside in
        let long = compact_needs out (upper_six answer.toc) ns p answer.first r.block m s need (rw count k) in
        let lasts : lasting (stream_at p answer.toc ns answer.first) ≡ t =
        rw (cut_count ns (drop answer.first p), count, g) (sym (time_six answer.toc answer.count)) in
        let f = sums_few ns m s r.some.1 r.some.2 in
        (rw (r.means, long, lasts), omega (arith, k, f.0, f.1, own_most out m.last, compact-front answer.count))

  pub put_is : (out : Bool) → Bytes p → compact out (upper_six answer.toc) (cut (lengths_of answer) (drop answer.first p)) ≡ compact_by out p (read sd p)
  put_is out bytes = rw (readable bytes).means

pub look_refused : (sd : Bool) (p : List ℕ) {c : Refusal} → Err c ≡ parsed sd p → length p ≤ 65535 → (out : Bool) → Err c ≡ look_by out p (read sd p)
look_refused sd p {c} e short out = let q = parsed_refused sd p c e short in rw q.3 (ap (λ (x : Refusal). Err x) q.2)
