-- What the reader's answer says of the bytes that were read.
--     Read, parsed_accepted     an accepted packet: the reading, with the lengths as a part of the answer's array
--     parsed_refused            a refused one that is not too long: a rule of RFC 6716 failed
-- Assumes nothing.
use Prim.Native.Nat.{ℕ, ◌-◌, ◌≤◌}
use native.Mathlib.Omega.{arith}
use mathlib.Core.Path.{◌≡◌, refl}
use mathlib.Core.List.{List}
use mathlib.Core.Bool.{Bool}
use lib.Dec.{ltb}
use lib.ListN.{length, take, replicate, length-append}
use lib.Seq.{take-append_seam}
use borrow.Author.Tests.{ltb-false, le-ltb}
use Rattle.laws.proofs.Never.{never, by_test}
use Rattle.opus_defines.specs.declared.Refusal.{Refusal}
use Rattle.opus_defines.specs.Rules.{rule_refusal}
use Rattle.std.specs.Prelude.{Err, Ok}
use Rattle.opus_defines.specs.declared.Rule.{Rule}
use Rattle.opus_format.specs.Frames.{padded48}
use Rattle.opus_format.specs.Reading.{Reading, refused, accepted, read}
use Rattle.opus.specs.Answers.{packet_of, parsed}
use Rattle.opus.specs.declared.Packet.{Packet}

-- the lengths of the frames, as the code lends them
abbrev pub lengths_of : Packet → List ℕ
lengths_of r = take r.count r.lengths

pub record Read (sd : Bool) (p : List ℕ) (r : Packet) : Type 0 where
  pub short : length p ≤ 65535
  pub inside : r.count ≤ length r.lengths
  pub means : read sd p ≡ accepted r.toc (lengths_of r) r.first r.taken

module _ (sd : Bool) (p : List ℕ) where
  read_of : (toc : ℕ) (ns : List ℕ) (first taken : ℕ) → length p ≤ 65535 → read sd p ≡ accepted toc ns first taken
      → Read sd p (record { toc = toc; count = length ns; lengths = padded48 ns; first = first; taken = taken })
  read_of toc ns first taken h q =
      record { short = h; inside = omega (arith, length-append ns (replicate (48 - length ns) 0)); means = rw (take-append_seam ns) q }

  pub parsed_accepted : (r : Packet) → Ok r ≡ parsed sd p → Read sd p r
  unfolding parsed
  parsed_accepted r e =
      by_test (ltb 65535 (length p)) (λ t. never (let x = rw t at e in cc))
      (λ t. go (ltb-false 65535 (length p) t) (rw t at e) (read sd p) refl)
    where
      go : length p ≤ 65535 → Ok r ≡ packet_of (read sd p) → (x : Reading) → read sd p ≡ x → Read sd p r
      go h f (refused rule place) q = never (let x = rw q at f in cc)
      go h f (accepted toc ns first taken) q =
          let x = rw q at f in
          let same : r ≡ record { toc = toc; count = length ns; lengths = padded48 ns; first = first; taken = taken } = cc in
          rw same (read_of toc ns first taken h q)

  pub parsed_refused : (c : Refusal) → Err c ≡ parsed sd p → length p ≤ 65535
      → (rule : Rule) × (place : ℕ) × (c ≡ rule_refusal rule place) × (read sd p ≡ refused rule place)
  unfolding parsed
  parsed_refused c e h = go (rw (le-ltb 65535 (length p) h) at e) (read sd p) refl
    where
      go : Err c ≡ packet_of (read sd p) → (x : Reading) → read sd p ≡ x
          → (rule : Rule) × (place : ℕ) × (c ≡ rule_refusal rule place) × (read sd p ≡ refused rule place)
      go f (refused rule place) q = (rule, place, let x = rw q at f in cc, q)
      go f (accepted toc ns first taken) q = never (let x = rw q at f in cc)
