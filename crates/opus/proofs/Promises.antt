-- What a buyer may count on when a packet is read: it is accepted exactly where a packet of RFC 6716 stands.
-- Assumes nothing.
use Prim.Native.Nat.{ℕ, ◌≤◌, ◌<◌}
use mathlib.Core.Path.{◌≡◌, refl, sym}
use mathlib.Core.List.{List, ◌++◌}
use mathlib.Core.Bool.{Bool}
use lib.IntN.{pos, negsuc}
use lib.ListN.{length, take, drop, take-append-drop}
use lib.Seq.{length-take-le}
use borrow.Author.Tests.{lt-ltb, le-ltb}
use Rattle.laws.specs.Bytes.{Bytes}
use Rattle.opus_defines.specs.declared.Rule.{Rule}
use Rattle.std.specs.Prelude.{Ok, IsOk}
use Rattle.laws.proofs.Options.{is_ok-value}
use Rattle.opus_defines.proofs.Outcomes.{rule_number_lem}
use Rattle.opus_toc.specs.Toc.{upper_six, time}
use Rattle.opus_format.specs.Frames.{cut}
use Rattle.opus_format.specs.Format.{Spells, Behind}
use Rattle.opus_format.specs.Reading.{refused, read}
use Rattle.opus_format.specs.Broken.{Breaks}
use Rattle.opus_format.proofs.Broken.{refused_breaks, refused_stands_not}
use Rattle.opus_format.proofs.Within.{refused_within}
use Rattle.opus.specs.Answers.{parsed, packet_report, packet_number}
use Rattle.opus.specs.declared.Packet.{Packet}
use Rattle.opus.specs.Named.{Named}
use Rattle.opus_format.proofs.Complete.{spelled_read}
use Rattle.opus_format.proofs.Facts.{facts}
use Rattle.opus_format.proofs.Sound.{read_spelled}
use Rattle.opus.proofs.Naming.{reading_named}
use Rattle.opus.proofs.Parsed.{lengths_of, parsed_accepted}

-- a packet of RFC 6716 stands at the front of p, and is all of it in the ordinary form
pub record Stands (sd : Bool) (p : List ℕ) : Type 0 where
  pub six : ℕ
  pub frames : List (List ℕ)
  pub whole : List ℕ
  pub rest : List ℕ
  pub packet : Spells sd six whole frames
  pub front : p ≡ whole ++ rest
  pub behind : Behind sd rest

module _ (sd : Bool) (p : List ℕ) (short : length p ≤ 65535) where
  pub what_stands_is_accepted : Stands sd p → IsOk (parsed sd p)
  unfolding parsed
  what_stands_is_accepted w =
      rw (le-ltb 65535 (length p) short, w.front, spelled_read w.packet w.rest w.behind)

  pub what_is_accepted_stands : Bytes p → IsOk (parsed sd p) → Stands sd p
  what_is_accepted_stands bytes v =
      let some = is_ok-value (parsed sd p) v in
      let r = some.0 in
      let d = parsed_accepted sd p r (sym some.1) in
      let w = read_spelled sd p r.toc (lengths_of r) r.first r.taken bytes d.means in
      record {
        six = upper_six r.toc;
        frames = cut (lengths_of r) (drop r.first p);
        whole = take r.taken p;
        rest = drop r.taken p;
        packet = w.packet;
        front = sym (take-append-drop r.taken p);
        behind = w.behind;
      }

-- What is accepted lasts at most 120 ms, which are 5760 samples at 48 kHz (R5); frames of no bytes take their time too.
pub accepted_lasts : (sd : Bool) (p : List ℕ) → Bytes p → (r : Packet) → parsed sd p ≡ Ok r → time r.toc r.count ≤ 5760
accepted_lasts sd p bytes r v =
    let d = parsed_accepted sd p r (sym v) in
    let count : length (lengths_of r) ≡ r.count = length-take-le r.count r.lengths d.inside in
    rw count at (facts sd p r.toc (lengths_of r) r.first r.taken bytes d.means).short

-- the number that is returned is then the count; above 65,535 bytes it is -1, and else -4
pub accepted_number : (sd : Bool) (p : List ℕ) (r : Packet) → parsed sd p ≡ Ok r → packet_number (parsed sd p) ≡ pos r.count
accepted_number sd p r v = rw v

pub too_long_number : (sd : Bool) (p : List ℕ) → 65535 < length p → packet_number (parsed sd p) ≡ negsuc 0
unfolding parsed
too_long_number sd p h = rw (lt-ltb 65535 (length p) h)

pub unreadable_number : (sd : Bool) (p : List ℕ) (rule : Rule) (place : ℕ) → length p ≤ 65535 → read sd p ≡ refused rule place
    → packet_number (parsed sd p) ≡ negsuc 3
unfolding parsed
unreadable_number sd p rule place h r = rw (le-ltb 65535 (length p) h, r) (rule_number_lem rule place)

-- M-100. Where the reader refuses a packet, the rule that it names is broken at the place that it names, which is within the packet or its end,
pub names_a_broken_rule : (sd : Bool) (p : List ℕ) → Bytes p → (rule : Rule) (place : ℕ) → read sd p ≡ refused rule place
    → (Breaks sd p rule place) × (place ≤ length p)
names_a_broken_rule sd p bytes rule place r = (refused_breaks sd p bytes rule place r, refused_within sd p rule place r)

-- and no packet of RFC 6716 stands there;
pub unreadable_stands_not : (sd : Bool) (p : List ℕ) (rule : Rule) (place : ℕ) → read sd p ≡ refused rule place → Stands sd p → ⊥
unreadable_stands_not sd p rule place r w = refused_stands_not sd p rule place r w.six w.whole w.rest w.frames w.packet w.behind w.front

-- in every other answer both are 0.
pub reader_names : (sd : Bool) (p : List ℕ) → Named p (packet_report (parsed sd p))
reader_names = reading_named
