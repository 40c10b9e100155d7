-- Which text the listing is, by the reader's answer.
--     Read, listing-read                       an accepted packet
--     refused_room, listing_refused            a refused one
--     listing_most                             how long any listing is
-- Assumes nothing.
use Prim.Native.Nat.{ℕ, ◌+◌, ◌≤◌, ◌<◌}
use native.Mathlib.Omega.{arith}
use mathlib.Core.Path.{◌≡◌, refl, sym, ◌∙◌}
use mathlib.Core.List.{List}
use mathlib.Core.Bool.{false}
use lib.Dec.{ltb}
use lib.ListN.{length}
use mir.Syntax.{w32}
use mir.Val.{to_z, of_z}
use borrow.Author.Tests.{ltb-false, le-ltb, ltb-true}
use Rattle.laws.specs.Bytes.{Bytes}
use Rattle.laws.proofs.Never.{never, by_test}
use Rattle.opus_defines.specs.Numbers.{refusal_report}
use Rattle.opus_defines.specs.declared.Refusal.{Refusal}
use Rattle.opus_defines.specs.declared.Refusal.TheVariants.{BadArg}
use Rattle.opus_defines.specs.declared.Report.{Report}
use Rattle.std.specs.Prelude.{Err, Ok, Result}
use Rattle.opus_size.specs.Size.{most_bytes}
use Rattle.opus_toc.specs.Toc.{upper_six}
use Rattle.opus_format.specs.Frames.{total, longest}
use Rattle.opus_format.specs.Reading.{Reading, refused, accepted, read}
use Rattle.opus.specs.Answers.{packet_of, parsed}
use Rattle.opus.specs.declared.Packet.{Packet}
use Rattle.opus_format.proofs.Facts.{facts}
use Rattle.opus_format.proofs.Within.{refused_within}
use Rattle.opus.proofs.Parsed.{lengths_of, parsed_accepted, parsed_refused}
use Rattle.opus.proofs.AtPacket.{parse_long, parse_read}
use Rattle.opus_header.specs.Sums.{sums_of}
use Rattle.opus_header.specs.Forms.{compact_bytes}
use Rattle.opus_header.proofs.Forms.{compact-front, sums_few}
use Rattle.opus_header.proofs.Standing.{compact_needs}
use Rattle.opus_defines.proofs.Others.{refusal_few, report_rule, refusal_passed}
use Rattle.opus_defines.proofs.Outcomes.{rule_report}
use Rattle.listing_text.specs.Listing.{packet_text, report_line, refused_line, listed, listing}
use Rattle.listing_text.proofs.Room.{packet_most, report_most}

-- ---- a packet p that was read, with the reader's answer r
-- the bytes of its compact packet, as they are counted
abbrev pub small : Packet → ℕ
small r = compact_bytes (length (lengths_of r)) (sums_of (lengths_of r)) false

pub record Read (p : List ℕ) (r : Packet) : Type 0 where
  pub inside : r.count ≤ length r.lengths
  pub some : (1 ≤ length (lengths_of r)) × (length (lengths_of r) ≤ 48) × (longest (lengths_of r) ≤ most_bytes)
  pub places : r.first + total (lengths_of r) ≤ 65535
  pub text : listing p ≡ packet_text r.toc (lengths_of r) r.first r.taken (small r)
  pub room : length (packet_text r.toc (lengths_of r) r.first r.taken (small r)) ≤ 2048

small_most : (ns : List ℕ) → length ns ≤ 48 → longest ns ≤ most_bytes → compact_bytes (length ns) (sums_of ns) false < 100000
small_most ns h k = omega (arith, compact-front (length ns), sums_few ns (sums_of ns) refl h k)

pub listing-read : (p : List ℕ) (r : Packet) → Bytes p → Ok r ≡ parsed false p → Read p r
unfolding listing listed
listing-read p r bytes e =
    let d = parsed_accepted false p r e in
    let ns = lengths_of r in
    let f = facts false p r.toc ns r.first r.taken bytes d.means in
    let within : r.first + total ns ≤ length p = omega (arith, f.block, f.within) in
    record {
      inside = d.inside;
      some = (f.some, f.few, f.small);
      places = omega (arith, d.short);
      text = rw (le-ltb 65535 (length p) d.short, d.means, compact_needs false (upper_six r.toc) ns p r.first within (sums_of ns) refl (small r) refl);
      room =
          packet_most r.toc ns r.first r.taken (small r) (omega (arith, f.byte)) f.few (omega (arith, f.short)) (omega (arith, d.short))
          (omega (arith, f.within, d.short)) (small_most ns f.few f.small);
    }

-- ---- a packet that was refused
line_most_lem : (c : Refusal) → (refusal_report c).place < 65536 → length (refused_line c) ≤ 24
line_most_lem c h =
    let k = refusal_few c in
    rw k.2 (report_most k.0 (refusal_report c).rule (refusal_report c).place (omega (arith, k.1)) (omega (arith, report_rule c)) (omega (arith, h)))

-- the reader refuses p, and x is what it says, as it is passed on
module _ (p : List ℕ) (c : Refusal) (e : Err c ≡ parsed false p) where
  place_few : (refusal_report c).place < 65536
  place_few =
      by_test (ltb 65535 (length p))
      (λ t. let y = e ∙ sym (parse_long false p (ltb-true 65535 (length p) t)) in let b : c ≡ BadArg = cc in rw b (omega arith))
      (λ t.
      let short = ltb-false 65535 (length p) t in
      let q = parsed_refused false p c e short in
      rw (q.2, rule_report q.0 q.1) (omega (arith, refused_within false p q.0 q.1 q.3, short)))

  module _ (x : Report) (n : x ≡ refusal_report c) where
    line_is : report_line (to_z w32 (of_z w32 x.number)) x.rule x.place ≡ refused_line c
    line_is = rw (n, refusal_passed c)

    pub refused_room : length (report_line (to_z w32 (of_z w32 x.number)) x.rule x.place) ≤ 2048
    refused_room = rw line_is (omega (arith, line_most_lem c place_few))

    pub listing_refused : listing p ≡ report_line (to_z w32 (of_z w32 x.number)) x.rule x.place
    unfolding listing listed
    listing_refused =
        rw line_is
        (by_test (ltb 65535 (length p)) (λ t. rw t (let y = e ∙ sym (parse_long false p (ltb-true 65535 (length p) t)) in cc))
        (λ t. rw t (go (e ∙ sym (parse_read false p (ltb-false 65535 (length p) t))) (read false p) refl)))
      where
        go : Err c ≡ packet_of (read false p) → (y : Reading) → read false p ≡ y → listed p (read false p) ≡ refused_line c
        go f (refused rule place) q = rw q (let y = rw q at f in cc)
        go f (accepted toc ns first taken) q = never (let y = rw q at f in cc)

-- ---- any packet
pub listing_most : (p : List ℕ) → Bytes p → length (listing p) ≤ 2048
listing_most p bytes = go (parsed false p) refl
  where
    go : (y : Result Packet Refusal) → y ≡ parsed false p → length (listing p) ≤ 2048
    go (Ok r) e = let d = listing-read p r bytes e in rw d.text d.room
    go (Err c) e = rw (listing_refused p c e (refusal_report c) refl) (refused_room p c e (refusal_report c) refl)
