-- Rule and place in the answers of the multistream calls (document 02, M-100): a stream that the reader refused stands at a place of the packet.
-- Assumes nothing.
use Prim.Native.Nat.{ℕ, zero, suc, ◌+◌, ◌-◌, ◌≤◌}
use native.Mathlib.Omega.{arith}
use native.Mathlib.Nat.{zero-add}
use mathlib.Core.Path.{◌≡◌, refl, sym, ap, ◌∙◌}
use mathlib.Core.List.{List, []}
use mathlib.Core.Bool.{Bool, true, false}
use lib.Dec.{eqb}
use lib.IntN.{ℤ}
use lib.ListN.{length, take, drop}
use lib.Seq.{drop-drop, length-take-le}
use Rattle.laws.specs.Bytes.{Bytes}
use Rattle.laws.proofs.Bytes.{bytes_take}
use Rattle.laws.proofs.Never.{by_test}
use Rattle.opus_defines.specs.Numbers.{refusal_report}
use Rattle.opus_defines.specs.Rules.{rule_refusal, shifted}
use Rattle.opus_defines.specs.Outcome.{leaves}
use Rattle.opus_defines.specs.declared.Refusal.{Refusal}
use Rattle.opus_defines.specs.declared.Rule.{Rule}
use Rattle.opus_defines.proofs.Outcomes.{shifted_rule}
use Rattle.opus_format.specs.Reading.{Reading, refused, accepted, read}
use Rattle.opus.specs.Named.{Named, unnamed}
use Rattle.opus.proofs.Naming.{rule_named}
use Rattle.packet_pad.specs.Lengths.{length_of, lengths_of, by_lengths}
use Rattle.packet_pad.specs.Pad.{pad_reading, pad_packet}
use Rattle.packet_pad.specs.declared.lengths.Lengths.{Lengths}
use Rattle.packet_pad.specs.declared.lengths.Lengths.TheVariants.{Bad, Same, More}
use Rattle.packet_pad.proofs.Given.{more_is}
use Rattle.std.specs.Prelude.{Result, Ok, Err}
use Rattle.multistream.specs.Streams.{streams_of, pass_by, further, then_pass, pass_streams}
use Rattle.multistream.specs.Pad.{behind, pad_last, pad_streams, streams_padded}
use Rattle.multistream.specs.Unpad.{Repacked, unread, repacked, ahead, repack_reading, repack_streams, repacks, unpad_streams, streams_unpadded}
use Rattle.multistream.proofs.Bounds.{pass_within}

-- a refusal by the reader, of a stream at a place of p
record Refuses (p : List ℕ) (e : Refusal) : Type 0 where
  sd : Bool
  at : ℕ
  rule : Rule
  place : ℕ
  reads : read sd (drop at p) ≡ refused rule place
  is : e ≡ rule_refusal rule (at + place)

refuses_named : (p : List ℕ) (e : Refusal) → Refuses p e → Named p (refusal_report e)
refuses_named p e r = rw r.is (rule_named p r.sd r.at r.rule r.place r.reads)

-- n bytes further on
refuses-behind : (p : List ℕ) (n : ℕ) (e : Refusal) → Refuses (drop n p) e → Refuses p (shifted n e)
refuses-behind p n e r =
    let there : drop r.at (drop n p) ≡ drop (n + r.at) p = drop-drop r.at n p in
    let place : n + (r.at + r.place) ≡ n + r.at + r.place = omega arith in
    record {
      sd = r.sd;
      at = n + r.at;
      rule = r.rule;
      place = r.place;
      reads = rw there at r.reads;
      is = ap (shifted n) r.is ∙ shifted_rule n r.rule (r.at + r.place) ∙ ap (rule_refusal r.rule) place;
    }

refuses_here : (p : List ℕ) (sd : Bool) (rule : Rule) (place : ℕ) → read sd p ≡ refused rule place → Refuses p (rule_refusal rule place)
refuses_here p sd rule place r =
    record { sd = sd; at = 0; rule = rule; place = place; reads = r; is = ap (rule_refusal rule) (sym (zero-add place)) }

-- ---- the first streams
abbrev Stops : List ℕ → Result ℕ Refusal → Type 0
Stops p (Ok n) = Unit {0}
Stops p (Err e) = Refuses p e

further_stops : (p : List ℕ) (n : ℕ) (x : Result ℕ Refusal) → Stops (drop n p) x → Stops p (further n x)
further_stops p n (Ok at) r = tt
further_stops p n (Err e) r = refuses-behind p n e r

pass_stops : (k : ℕ) (p : List ℕ) → Stops p (pass_streams k p)
pass_stops zero p = tt
pass_stops (suc k) p = go (pass_stops k) (read true p) refl
  where
    go : ((t : List ℕ) → Stops t (pass_streams k t)) → (x : Reading) → read true p ≡ x → Stops p (then_pass (pass_streams k) p (pass_by x))
    go next (refused rule place) r = refuses_here p true rule place r
    go next (accepted toc ns first taken) r = further_stops p taken (pass_streams k (drop taken p)) (next (drop taken p))

-- ---- pad
-- the last stream, behind `at` bytes
behind_named : (s p : List ℕ) (at m : ℕ) → at ≤ length p → Named p (leaves s (behind (take at p) (pad_packet (drop at p) m))).report
unfolding pad_packet
behind_named s p at m h = go (read false (drop at p)) refl
  where
    go : (x : Reading) → read false (drop at p) ≡ x → Named p (leaves s (behind (take at p) (pad_reading (drop at p) m x))).report
    go (refused rule place) r =
        let back = refuses-behind p at (rule_refusal rule place) (refuses_here (drop at p) false rule place r) in
        rw (length-take-le at p h) (refuses_named p (shifted at (rule_refusal rule place)) back)
    go (accepted toc ns first taken) r = unnamed refl refl

pad_streams_named : (s : List ℕ) (k : ℕ) (p : List ℕ) → Bytes p → (m : ℕ) → Named p (leaves s (pad_streams k p m)).report
unfolding pad_streams
pad_streams_named s k p bytes m = go (pass_streams (k - 1) p) refl (pass_stops (k - 1) p)
  where
    go : (x : Result ℕ Refusal) → pass_streams (k - 1) p ≡ x → Stops p x → Named p (leaves s (pad_last p m x)).report
    go (Err e) q r = refuses_named p e r
    go (Ok at) q r =
        by_test (eqb (length p - at) 0) (λ t. rw t (unnamed refl refl))
        (λ t. rw t (behind_named s p at (m - at) (pass_within (k - 1) p at bytes q)))

pub pad_named : (s : List ℕ) → Bytes s → (len new nb : ℤ) → Named (take (length_of s len) s) (streams_padded s len new nb).report
unfolding streams_padded
pad_named s bytes len new nb =
    by_test (eqb (streams_of nb) 0) (λ t. rw t (unnamed refl refl)) (λ t. rw t (go (lengths_of s len new) refl))
  where
    go : (l : Lengths) → lengths_of s len new ≡ l
        → Named (take (length_of s len) s) (leaves s (by_lengths (λ n m. pad_streams (streams_of nb) (take n s) m) l)).report
    go Bad e = unnamed refl refl
    go Same e = unnamed refl refl
    go (More n m) e = rw (more_is s len new n m e) (pad_streams_named s (streams_of nb) (take n s) (bytes_take n s bytes) m)

-- ---- unpad
abbrev Unread : List ℕ → Repacked → Type 0
Unread p (unread e) = Refuses p e
Unread p (repacked q) = Unit {0}

ahead-unread : (p : List ℕ) (q : List ℕ) (n : ℕ) (x : Repacked) → Unread (drop n p) x → Unread p (ahead q n x)
ahead-unread p q n (unread e) r = refuses-behind p n e r
ahead-unread p q n (repacked v) r = tt

reading-unread : (sd : Bool) (next : List ℕ → Repacked) (p : List ℕ) → ((t : List ℕ) → Unread t (next t)) → (x : Reading) → read sd p ≡ x
    → Unread p (repack_reading sd next p x)
reading-unread sd next p h (refused rule place) r = refuses_here p sd rule place r
reading-unread sd next p h (accepted toc ns first taken) r = ahead-unread p _ taken (next (drop taken p)) (h (drop taken p))

streams_unread : (k : ℕ) (p : List ℕ) → Unread p (repack_streams k p)
streams_unread zero p = reading-unread false (λ t. repacked []) p (λ t. tt) (read false p) refl
streams_unread (suc k) p = reading-unread true (repack_streams k) p (streams_unread k) (read true p) refl

repacks_named : (s p : List ℕ) (x : Repacked) → Unread p x → Named p (leaves s (repacks x)).report
repacks_named s p (unread e) r = refuses_named p e r
repacks_named s p (repacked q) r = unnamed refl refl

pub unpad_named : (s : List ℕ) (len nb : ℤ) → Named (take (length_of s len) s) (streams_unpadded s len nb).report
unfolding streams_unpadded unpad_streams
unpad_named s len nb =
    let p = take (length_of s len) s in
    let k = streams_of nb - 1 in
    by_test (eqb (streams_of nb) 0) (λ t. rw t (unnamed refl refl))
    (λ t. by_test (eqb (length_of s len) 0) (λ u. rw (t, u) (unnamed refl refl))
    (λ u. rw (t, u) (repacks_named s p (repack_streams k p) (streams_unread k p))))
