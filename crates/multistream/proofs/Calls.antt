-- What the multistream calls answer, by their numbers and by what reading the streams answers.
--     pad_no_streams .. pad_more        pad, by the number of streams and its lengths
--     unpad_no_streams .. unpad_some    unpad likewise
--     pad_refuses, unpad_refuses        lengths that no call takes
--     pad_passed, unpad_passed          a call is passed the bits of its numbers
--     pad_stuck, pad_last_lem               pad, by what reading the first streams answers
--     last_none, last-behind            the last stream, where no byte is left for it, and where it is lent from its place on
--     unpad_refused, unpad_all          unpad, by the verdict on the streams
-- Assumes nothing.
use Prim.Native.Nat.{ℕ, ◌+◌, ◌-◌, ◌≤◌}
use native.Mathlib.Omega.{arith}
use mathlib.Core.Path.{◌≡◌, refl, sym, ap, ◌∙◌}
use mathlib.Core.List.{List, [], ◌++◌}
use lib.IntN.{ℤ}
use lib.ListN.{length, take, drop, take-append-drop, length-take}
use lib.Seq.{length-take-le, take-take}
use mir.Syntax.{w32}
use mir.Val.{to_z, of_z, SFits}
use mir.ValLaws.{to_z-of_z}
use lib.Dec.{eqb}
use borrow.Author.Tests.{ne_eqb, eqb-true, eqb-false}
use borrow.Author.Rules.{part_to_end}
use borrow.Rule.Slice.PartMut.{put_mid}
use Rattle.laws.proofs.Never.{never, by_test}
use Rattle.blocks.proofs.Sets.{drop-take}
use Rattle.opus_defines.specs.Numbers.{refusal_report, report_of}
use Rattle.opus_defines.specs.Rules.{shifted}
use Rattle.std.specs.Prelude.{Err, Ok, Result}
use Rattle.opus_defines.specs.Outcome.{Effect, refusal, wrote, written, leaves, refuses}
use Rattle.opus_defines.specs.declared.Refusal.{Refusal}
use Rattle.opus_defines.specs.declared.Refusal.TheVariants.{BadArg}
use Rattle.opus_defines.proofs.Outcomes.{meets}
use Rattle.packet_pad.specs.Lengths.{length_of, lengths_of}
use Rattle.packet_pad.specs.Pad.{answered, pad_packet}
use Rattle.packet_pad.proofs.Calls.{pad_place}
use Rattle.packet_pad.specs.declared.lengths.Lengths.TheVariants.{Bad, Same, More}
use Rattle.multistream.specs.Streams.{streams_of, pass_streams}
use Rattle.multistream.specs.Pad.{behind, pad_last, pad_streams, streams_padded}
use Rattle.multistream.specs.Unpad.{Repacked, unread, repacked, repack_streams, repacks, unpad_streams, streams_unpadded}
use Rattle.multistream.specs.Parts.{shifted_answer, verdict_of, packed_of}
use Rattle.blocks.proofs.LentParts.{put_back, sets-front}

-- ---- the number of streams, and the lengths
module _ (s : List ℕ) (len new nb : ℤ) (k : ℕ) (e : streams_of nb ≡ k) where
  pub pad_no_streams : k ≡ 0 → streams_padded s len new nb ≡ refuses BadArg s
  unfolding streams_padded
  pad_no_streams z = rw (e, z)

  module _ (some : k ≡ 0 → ⊥) where
    pub pad_bad : lengths_of s len new ≡ Bad → streams_padded s len new nb ≡ refuses BadArg s
    unfolding streams_padded
    pad_bad l = rw (e, ne_eqb k 0 some, l)

    pub pad_same : lengths_of s len new ≡ Same → streams_padded s len new nb ≡ leaves s (wrote 0 [])
    unfolding streams_padded
    pad_same l = rw (e, ne_eqb k 0 some, l)

    pub pad_more : (n m : ℕ) → lengths_of s len new ≡ More n m → streams_padded s len new nb ≡ leaves s (pad_streams k (take n s) m)
    unfolding streams_padded
    pad_more n m l = rw (e, ne_eqb k 0 some, l)

module _ (s : List ℕ) (len nb : ℤ) (k : ℕ) (e : streams_of nb ≡ k) where
  pub unpad_no_streams : k ≡ 0 → streams_unpadded s len nb ≡ refuses BadArg s
  unfolding streams_unpadded
  unpad_no_streams z = rw (e, z)

  module _ (some : k ≡ 0 → ⊥) (n : ℕ) (l : length_of s len ≡ n) where
    pub unpad_none : n ≡ 0 → streams_unpadded s len nb ≡ refuses BadArg s
    unfolding streams_unpadded
    unpad_none z = rw (e, ne_eqb k 0 some, l, z)

    pub unpad_some : (n ≡ 0 → ⊥) → streams_unpadded s len nb ≡ leaves s (unpad_streams k (take n s))
    unfolding streams_unpadded
    unpad_some z = rw (e, ne_eqb k 0 some, l, ne_eqb n 0 z)

-- lengths that no call takes, whatever the number of streams
pub pad_refuses : (s : List ℕ) (len new nb : ℤ) → lengths_of s len new ≡ Bad → streams_padded s len new nb ≡ refuses BadArg s
pad_refuses s len new nb l =
    by_test (eqb (streams_of nb) 0)
    (λ t. pad_no_streams s len new nb (streams_of nb) refl (eqb-true (streams_of nb) 0 t))
    (λ t. pad_bad s len new nb (streams_of nb) refl (eqb-false (streams_of nb) 0 t) l)

pub unpad_refuses : (s : List ℕ) (len nb : ℤ) → length_of s len ≡ 0 → streams_unpadded s len nb ≡ refuses BadArg s
unpad_refuses s len nb l =
    by_test (eqb (streams_of nb) 0)
    (λ t. unpad_no_streams s len nb (streams_of nb) refl (eqb-true (streams_of nb) 0 t))
    (λ t. unpad_none s len nb (streams_of nb) refl (eqb-false (streams_of nb) 0 t) 0 l refl)

pub pad_passed : (s : List ℕ) (len new nb : ℤ) → SFits w32 len → SFits w32 new → SFits w32 nb
    → streams_padded s len new nb ≡ streams_padded s (to_z w32 (of_z w32 len)) (to_z w32 (of_z w32 new)) (to_z w32 (of_z w32 nb))
pad_passed s len new nb f g h = rw (to_z-of_z w32 len f, to_z-of_z w32 new g, to_z-of_z w32 nb h)

pub unpad_passed : (s : List ℕ) (len nb : ℤ) → SFits w32 len → SFits w32 nb
    → streams_unpadded s len nb ≡ streams_unpadded s (to_z w32 (of_z w32 len)) (to_z w32 (of_z w32 nb))
unpad_passed s len nb f h = rw (to_z-of_z w32 len f, to_z-of_z w32 nb h)

-- ---- pad: what reading the first streams answered
module _ (p : List ℕ) (k new : ℕ) where
  pub pad_stuck : (e : Refusal) → pass_streams (k - 1) p ≡ Err e → pad_streams k p new ≡ refusal e
  unfolding pad_streams
  pad_stuck e h = rw h

  pub pad_last_lem : (at : ℕ) → pass_streams (k - 1) p ≡ Ok at → pad_streams k p new ≡ pad_last p new (Ok at)
  unfolding pad_streams
  pad_last_lem at h = rw h

-- bytes that stay in front
behind-leaves : (s : List ℕ) (at : ℕ) → at ≤ length s → (x : Effect)
    → (report_of (shifted_answer at (answered x)) ≡ (leaves s (behind (take at s) x)).report)
    × (take at s ++ (leaves (drop at s) x).bytes ≡ (leaves s (behind (take at s) x)).bytes)
behind-leaves s at h (refusal e) = (ap (λ n. refusal_report (shifted n e)) (sym (length-take-le at s h)), take-append-drop at s)
behind-leaves s at h (wrote n vs) = (refl, sets-front s at vs h)

module _ (s : List ℕ) (len new at : ℕ) (fits : len ≤ length s) where
  size : length (take len s) ≡ len
  size = length-take-le len s fits

  pub last_none : at ≡ len → pad_last (take len s) new (Ok at) ≡ refusal BadArg
  last_none e =
      let none : length (take len s) - at ≡ 0 = omega (arith, size) in
      rw none

  module _ (inside : at ≤ len) (some : at ≡ len → ⊥) where
    last_some : pad_last (take len s) new (Ok at) ≡ behind (take at s) (pad_packet (take (len - at) (drop at s)) (new - at))
    last_some =
        let left : length (take len s) - at ≡ len - at = omega (arith, size) in
        rw (left, ne_eqb (len - at) 0 (λ z. some (omega arith)), take-take at len s inside, drop-take at len s)

    -- as the code lends the last stream
    pub last-behind : {r t : Result ℕ Refusal} {v : List ℕ}
        → let d = take (length s - at) (drop at s) in let x = pad_packet (take (len - at) d) (new - at) in
        r ≡ answered x → t ≡ shifted_answer at r → v ≡ (leaves d x).bytes
        → (report_of t ≡ (leaves s (pad_last (take len s) new (Ok at))).report)
        × (put_mid at (length s - at) s v ≡ (leaves s (pad_last (take len s) new (Ok at))).bytes)
    last-behind {v = v} a t b =
        let x = pad_packet (take (len - at) (drop at s)) (new - at) in
        let q = behind-leaves s at (omega arith) x in
        let a' = rw (part_to_end s at) at a in
        let b' = rw (part_to_end s at) at b in
        meets (ap (leaves s) last_some) (ap report_of (t ∙ ap (shifted_answer at) a') ∙ q.0) (rw (put_back s at v, b') q.1)

    -- and the place of its refusal is within it
    pub last_place : {r : Result ℕ Refusal} → r ≡ answered (pad_packet (take (len - at) (take (length s - at) (drop at s))) (new - at))
        → (report_of r).place + at ≤ len
    last_place e =
        let d = drop at s in
        let f = rw (part_to_end s at) at e in
        rw f (omega (arith, pad_place (take (len - at) d) (new - at), length-take (len - at) d))

-- ---- unpad: the verdict on the streams
accepted_repacks : (x : Repacked) → verdict_of x ≡ Ok tt → repacks x ≡ written (packed_of x)
accepted_repacks (unread e) v = never (cc)
accepted_repacks (repacked q) v = refl

refused_repacks : (x : Repacked) (e : Refusal) → verdict_of x ≡ Err e → repacks x ≡ refusal e
refused_repacks (unread e) f v = let same : e ≡ f = cc in rw same
refused_repacks (repacked q) f v = never (cc)

module _ (k : ℕ) (p : List ℕ) where
  pub unpad_refused : (e : Refusal) → verdict_of (repack_streams (k - 1) p) ≡ Err e → unpad_streams k p ≡ refusal e
  unfolding unpad_streams
  unpad_refused = refused_repacks (repack_streams (k - 1) p)

  pub unpad_all : verdict_of (repack_streams (k - 1) p) ≡ Ok tt → unpad_streams k p ≡ written (packed_of (repack_streams (k - 1) p))
  unfolding unpad_streams
  unpad_all = accepted_repacks (repack_streams (k - 1) p)
