-- What other crates may cite of the chooser.
--     original_is, compact_is     what is handed back in either spelling
--     no_longer, not-empty        how long it is
--     roomy, cramped              a room that holds what the longest room would give, and one that does not
--     again                       what is handed back stays as it is
-- Assumes nothing.
use Prim.Native.Nat.{ℕ, ◌≤◌, ◌<◌}
use native.Mathlib.Omega.{arith}
use mathlib.Core.Path.{◌≡◌, sym, ap, ◌∙◌}
use mathlib.Core.List.{List}
use mathlib.Core.Bool.{false}
use lib.Dec.{ltb}
use lib.ListN.{length, drop}
use borrow.Author.Tests.{ltb-true, ltb-false}
use Rattle.laws.specs.Bytes.{Bytes}
use Rattle.laws.proofs.Never.{by_test}
use Rattle.opus_defines.specs.Bounds.{most_packet}
use Rattle.opus_defines.specs.Rules.{rule_refusal}
use Rattle.opus_defines.specs.Outcome.{written}
use Rattle.opus_toc.specs.Toc.{upper_six}
use Rattle.opus_format.specs.Frames.{cut}
use Rattle.opus_format.specs.Format.{Spells}
use Rattle.opus_header.specs.Compact.{compact}
use Rattle.opus_header.proofs.Rebuilt.{rebuilds, compact_of_lem}
use Rattle.packet_pad.specs.Unpad.{unpad_packet}
use Rattle.packet_pad.proofs.Spelled.{read_whole, unpads}
use Rattle.packet_pad.proofs.Unpadding.{by_unpad}
use Rattle.spelling.specs.Spelling.{spelling, compact_of, shorter}
use Rattle.spelling.specs.declared.Spelling.TheVariants.{Original, Compact}
use Rattle.spelling.proofs.Choice.{by_spelling, unread_original, no_shorter, no_room, fits, compact-read, compact-told, compact-written}
use Rattle.spelling.proofs.Choice.{handed_original, handed_compact}

-- ---- what is handed back
module _ (p : List ℕ) (room : ℕ) where
  pub original_is : spelling p room ≡ Original → shorter p room ≡ p
  original_is = handed_original p room

  pub compact_is : (n : ℕ) → spelling p room ≡ Compact n
      → (shorter p room ≡ compact_of p) × (length (compact_of p) ≡ n) × (n < length p) × (n ≤ room)
  compact_is n e = let k = compact-told p room n e in (handed_compact p room n e, k.0, k.1, k.2)

  pub no_longer : length (shorter p room) ≤ length p
  no_longer =
      by_spelling p room (λ e. rw (original_is e) (omega arith)) (λ n e. let k = compact_is n e in rw k.0 (omega arith))

  pub not-empty : Bytes p → 1 ≤ length p → 1 ≤ length (shorter p room)
  not-empty bytes some =
      by_spelling p room (λ e. rw (original_is e) some)
      (λ n e. compact-read p room n e
      (λ toc ns first taken r u.
      rw (handed_compact p room n e, compact-written p (compact false (upper_six toc) (cut ns (drop first p))) u)
      (rebuilds false p toc ns first taken bytes r).0))

-- ---- the room
module _ (p : List ℕ) (room : ℕ) (short : length p ≤ 65535) where
  -- where q is the compact packet
  module _ (q : List ℕ) (u : unpad_packet p ≡ written q) where
    most : length q < length p → length (shorter p most_packet) ≡ length q
    most h = ap length (handed_compact p most_packet (length q) (fits p most_packet q u short h (omega arith)) ∙ compact-written p q u)

    own : length p ≤ length q → length (shorter p most_packet) ≡ length p
    own h = ap length (handed_original p most_packet (no_shorter p most_packet q u h))

    written_roomy : length (shorter p most_packet) ≤ room → spelling p room ≡ spelling p most_packet
    written_roomy k =
        by_test (ltb (length q) (length p))
        (λ t. let h = ltb-true (length q) (length p) t in
        fits p room q u short h (omega (arith, most h)) ∙ sym (fits p most_packet q u short h (omega arith)))
        (λ t. let h = ltb-false (length q) (length p) t in no_shorter p room q u h ∙ sym (no_shorter p most_packet q u h))

    written_cramped : room < length (shorter p most_packet) → (spelling p room ≡ Original) × (room < length p)
    written_cramped k =
        by_test (ltb (length q) (length p))
        (λ t. let h = ltb-true (length q) (length p) t in (no_room p room q u (omega (arith, most h)), omega (arith, most h)))
        (λ t. let h = ltb-false (length q) (length p) t in (no_shorter p room q u h, omega (arith, own h)))

  pub roomy : length (shorter p most_packet) ≤ room → spelling p room ≡ spelling p most_packet
  roomy k =
      by_unpad p
      (λ rule place r u. unread_original p room (rule_refusal rule place) u ∙ sym (unread_original p most_packet (rule_refusal rule place) u))
      (λ toc ns first taken r u. written_roomy (compact false (upper_six toc) (cut ns (drop first p))) u k)

  pub cramped : room < length (shorter p most_packet) → (spelling p room ≡ Original) × (room < length p)
  cramped k =
      by_unpad p
      (λ rule place r u. (unread_original p room (rule_refusal rule place) u, omega (arith, no_longer p most_packet)))
      (λ toc ns first taken r u. written_cramped (compact false (upper_six toc) (cut ns (drop first p))) u k)

-- ---- a second time
-- the compact packet of a packet is its own
compact_stays : {six : ℕ} {p : List ℕ} {frames : List (List ℕ)} → Spells false six p frames → (room : ℕ)
    → shorter (compact false six frames) room ≡ compact false six frames
compact_stays {six} {p} {frames} w room =
    let q = compact false six frames in
    handed_original q room (no_shorter q room q (unpads (compact_of_lem w)) (omega arith))

pub again : (p : List ℕ) (room : ℕ) → Bytes p → shorter (shorter p room) room ≡ shorter p room
again p room bytes =
    by_spelling p room (λ e. ap (λ (x : List ℕ). shorter x room) (handed_original p room e))
    (λ n e. compact-read p room n e
    (λ toc ns first taken r u.
    rw (handed_compact p room n e, compact-written p (compact false (upper_six toc) (cut ns (drop first p))) u)
    (compact_stays (read_whole p toc ns first taken bytes r) room)))
