-- Which spelling is taken, by what unpadding gives, and what is handed back.
--     long_original, unread_original     a packet that is too long, or that the reader refuses
--     no_shorter, no_room, fits          the compact packet is no shorter, or has no room, or is taken
--     by_spelling                        a fact from the fact at either spelling
--     compact-read, compact-told         what is known where the compact packet is taken
--     handed_original, handed_compact    what is handed back
-- Assumes nothing.
use Prim.Native.Nat.{ℕ, ◌≤◌, ◌<◌}
use native.Mathlib.Omega.{arith}
use mathlib.Core.Path.{◌≡◌, refl}
use mathlib.Core.List.{List}
use mathlib.Core.Bool.{false}
use lib.Dec.{ltb, leb}
use lib.ListN.{length, drop}
use borrow.Author.Tests.{ltb-true, ltb-false, leb-true, leb-false, lt-ltb, le-ltb, le-leb, lt-leb}
use Rattle.laws.proofs.Never.{never, by_test}
use Rattle.opus_defines.specs.Rules.{rule_refusal}
use Rattle.opus_defines.specs.Outcome.{refusal, written}
use Rattle.opus_defines.specs.declared.Refusal.{Refusal}
use Rattle.opus_toc.specs.Toc.{upper_six}
use Rattle.opus_format.specs.Frames.{cut}
use Rattle.opus_format.specs.Reading.{accepted, read}
use Rattle.opus_header.specs.Compact.{compact}
use Rattle.packet_pad.specs.Unpad.{unpad_packet}
use Rattle.spelling.specs.Spelling.{spelling_of, spelling, compact_of, shorter}
use Rattle.spelling.specs.declared.Spelling.{Spelling}
use Rattle.spelling.specs.declared.Spelling.TheVariants.{Original, Compact}
use Rattle.packet_pad.proofs.Unpadding.{by_unpad}

pub compact-written : (p q : List ℕ) → unpad_packet p ≡ written q → compact_of p ≡ q
unfolding compact_of
compact-written p q u = rw u

module _ (p : List ℕ) (room : ℕ) where
  -- ---- the spelling
  pub by_spelling : {P : Type 0} → (spelling p room ≡ Original → P) → ((n : ℕ) → spelling p room ≡ Compact n → P) → P
  by_spelling {P} f g = go (spelling p room) refl
    where
      go : (x : Spelling) → spelling p room ≡ x → P
      go Original e = f e
      go (Compact n) e = g n e

  pub long_original : 65535 < length p → spelling p room ≡ Original
  unfolding spelling
  long_original h = rw (lt-ltb 65535 (length p) h)

  pub unread_original : (c : Refusal) → unpad_packet p ≡ refusal c → spelling p room ≡ Original
  unfolding spelling
  unread_original c u = by_test (ltb 65535 (length p)) (λ t. rw t) (λ t. rw (t, u))

  module _ (q : List ℕ) (u : unpad_packet p ≡ written q) where
    pub written_is : length p ≤ 65535 → spelling_of p room (written q) ≡ spelling p room
    unfolding spelling
    written_is short = rw (le-ltb 65535 (length p) short, u)

    pub no_shorter : length p ≤ length q → spelling p room ≡ Original
    unfolding spelling
    no_shorter h = by_test (ltb 65535 (length p)) (λ t. rw t) (λ t. rw (t, u, le-ltb (length q) (length p) h))

    pub no_room : room < length q → spelling p room ≡ Original
    unfolding spelling
    no_room h =
        by_test (ltb 65535 (length p)) (λ t. rw t)
        (λ t. by_test (ltb (length q) (length p)) (λ s. rw (t, u, s, lt-leb (length q) room h)) (λ s. rw (t, u, s)))

    pub fits : length p ≤ 65535 → length q < length p → length q ≤ room → spelling p room ≡ Compact (length q)
    unfolding spelling
    fits short h g = rw (le-ltb 65535 (length p) short, u, lt-ltb (length q) (length p) h, le-leb (length q) room g)

    fits_only : (n : ℕ) → spelling p room ≡ Compact n → (length q ≡ n) × (n < length p) × (n ≤ room)
    fits_only n e =
        by_test (ltb 65535 (length p)) (λ t. never (let o = long_original (ltb-true 65535 (length p) t) in cc))
        (λ t. by_test (ltb (length q) (length p))
        (λ h. by_test (leb (length q) room)
        (λ g.
        let is = fits (ltb-false 65535 (length p) t) (ltb-true (length q) (length p) h) (leb-true (length q) room g) in
        let same : length q ≡ n = cc in
        (same, omega (arith, ltb-true (length q) (length p) h), omega (arith, leb-true (length q) room g)))
        (λ g. never (let o = no_room (leb-false (length q) room g) in cc)))
        (λ h. never (let o = no_shorter (ltb-false (length q) (length p) h) in cc)))

  -- the compact packet is that of the frames that were read
  pub compact-read : {P : Type 0} (n : ℕ) → spelling p room ≡ Compact n
      → ((toc : ℕ) (ns : List ℕ) (first taken : ℕ) → read false p ≡ accepted toc ns first taken
      → unpad_packet p ≡ written (compact false (upper_six toc) (cut ns (drop first p))) → P)
      → P
  compact-read n e f = by_unpad p (λ rule place r u. never (let o = unread_original (rule_refusal rule place) u in cc)) f

  pub compact-told : (n : ℕ) → spelling p room ≡ Compact n → (length (compact_of p) ≡ n) × (n < length p) × (n ≤ room)
  compact-told n e =
      compact-read n e
      (λ toc ns first taken r u.
      let q = compact false (upper_six toc) (cut ns (drop first p)) in
      rw (compact-written p q u) (fits_only q u n e))

  -- ---- what is handed back
  pub handed_original : spelling p room ≡ Original → shorter p room ≡ p
  unfolding shorter
  handed_original e = rw e

  pub handed_compact : (n : ℕ) → spelling p room ≡ Compact n → shorter p room ≡ compact_of p
  unfolding shorter
  handed_compact n e = rw e
