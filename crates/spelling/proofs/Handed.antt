-- What is handed back for a packet that the reader accepts.
--     spells, frames_stay      a packet of RFC 6716 with its frames and upper six TOC bits
--     takes, leaves_it         the compact packet or the packet itself
--     least                    no packet with its frames is shorter, where the room is the longest
-- Assumes nothing.
use Prim.Native.Nat.{ℕ, ◌≤◌, ◌<◌}
use native.Mathlib.Omega.{arith}
use mathlib.Core.Path.{◌≡◌, sym, ap, ◌∙◌}
use mathlib.Core.List.{List}
use mathlib.Core.Bool.{false}
use mathlib.Core.Logic.{◌⊎◌, inl, ⊎_elim}
use lib.Dec.{ltb}
use lib.ListN.{length, get_or, drop}
use borrow.Author.Tests.{ltb-true, ltb-false}
use Rattle.laws.specs.Bytes.{Bytes}
use Rattle.laws.proofs.Never.{by_test}
use Rattle.opus_defines.specs.Bounds.{most_packet}
use Rattle.opus_defines.specs.Outcome.{written}
use Rattle.opus_toc.specs.Toc.{upper_six}
use Rattle.opus_format.specs.Frames.{cut}
use Rattle.opus_format.specs.Format.{Spells}
use Rattle.opus_format.specs.Reading.{accepted, read, frames_of}
use Rattle.opus_header.specs.Compact.{compact}
use Rattle.opus_header.proofs.Rebuilt.{compact_of_lem, never_longer}
use Rattle.packet_pad.specs.Unpad.{unpad_packet}
use Rattle.packet_pad.proofs.Spelled.{read_whole, reads_back}
use Rattle.spelling.specs.Spelling.{spelling, shorter}
use Rattle.spelling.specs.declared.Spelling.TheVariants.{Original, Compact}
use Rattle.packet_pad.proofs.Unpadding.{unpad_taken}
use Rattle.spelling.proofs.Choice.{by_spelling, no_shorter, no_room, fits, compact-written, handed_original, handed_compact}

module _ (p : List ℕ) (toc : ℕ) (ns : List ℕ) (first taken : ℕ) (r : read false p ≡ accepted toc ns first taken) where
  abbrev six : ℕ
  six = upper_six toc

  abbrev frames : List (List ℕ)
  frames = cut ns (drop first p)

  abbrev rebuilt : List ℕ
  rebuilt = compact false six frames

  unpads_to : unpad_packet p ≡ written rebuilt
  unpads_to = unpad_taken p toc ns first taken r

  module _ (room : ℕ) where
    pub takes : length p ≤ 65535 → length rebuilt < length p → length rebuilt ≤ room
        → (shorter p room ≡ rebuilt) × (spelling p room ≡ Compact (length rebuilt))
    takes short h g =
        let e = fits p room rebuilt unpads_to short h g in
        (handed_compact p room (length rebuilt) e ∙ compact-written p rebuilt unpads_to, e)

    pub leaves_it : (length p ≤ length rebuilt) ⊎ (room < length rebuilt) → (shorter p room ≡ p) × (spelling p room ≡ Original)
    leaves_it k =
        let e = ⊎_elim (no_shorter p room rebuilt unpads_to) (no_room p room rebuilt unpads_to) k in
        (handed_original p room e, e)

  module _ (bytes : Bytes p) where
    whole : Spells false six p frames
    whole = read_whole p toc ns first taken bytes r

    pub spells : (room : ℕ) → Spells false six (shorter p room) frames
    spells room =
        by_spelling p room (λ e. rw (handed_original p room e) whole)
        (λ n e. rw (handed_compact p room n e, compact-written p rebuilt unpads_to) (compact_of_lem whole))

    pub frames_stay : (room : ℕ)
        → (frames_of (shorter p room) (read false (shorter p room)) ≡ frames_of p (read false p))
        × (upper_six (get_or (shorter p room) 0 0) ≡ upper_six (get_or p 0 0))
    frames_stay room =
        let now = reads_back (spells room) in
        let was = reads_back whole in
        (now.0 ∙ sym was.0, now.1 ∙ sym was.1)

  module _ (short : length p ≤ 65535) where
    no_more : length (shorter p most_packet) ≤ length rebuilt
    no_more =
        by_test (ltb (length rebuilt) (length p))
        (λ t. let h = ltb-true (length rebuilt) (length p) t in omega (arith, ap length (takes most_packet short h (omega arith)).0))
        (λ t. let h = ltb-false (length rebuilt) (length p) t in omega (arith, ap length (leaves_it most_packet (inl h)).0))

    pub least : (q : List ℕ) → Spells false six q frames → length (shorter p most_packet) ≤ length q
    least q v = omega (arith, no_more, never_longer v)
