-- What is handed back, by what the packet is judged to be (document 02, M-110).
--     unread_stays, clean_stays        it cannot be read, or is clean
--     longer_least, dirty-shorter      it is longer than needed, or dirty
--     shorter_least                    the least length, whatever the verdict
-- Assumes nothing.
use Prim.Native.Nat.{ℕ, ◌≤◌, ◌<◌}
use native.Mathlib.Omega.{arith}
use mathlib.Core.Path.{◌≡◌, refl, sym, ap, ◌∙◌}
use mathlib.Core.List.{List}
use mathlib.Core.Bool.{false}
use mathlib.Core.Logic.{inl, ⊎_elim}
use lib.ListN.{length, take, drop}
use lib.Seq.{take_all}
use Rattle.laws.specs.Bytes.{Bytes}
use Rattle.laws.proofs.Never.{never}
use Rattle.opus_defines.specs.Bounds.{most_packet}
use Rattle.opus_defines.specs.Rules.{rule_refusal}
use Rattle.opus_defines.specs.declared.Rule.{Rule}
use Rattle.opus_toc.specs.Toc.{upper_six}
use Rattle.opus_format.specs.Frames.{cut}
use Rattle.opus_format.specs.Reading.{Reading, refused, accepted, read}
use Rattle.opus_format.proofs.Sound.{ordinary_whole}
use Rattle.opus_header.specs.Compact.{compact}
use Rattle.opus_header.proofs.Shortest.{shortest}
use Rattle.packet_pad.proofs.Spelled.{read_whole}
use Rattle.packet_judge.specs.Judging.{judged, least_length}
use Rattle.packet_judge.specs.declared.Judged.TheVariants.{Unreadable, Dirty, Longer, Clean}
use Rattle.packet_judge.proofs.Verdicts.{unreadable-said, least_unread, least_accepted}
use Rattle.packet_judge.proofs.Taken.{longer_told, clean_told, compact-said}
use Rattle.spelling.specs.Spelling.{spelling, shorter}
use Rattle.spelling.specs.declared.Spelling.TheVariants.{Original}
use Rattle.packet_pad.proofs.Unpadding.{unpad_unread}
use Rattle.spelling.proofs.Choice.{unread_original, handed_original}
use Rattle.spelling.proofs.Handed.{takes, leaves_it, spells, least}

pub unread_stays : (p : List ℕ) (room : ℕ) (rule : Rule) (place : ℕ) → read false p ≡ refused rule place
    → (shorter p room ≡ p) × (spelling p room ≡ Original)
unread_stays p room rule place r =
    let e = unread_original p room (rule_refusal rule place) (unpad_unread p rule place r) in
    (handed_original p room e, e)

-- ---- a packet that the reader accepts
module _ (p : List ℕ) (short : length p ≤ 65535) (bytes : Bytes p) (toc : ℕ) (ns : List ℕ) (first taken : ℕ)
    (r : read false p ≡ accepted toc ns first taken) where
  abbrev rebuilt : List ℕ
  rebuilt = compact false (upper_six toc) (cut ns (drop first p))

  all : take taken p ≡ p
  all = take_all taken p (omega (arith, ordinary_whole p toc ns first taken bytes r))

  clean_left : judged false p ≡ Clean → (room : ℕ) → shorter p room ≡ p
  clean_left j room =
      let same : p ≡ rebuilt = sym all ∙ clean_told false p toc ns first taken bytes r short j in
      (leaves_it p toc ns first taken r room (inl (omega (arith, ap length same)))).0

  longer_is : (n : ℕ) → judged false p ≡ Longer n → length (shorter p most_packet) ≡ n
  longer_is n j =
      let t = (longer_told false p toc ns first taken bytes r short n j).2 in
      let most = least p toc ns first taken r short t.packet t.spelled in
      omega (arith, t.long, t.least (shorter p most_packet) (spells p toc ns first taken r bytes most_packet))

  least_is : length (shorter p most_packet) ≡ least_length false p
  least_is =
      ⊎_elim (λ (e : p ≡ rebuilt). ap length ((leaves_it p toc ns first taken r most_packet (inl (omega (arith, ap length e)))).0 ∙ e))
      (λ (h : length rebuilt < length p). ap length (takes p toc ns first taken r most_packet short h (omega arith)).0)
      (shortest (read_whole p toc ns first taken bytes r))
      ∙ sym (least_accepted false p short toc ns first taken r)

  dirty_less : judged false p ≡ Dirty → length (shorter p most_packet) < length p
  dirty_less j =
      ⊎_elim (λ (e : p ≡ rebuilt). never (let c = compact-said false p toc ns first taken bytes r short (all ∙ e) in cc))
      (λ (h : length rebuilt < length p). omega (arith, ap length (takes p toc ns first taken r most_packet short h (omega arith)).0))
      (shortest (read_whole p toc ns first taken bytes r))

-- ---- by the verdict
module _ (p : List ℕ) (short : length p ≤ 65535) (bytes : Bytes p) where
  by_reading : {P : Type 0} → ((rule : Rule) (place : ℕ) → read false p ≡ refused rule place → judged false p ≡ Unreadable rule place → P)
      → ((toc : ℕ) (ns : List ℕ) (first taken : ℕ) → read false p ≡ accepted toc ns first taken → P) → P
  by_reading {P} f g = go (read false p) refl
    where
      go : (x : Reading) → read false p ≡ x → P
      go (refused rule place) r = f rule place r (unreadable-said false p short rule place r)
      go (accepted toc ns first taken) r = g toc ns first taken r

  pub clean_stays : judged false p ≡ Clean → (room : ℕ) → shorter p room ≡ p
  clean_stays j room =
      by_reading (λ rule place r u. never (cc)) (λ toc ns first taken r. clean_left p short bytes toc ns first taken r j room)

  pub longer_least : (n : ℕ) → judged false p ≡ Longer n → length (shorter p most_packet) ≡ n
  longer_least n j = by_reading (λ rule place r u. never (cc)) (λ toc ns first taken r. longer_is p short bytes toc ns first taken r n j)

  pub dirty-shorter : judged false p ≡ Dirty → length (shorter p most_packet) < length p
  dirty-shorter j = by_reading (λ rule place r u. never (cc)) (λ toc ns first taken r. dirty_less p short bytes toc ns first taken r j)

  pub shorter_least : length (shorter p most_packet) ≡ least_length false p
  shorter_least =
      by_reading (λ rule place r u. ap length (unread_stays p most_packet rule place r).0 ∙ sym (least_unread false p rule place r))
      (λ toc ns first taken r. least_is p short bytes toc ns first taken r)
