-- What a buyer may count on of strict adds (document 02, M-105). Sequences in which strict and ordinary adds are mixed are in Promises.antt.
-- Assumes nothing.
use Prim.Native.Nat.{ℕ, ◌≤◌}
use mathlib.Core.Path.{◌≡◌, refl, ap}
use mathlib.Core.List.{List}
use mathlib.Core.Bool.{Bool, true, false}
use lib.IntN.{negsuc}
use lib.ListN.{length}
use Rattle.laws.proofs.Never.{never, by_test}
use Rattle.opus_defines.specs.Numbers.{plain, verdict_report}
use Rattle.opus_defines.specs.declared.Refusal.{Refusal}
use Rattle.std.specs.Prelude.{Err, Ok, Result}
use Rattle.opus_format.specs.Dirt.{dirty_packet}
use Rattle.opus.specs.Named.{Named, unnamed}
use Rattle.collector.specs.declared.OpusRepacketizer.{OpusRepacketizer}
use Rattle.repacketizer.specs.Adding.{Adding, Addition, refusal, takes, leaves_add, adds, adds_by, added, added_strictly, added_report, added_number}
use Rattle.repacketizer.proofs.Adds.{refused_keeps, add-empty}
use Rattle.repacketizer.proofs.Naming.{add_named}
use Rattle.repacketizer.proofs.StrictAdds.{strict_clean, dirty-read, never_dirty}

module _ (sd : Bool) (rp : OpusRepacketizer) (p store : List ℕ) where
  -- 1. A strict add is the ordinary one, in answer, collector and store: where the padding is clean,
  pub strict_is_ordinary_where_clean : dirty_packet sd p ≡ false → added_strictly sd rp p store ≡ added sd rp p store
  strict_is_ordinary_where_clean c = strict_clean sd rp p store c

  -- and where the ordinary one refuses.
  pub strict_is_ordinary_where_refused : (e : Refusal) → (added sd rp p store).answer.verdict ≡ Err e → added_strictly sd rp p store
      ≡ added sd rp p store
  unfolding added added_strictly
  strict_is_ordinary_where_refused e v = go (adds sd rp p (length store)) refl v
    where
      go : (x : Addition) → adds sd rp p (length store) ≡ x → (leaves_add rp p store x).answer.verdict ≡ Err e
          → added_strictly sd rp p store ≡ added sd rp p store
      go (refusal e) h v = rw h
      go (takes toc ns first) h v = never (cc)

  -- 2. Where the ordinary one accepts a packet whose padding is dirty, it is refused by -20, with no rule and no place; collector and store are as
  -- they were.
  pub dirty_is_refused : dirty_packet sd p ≡ true → (added sd rp p store).answer.verdict ≡ Ok tt
      → (added_report (added_strictly sd rp p store).answer ≡ plain (negsuc 19))
      × ((added_strictly sd rp p store).answer.rp ≡ rp) × ((added_strictly sd rp p store).store ≡ store)
  unfolding added added_strictly
  dirty_is_refused d v = go (adds sd rp p (length store)) refl v
    where
      go : (x : Addition) → adds sd rp p (length store) ≡ x → (leaves_add rp p store x).answer.verdict ≡ Ok tt
          → (added_report (added_strictly sd rp p store).answer ≡ plain (negsuc 19))
          × ((added_strictly sd rp p store).answer.rp ≡ rp) × ((added_strictly sd rp p store).store ≡ store)
      go (refusal e) h v = never (cc)
      go (takes toc ns first) h v = rw (h, d) (refl, refl, refl)

  -- 3. -20 is answered for nothing else: the padding is dirty, and the ordinary add would have accepted the packet. The ordinary add never answers it.
  pub ordinary_takes_dirt : added_number (added sd rp p store).answer ≡ negsuc 19 → ⊥
  ordinary_takes_dirt n = never_dirty sd rp p store n

  pub refused_for_dirt_alone : added_number (added_strictly sd rp p store).answer ≡ negsuc 19
      → (dirty_packet sd p ≡ true) × ((added sd rp p store).answer.verdict ≡ Ok tt)
  refused_for_dirt_alone n =
      by_test (dirty_packet sd p) (λ d. (d, accepts (added sd rp p store).answer.verdict refl))
      (λ c. absurd (ordinary_takes_dirt (rw (strict_clean sd rp p store c) at n)))
    where
      accepts : (v : Result (Unit {0}) Refusal) → (added sd rp p store).answer.verdict ≡ v → (added sd rp p store).answer.verdict ≡ Ok tt
      accepts (Ok tt) e = e
      accepts (Err x) e = absurd (ordinary_takes_dirt (rw (strict_is_ordinary_where_refused x e) at n))

  -- 4. A refused strict add changes nothing.
  pub refused_strict_add_changes_nothing : (n : ℕ) → added_number (added_strictly sd rp p store).answer ≡ negsuc n
      → ((added_strictly sd rp p store).answer.rp ≡ rp) × ((added_strictly sd rp p store).store ≡ store)
  unfolding added_strictly
  refused_strict_add_changes_nothing n r = go (added_strictly sd rp p store).answer.verdict refl r
    where
      go : (v : Result (Unit {0}) Refusal) → (added_strictly sd rp p store).answer.verdict ≡ v → (verdict_report 0 v).number ≡ negsuc n
          → ((added_strictly sd rp p store).answer.rp ≡ rp) × ((added_strictly sd rp p store).store ≡ store)
      go (Ok tt) e r = never (cc)
      go (Err x) e r = refused_keeps rp p store (adds_by true sd rp p (length store)) e

  -- 5. Rule and place are those of the reader, and 0 in every other answer, -20 among them.
  pub strict_add_names : Named p (added_report (added_strictly sd rp p store).answer)
  strict_add_names =
      by_test (dirty_packet sd p) (λ d. names d (added sd rp p store).answer.verdict refl)
      (λ c. rw (strict_clean sd rp p store c) (add_named sd rp p store))
    where
      names : dirty_packet sd p ≡ true → (v : Result (Unit {0}) Refusal) → (added sd rp p store).answer.verdict ≡ v
          → Named p (added_report (added_strictly sd rp p store).answer)
      names d (Ok tt) e = let r = (dirty_is_refused d e).0 in unnamed (ap (λ x. x.rule) r) (ap (λ x. x.place) r)
      names d (Err x) e = rw (strict_is_ordinary_where_refused x e) (add_named sd rp p store)

  -- 6. From a collector that holds nothing, -20 is answered exactly where the padding is dirty.
  pub dirt_is_refused_from_empty : rp.nb_frames ≡ 0 → 61200 ≤ length store → length p ≤ 65535 → dirty_packet sd p ≡ true
      → added_report (added_strictly sd rp p store).answer ≡ plain (negsuc 19)
  dirt_is_refused_from_empty e h k d =
      let r = dirty-read sd p d in
      (dirty_is_refused d (ap (λ (a : Adding). a.answer.verdict) (add-empty sd rp p store _ _ _ _ e h k r.4))).0

  pub only_dirt_is_refused_from_empty : dirty_packet sd p ≡ false → added_number (added_strictly sd rp p store).answer ≡ negsuc 19 → ⊥
  only_dirt_is_refused_from_empty c n = absurd (let d = (refused_for_dirt_alone n).0 in never (cc))
