-- Strict adds (document 02, M-105).
--     by_adds                  what an add of either kind leaves, by what it takes
--     took_by                  one that takes frames has read them, and they go with those held
--     strict_clean, by_clean   where padding is clean, the strict add is the ordinary one
--     dirty-read               a packet whose padding is dirty can be read
--     has-.., why-..           the tests of the code
--     never_dirty              an ordinary add never answers -20
--     by_sound, ..             an add of either kind by the collector and the store
--     strict_dirty, dirty_as   where padding is dirty, nothing is added, and the refusal is what the ordinary add asks first
--     strict_same              the same by the test of the code, which leaves a packet of over 65,535 bytes to the ordinary add
--     by_uncounted, by_short   a packet of code 0, 1 or 2 has no padding to be asked for
-- Assumes nothing.
use Prim.Native.Nat.{ℕ, ◌≤◌, ◌<◌}
use mathlib.Core.Path.{◌≡◌, refl, sym, ◌∙◌}
use mathlib.Core.List.{List, []}
use mathlib.Core.Bool.{Bool, true, false, ◌&&◌}
use lib.Dec.{ltb, leb}
use lib.IntN.{negsuc}
use lib.ListN.{length, get_or}
use borrow.Author.Tests.{leb-true, le-leb, lt-leb, lt-ltb, le-ltb, ltb-true, ltb-false}
use Rattle.laws.specs.Bytes.{Bytes}
use Rattle.laws.proofs.Never.{never, by_test}
use Rattle.laws.proofs.Every.{both_left, both_right}
use Rattle.opus_defines.specs.declared.Refusal.{Refusal}
use Rattle.opus_defines.specs.declared.Refusal.TheVariants.{BadArg, InvalidPacket, InvalidState, DirtyPadding}
use Rattle.opus_defines.proofs.Outcomes.{rule_number_lem}
use Rattle.opus_toc.specs.Toc.{code}
use Rattle.padding.proofs.Asking.{asks_not_3, clean_unasked}
use Rattle.opus_format.specs.Dirt.{padding_of, dirty, dirty_packet}
use Rattle.opus_format.specs.Reading.{Reading, refused, accepted, read}
use Rattle.opus_format.proofs.Dirt.{dirt_is}
use Rattle.opus.proofs.AtShort.{ShortRead}
use Rattle.collector.specs.declared.OpusRepacketizer.{OpusRepacketizer}
use Rattle.collector.specs.declared.Head.{Head}
use Rattle.collector.specs.Collector.{least_store, sound}
use Rattle.collector.specs.Parts.{collector_of, bare}
use Rattle.repacketizer.specs.Adding.{no_add, stays_out, Addition, refusal, takes, leaves_add, read_adds, unless_dirty, adds, adds_by, add_packet, added}
use Rattle.repacketizer.specs.Adding.{packet_adds, added_strictly, added_by, added_number}
use Rattle.repacketizer.specs.Parts.{add_block, has_dirt, why_dirty, add_packet_by}
use Rattle.repacketizer.proofs.Adds.{Took, took, stays_lengths, add_read}

pub by_adds : (strict sd : Bool) (rp : OpusRepacketizer) (p store : List ℕ)
    → added_by strict sd rp p store ≡ leaves_add rp p store (adds_by strict sd rp p (length store))
unfolding added added_strictly
by_adds false sd rp p store = refl
by_adds true sd rp p store = refl

-- dirt only takes away
unless_takes : (dirt : Bool) (x : Addition) {toc : ℕ} {ns : List ℕ} {first : ℕ} → unless_dirty dirt x ≡ takes toc ns first → x ≡ takes toc ns first
unless_takes dirt (refusal e) q = q
unless_takes true (takes toc ns first) q = never (cc)
unless_takes false (takes toc ns first) q = q

pub took_by : (strict sd : Bool) (rp : OpusRepacketizer) (p : List ℕ) (room toc : ℕ) (ns : List ℕ) (first : ℕ)
    → adds_by strict sd rp p room ≡ takes toc ns first → Took sd rp p toc ns first
took_by false sd rp p room toc ns first e = took sd rp p room toc ns first e
took_by true sd rp p room toc ns first e = took sd rp p room toc ns first (unless_takes (dirty_packet sd p) (adds sd rp p room) e)

-- ---- clean padding
unless_clean : (x : Addition) → unless_dirty false x ≡ x
unless_clean (refusal e) = refl
unless_clean (takes toc ns first) = refl

module _ (sd : Bool) (rp : OpusRepacketizer) (p store : List ℕ) where
  pub strict_clean : dirty_packet sd p ≡ false → added_strictly sd rp p store ≡ added sd rp p store
  unfolding added added_strictly
  strict_clean c = rw (c, unless_clean (adds sd rp p (length store)))

  pub by_clean : (strict : Bool) → dirty_packet sd p ≡ false → added_by strict sd rp p store ≡ added sd rp p store
  by_clean false c = refl
  by_clean true c = strict_clean c

  -- the same on a sound collector, by the test of the code; a packet that is too long is refused before it is looked at
  strict_long : 65535 < length p → add_packet_by true sd rp p store ≡ add_packet_by false sd rp p store
  unfolding add_packet_by
  strict_long h = rw (lt-ltb 65535 (length p) h)

  strict_same : has_dirt sd p ≡ false → add_packet_by true sd rp p store ≡ add_packet_by false sd rp p store
  unfolding add_packet_by
  strict_same n =
      by_test (ltb 65535 (length p)) (λ t. strict_long (ltb-true 65535 (length p) t))
      (λ t. let c = rw (le-leb (length p) 65535 (ltb-false 65535 (length p) t)) at n in rw (c, unless_clean (packet_adds sd rp p)))

-- ---- an add of either kind to a sound collector with a store that is long enough
pub by_sound : (strict sd : Bool) (rp : OpusRepacketizer) (p store : List ℕ) → sound rp ≡ true → least_store ≤ length store
    → added_by strict sd rp p store ≡ add_packet_by strict sd rp p store
unfolding added added_strictly add_packet_by
by_sound false sd rp p store s h = rw (s, le-ltb (length store) least_store h)
by_sound true sd rp p store s h = rw (s, le-ltb (length store) least_store h)

pub by_unsound : (strict sd : Bool) (rp : OpusRepacketizer) (p store : List ℕ) → sound rp ≡ false
    → added_by strict sd rp p store ≡ no_add InvalidState rp store
unfolding added added_strictly
by_unsound false sd rp p store s = rw s
by_unsound true sd rp p store s = rw s

pub by_tight : (strict sd : Bool) (rp : OpusRepacketizer) (p store : List ℕ) → sound rp ≡ true → length store < least_store
    → added_by strict sd rp p store ≡ no_add BadArg rp store
unfolding added added_strictly
by_tight false sd rp p store s h = rw (s, lt-ltb (length store) least_store h)
by_tight true sd rp p store s h = rw (s, lt-ltb (length store) least_store h)

by_ordinary : (sd : Bool) (rp : OpusRepacketizer) (p store : List ℕ) → add_packet_by false sd rp p store ≡ add_packet sd rp p store
unfolding add_packet_by add_packet
by_ordinary sd rp p store = refl

-- ---- dirty padding
-- such a packet can be read
pub dirty-read : (sd : Bool) (p : List ℕ) → dirty_packet sd p ≡ true
    → (toc : ℕ) × (ns : List ℕ) × (first : ℕ) × (end : ℕ) × (read sd p ≡ accepted toc ns first end)
dirty-read sd p d = go (read sd p) refl (sym (dirt_is sd p) ∙ d)
  where
    go : (x : Reading) → read sd p ≡ x → dirty (padding_of p x) ≡ true
        → (toc : ℕ) × (ns : List ℕ) × (first : ℕ) × (end : ℕ) × (read sd p ≡ accepted toc ns first end)
    go (refused rule place) q d = never (cc)
    go (accepted toc ns first end) q d = (toc, ns, first, end, q)

module _ (sd : Bool) (rp : OpusRepacketizer) (p store : List ℕ) (d : has_dirt sd p ≡ true) where
  dirt_short : length p ≤ 65535
  dirt_short = leb-true (length p) 65535 (both_left (leb (length p) 65535) (dirty_packet sd p) d)

  dirt_dirty : dirty_packet sd p ≡ true
  dirt_dirty = both_right (leb (length p) 65535) (dirty_packet sd p) d

  strict_dirty : add_packet_by true sd rp p store ≡ no_add (why_dirty rp p) rp store
  unfolding add_packet_by
  strict_dirty =
      let r = dirty-read sd p dirt_dirty in
      let q = r.4 in
      let k = le-ltb 65535 (length p) dirt_short in
      by_test (stays_out rp p) (λ o. rw (dirt_dirty, k, o)) (λ o. rw (dirt_dirty, k, o, q))

-- ---- an ordinary add does not ask
pub never_dirty : (sd : Bool) (rp : OpusRepacketizer) (p store : List ℕ) → added_number (added sd rp p store).answer ≡ negsuc 19 → ⊥
unfolding added
never_dirty sd rp p store n =
    by_test (sound rp)
    (λ s. by_test (ltb (length store) least_store) (λ t. never (let q = rw (s, t) at n in cc))
    (λ t. by_test (ltb 65535 (length p)) (λ k. never (let q = rw (s, t, k) at n in cc))
    (λ k. by_test (stays_out rp p) (λ o. never (let q = rw (s, t, k, o) at n in cc)) (λ o. go (read sd p) (rw (s, t, k, o) at n)))))
    (λ s. never (let q = rw s at n in cc))
  where
    go : (x : Reading) → added_number (leaves_add rp p store (read_adds x)).answer ≡ negsuc 19 → ⊥
    go (refused rule place) n = never (let q = rw (rule_number_lem rule place) at n in cc)
    go (accepted toc ns first taken) n = never (cc)

-- ---- by the tests of the code
module _ (sd : Bool) (p : List ℕ) where
  pub has_long : 65535 < length p → false ≡ has_dirt sd p
  has_long h = rw (lt-leb (length p) 65535 h)

  pub has_short : length p ≤ 65535 → {b : Bool} → b ≡ dirty_packet sd p → b ≡ has_dirt sd p
  has_short h e = rw (le-leb (length p) 65535 h) e

-- whatever the lengths held
module _ (h : Head) (len p : List ℕ) where
  pub why_out : stays_out (bare h []) p ≡ true → InvalidPacket ≡ why_dirty (bare h []) p
  why_out o = rw o

  pub why_dirt : stays_out (bare h []) p ≡ false → DirtyPadding ≡ why_dirty (bare h []) p
  why_dirt o = rw o

  dirty_as : (packet : List ℕ) (sd : Bool) (store : List ℕ) → has_dirt sd p ≡ true → {x : Refusal} → x ≡ why_dirty (bare h []) p
      → add_packet_by true sd (collector_of h len packet) p store ≡ no_add x (collector_of h len packet) store
  dirty_as packet sd store d q = strict_dirty sd (collector_of h len packet) p store d ∙ rw (q, stays_lengths h len [] packet [] p)

-- an add of either kind, by what the code asks
pub asks_ordinary : (strict : Bool) (sd : Bool) (p : List ℕ) → strict ≡ false → false ≡ strict && has_dirt sd p
asks_ordinary strict sd p e = rw e

pub asks_strict : (strict : Bool) (sd : Bool) (p : List ℕ) → strict ≡ true → {b : Bool} → b ≡ has_dirt sd p → b ≡ strict && has_dirt sd p
asks_strict strict sd p e q = rw e q

pub by_dirt : (strict sd : Bool) (h : Head) (len packet p store : List ℕ) → strict && has_dirt sd p ≡ true
    → {x : Refusal} → x ≡ why_dirty (bare h []) p
    → add_packet_by strict sd (collector_of h len packet) p store ≡ no_add x (collector_of h len packet) store
by_dirt false sd h len packet p store d q = never (cc)
by_dirt true sd h len packet p store d q = dirty_as h len p packet sd store d q

pub by_no_dirt : (strict sd : Bool) (rp : OpusRepacketizer) (p store : List ℕ) → strict && has_dirt sd p ≡ false
    → add_packet_by strict sd rp p store ≡ add_packet sd rp p store
by_no_dirt false sd rp p store d = by_ordinary sd rp p store
by_no_dirt true sd rp p store d = strict_same sd rp p store d ∙ by_ordinary sd rp p store

-- a packet without a count byte has no padding, so that there is nothing to ask
by_uncounted : (strict sd : Bool) (rp : OpusRepacketizer) (p store : List ℕ) → (code (get_or p 0 0) ≡ 3 → ⊥)
    → add_packet_by strict sd rp p store ≡ add_packet sd rp p store
by_uncounted strict sd rp p store n = by_no_dirt strict sd rp p store (go strict)
  where
    clean : has_dirt sd p ≡ false
    clean = rw (← clean_unasked sd p (sym (asks_not_3 p n))) (by_test (leb (length p) 65535) (λ t. rw t) (λ t. rw t))

    go : (strict : Bool) → strict && has_dirt sd p ≡ false
    go false = refl
    go true = clean

pub by_short : (strict : Bool) (rp : OpusRepacketizer) (p store : List ℕ) {ns : List ℕ} {first : ℕ} → Bytes p → ShortRead p ns first
    → add_packet_by strict false rp p store ≡ add_block rp (get_or p 0 0) ns p first store
by_short strict rp p store b r =
    by_uncounted strict false rp p store r.uncounted ∙ add_read false rp p store _ _ _ r.taken b r.short r.means
