-- How an add goes, by the tests of the code.
--     goes_none, goes_other, goes_time      whether frames go with those held
--     with_few, with_timed, with_room       those held and the new ones last at most 120 ms, so they are at most 48 and fit the store
--     refused_head_lem, more-..                 what an add answers beside the lengths
--     head_few, Joins, joins-.., block-..   frames of lengths ns beside those of a head and its lengths, by a test g of whether they go together
--     stays-..                              what 001 asks before it reads
--     add-..                                an add by each of its tests
--     Took, took, took_goes, refused_keeps  the two ways in which an add ends
-- Assumes nothing.
use Prim.Native.Nat.{ℕ, zero, suc, ◌+◌, ◌*◌, ◌-◌, ◌≤◌, ◌<◌}
use native.Mathlib.Nat.{zero-add}
use native.Mathlib.Omega.{arith}
use mathlib.Core.Path.{◌≡◌, refl, sym, ◌∙◌}
use mathlib.Core.List.{List, [], ◌∷◌}
use mathlib.Core.Bool.{Bool, true, false, not, cond}
use lib.Dec.{ltb, leb, eqb}
use lib.ListN.{length, get_or, replicate}
use lib.Seq.{sets}
use borrow.Author.Tests.{eqb-true, eqb-false, ltb-false, lt-ltb, le-ltb, eq-eqb, ne_eqb, not-true, not-false}
use Rattle.laws.specs.Bytes.{Bytes}
use Rattle.laws.proofs.Never.{never, by_test}
use Rattle.laws.proofs.Every.{both_right}
use Rattle.opus_defines.specs.declared.Refusal.{Refusal}
use Rattle.opus_defines.specs.declared.Refusal.TheVariants.{BadArg, InvalidPacket, InvalidState}
use Rattle.std.specs.Prelude.{Err, Ok}
use Rattle.opus_size.specs.Size.{most_bytes}
use Rattle.opus_toc.specs.declared.Samples8k.{Samples8k}
use Rattle.opus_toc.specs.Toc.{code, upper_six, configuration, samples}
use Rattle.opus_toc.specs.Answers.{count_byte, frames_by_code, nb_frames}
use Rattle.opus_format.specs.Frames.{total, longest}
use Rattle.opus_format.specs.Format.{Lasts}
use Rattle.opus_defines.specs.Rules.{rule_refusal}
use Rattle.opus_defines.specs.declared.Rule.{Rule}
use Rattle.opus_format.specs.Reading.{lasts, Reading, refused, accepted, read}
use Rattle.opus_format.proofs.Counts.{lasts_few, lasts_passes}
use Rattle.opus_format.proofs.Facts.{facts, said}
use Rattle.opus_format.proofs.Sound.{read_spelled}
use Rattle.blocks.specs.Blocks.{copied}
use Rattle.packet_numbers.specs.Numbers.{number_after}
use Rattle.packet_numbers.proofs.Numbering.{last_small}
use Rattle.collector.specs.declared.OpusRepacketizer.{OpusRepacketizer}
use Rattle.collector.specs.declared.Head.{Head}
use Rattle.collector.specs.Collector.{held_lengths, least_store, framed, sound}
use Rattle.collector.specs.Parts.{collector_of, bare}
use Rattle.repacketizer.specs.declared.AddedHead.{AddedHead}
use Rattle.repacketizer.specs.Adding.{Adding, no_add, goes_with, apart, said_frames, stays_out, with_frames, read_adds, packet_adds, adds, add_packet, added}
use Rattle.repacketizer.specs.Adding.{Addition, refusal, takes, leaves_add}
use Rattle.repacketizer.specs.Parts.{ReadyAt, Leaves, refused_head, more_frames, add_block, why_not}
use Rattle.opus_format.proofs.Lengths.{total_most}
use Rattle.collector.proofs.Held.{holding}
use Rattle.collector.proofs.Sound.{Timed, timed_lasts, lasts_timed, none-sound, framed-full, sound-framed, sound-numbered}

-- ---- whether frames go with those held
module _ (rp : OpusRepacketizer) (toc n : ℕ) where
  pub goes_none : rp.nb_frames ≡ 0 → true ≡ goes_with rp toc n
  goes_none e = rw (eq-eqb rp.nb_frames 0 e)

  module _ (z : rp.nb_frames ≡ 0 → ⊥) where
    pub goes_other : (upper_six toc ≡ upper_six rp.toc → ⊥) → false ≡ goes_with rp toc n
    goes_other d = rw (ne_eqb rp.nb_frames 0 z, ne_eqb (upper_six toc) (upper_six rp.toc) d)

    pub goes_time : upper_six toc ≡ upper_six rp.toc → leb ((rp.nb_frames + n) * rp.framesize.0) 960 ≡ goes_with rp toc n
    goes_time s = rw (ne_eqb rp.nb_frames 0 z, eq-eqb (upper_six toc) (upper_six rp.toc) s)

    goes_timed : framed rp ≡ true → goes_with rp toc n ≡ true → Timed rp.toc (rp.nb_frames + n) rp.framesize.0
    goes_timed s g =
        let t = rw (ne_eqb rp.nb_frames 0 z) at g in
        record {
          size = (framed-full rp z s).timed.size;
          time = both_right (eqb (upper_six toc) (upper_six rp.toc)) (leb ((rp.nb_frames + n) * rp.framesize.0) 960) t;
        }

-- ---- those held and the new ones
module _ (rp : OpusRepacketizer) (toc : ℕ) (ns : List ℕ) (s : framed rp ≡ true) (g : goes_with rp toc (length ns) ≡ true) where
  pub with_few : rp.toc < 256 → length ns ≤ 48 → rp.nb_frames + length ns ≤ 48
  with_few b h =
      by_test (eqb rp.nb_frames 0) (λ e. omega (arith, eqb-true rp.nb_frames 0 e))
      (λ e. let z = eqb-false rp.nb_frames 0 e in lasts_few (timed_lasts b (omega arith) (goes_timed rp toc (length ns) z s g)))

  pub with_timed : toc < 256 → Lasts (upper_six toc) (length ns)
      → Timed (with_frames rp toc ns).toc (with_frames rp toc ns).nb_frames (with_frames rp toc ns).framesize.0
  with_timed b l =
      by_test (eqb rp.nb_frames 0)
      (λ e. let z : rp.nb_frames + length ns ≡ length ns = omega (arith, eqb-true rp.nb_frames 0 e) in rw (e, z) (lasts_timed b refl l))
      (λ e. rw e (goes_timed rp toc (length ns) (eqb-false rp.nb_frames 0 e) s g))

  -- so all of them fit the least store
  pub with_room : rp.toc < 256 → length rp.len ≡ 48 → length ns ≤ 48 → longest ns ≤ most_bytes
      → total (held_lengths rp) + total ns ≤ least_store
  with_room b l h m =
      let w = holding rp b l s in
      omega (arith, total_most (held_lengths rp) w.small, total_most ns m, w.count, with_few b h)

-- ---- what an add answers beside the lengths
module _ (h : Head) (count : ℕ) (e : count ≡ h.nb_frames) where
  pub refused_head_lem : (c : Refusal) → record { verdict = Err c; toc = h.toc; framesize = h.framesize; count = count } ≡ refused_head c h
  refused_head_lem c = rw e

  module _ (toc n : ℕ) where
    pub more_first : count ≡ 0 → (each : Samples8k) → each.0 ≡ samples 8000 (configuration toc)
        → record { verdict = Ok tt; toc = toc; framesize = each; count = n } ≡ more_frames h toc n
    more_first z each s = rw (eq-eqb h.nb_frames 0 (sym e ∙ z), ← s, ← e, z, zero-add)

    pub more_later : (count ≡ 0 → ⊥) → record { verdict = Ok tt; toc = h.toc; framesize = h.framesize; count = count + n } ≡ more_frames h toc n
    more_later z = rw (ne_eqb h.nb_frames 0 (λ y. z (e ∙ y)), e)

-- a refused add, as the code hands it back
pub refused_as : {a : Adding} {e : Refusal} {h : Head} {len packet store : List ℕ} {r : AddedHead} → a ≡ no_add e (collector_of h len packet) store
    → (r ≡ refused_head e h) × (r.count < 65536) → Leaves r len packet store a
refused_as p q = (rw (p, q.0), (rw p, q.1))

-- ---- what 001 asks before it reads
stays_empty : (rp : OpusRepacketizer) (p : List ℕ) → rp.nb_frames ≡ 0 → stays_out rp p ≡ false
unfolding stays_out
stays_empty rp [] e = refl
stays_empty rp (toc ∷ s) e = rw (eq-eqb rp.nb_frames 0 e)

-- of a packet that can be read it is whether its frames go with those held
apart-lasting : (rp : OpusRepacketizer) (toc n : ℕ) → lasts (upper_six toc) n ≡ true → apart rp toc n ≡ cond (goes_with rp toc n) false true
apart-lasting rp toc n l =
    by_test (goes_with rp toc n) (λ g. rw g)
    (λ g. by_test (eqb (upper_six toc) (upper_six rp.toc)) (λ s. rw (g, s, l)) (λ s. rw (g, s)))

stays_read : (sd : Bool) (rp : OpusRepacketizer) (p : List ℕ) (toc : ℕ) (ns : List ℕ) (first end : ℕ) → Bytes p
    → read sd p ≡ accepted toc ns first end → stays_out rp p ≡ cond (goes_with rp toc (length ns)) false true
unfolding stays_out
stays_read sd rp [] toc ns first end bytes r = absurd (let f = facts sd [] toc ns first end bytes r in omega (arith, f.headed, f.block, f.within))
stays_read sd rp (a ∷ s) toc ns first end bytes r =
    let f = facts sd (a ∷ s) toc ns first end bytes r in
    let is : toc ≡ a = (read_spelled sd (a ∷ s) toc ns first end bytes r).toc_is in
    rw (said sd (a ∷ s) toc ns first end bytes r, ← is) (apart-lasting rp toc (length ns) (lasts_passes f.lasts))

-- it says less than 64 frames
pub said_few : (p : List ℕ) → said_frames (nb_frames p) < 64
unfolding nb_frames
said_few [] = omega arith
said_few (toc ∷ s) = go (code toc) s
  where
    counted : (s : List ℕ) → said_frames (count_byte s) < 64
    counted [] = omega arith
    counted (b ∷ s) = omega arith

    go : (c : ℕ) (s : List ℕ) → said_frames (frames_by_code c s) < 64
    go zero s = omega arith
    go (suc zero) s = omega arith
    go (suc (suc zero)) s = omega arith
    go (suc (suc (suc c))) s = counted s

-- whatever the lengths and numbers held
pub stays_lengths : (h : Head) (l m k n p : List ℕ) → stays_out (collector_of h l k) p ≡ stays_out (collector_of h m n) p
unfolding stays_out
stays_lengths h l m k n [] = refl
stays_lengths h l m k n (toc ∷ s) = refl

-- so a refusal is what the code finds without them
pub why_refused : (h : Head) (len packet p store : List ℕ) (e : Refusal) {x : Refusal} {a : Adding} → x ≡ why_not (bare h []) p e
    → a ≡ no_add (why_not (collector_of h len packet) p e) (collector_of h len packet) store → a ≡ no_add x (collector_of h len packet) store
why_refused h len packet p store e q g = rw q (rw (stays_lengths h [] len [] packet p) g)

-- a packet that is said to have n frames, by the tests of the code
module _ (rp : OpusRepacketizer) (p : List ℕ) where
  pub stays_none : length p ≡ 0 → false ≡ stays_out rp p
  unfolding stays_out
  stays_none e = go p e
    where
      go : (p : List ℕ) → length p ≡ 0 → false ≡ stays_out rp p
      go [] e = refl
      go (a ∷ s) e = absurd (omega arith)

  module _ (h : length p ≡ 0 → ⊥) (n : ℕ) (e : n ≡ said_frames (nb_frames p)) where
    stays_is : stays_out rp p ≡ apart rp (get_or p 0 0) n
    unfolding stays_out
    stays_is = rw e (go p h)
      where
        go : (p : List ℕ) → (length p ≡ 0 → ⊥) → stays_out rp p ≡ apart rp (get_or p 0 0) (said_frames (nb_frames p))
        go [] h = absurd (h refl)
        go (a ∷ s) h = refl

    pub stays_goes : goes_with rp (get_or p 0 0) n ≡ true → false ≡ stays_out rp p
    stays_goes g = rw (stays_is, g)

    module _ (g : goes_with rp (get_or p 0 0) n ≡ false) where
      pub stays_other : (upper_six (get_or p 0 0) ≡ upper_six rp.toc → ⊥) → true ≡ stays_out rp p
      stays_other d = rw (stays_is, g, ne_eqb (upper_six (get_or p 0 0)) (upper_six rp.toc) d)

      pub stays_lasting : upper_six (get_or p 0 0) ≡ upper_six rp.toc → {b : Bool} → b ≡ lasts (upper_six (get_or p 0 0)) n → b ≡ stays_out rp p
      stays_lasting d q = q ∙ sym (rw (stays_is, g, eq-eqb (upper_six (get_or p 0 0)) (upper_six rp.toc) d))

-- ---- an add by its tests
-- frames that are added
abbrev pub taken : OpusRepacketizer → ℕ → List ℕ → List ℕ → ℕ → List ℕ → Adding
taken rp toc ns p first store = leaves_add rp p store (takes toc ns first)

module _ (rp : OpusRepacketizer) (toc : ℕ) (ns p : List ℕ) (first : ℕ) (store : List ℕ) where
  pub block_refused : goes_with rp toc (length ns) ≡ false → add_block rp toc ns p first store ≡ no_add InvalidPacket rp store
  unfolding add_block
  block_refused g = rw g

  pub block_added : goes_with rp toc (length ns) ≡ true → add_block rp toc ns p first store ≡ taken rp toc ns p first store
  unfolding add_block
  block_added g = rw g

-- ---- the same as the code makes it, of the collector with a head, lengths and numbers
-- frames of lengths ns go with those held, and so are few and fit the store
pub record Joins (h : Head) (len packet : List ℕ) (at toc : ℕ) (ns store : List ℕ) : Type 0 where
  pub ready : ReadyAt h len packet at store
  pub goes : goes_with (collector_of h len packet) toc (length ns) ≡ true
  pub few : h.nb_frames + length ns ≤ 48
  pub room : at + total ns ≤ length store
  -- the last number held can be counted up
  pub countable : 1 ≤ h.nb_frames → get_or packet (h.nb_frames - 1) 0 < 255

module _ {h : Head} {len packet : List ℕ} {at : ℕ} {store : List ℕ} (b : h.toc < 256) (r : ReadyAt h len packet at store) where
  abbrev rp : OpusRepacketizer
  rp = collector_of h len packet

  pub head_few : h.nb_frames ≤ 48
  head_few = (holding rp b r.lengths48 (sound-framed rp r.soundly)).few

  -- g says that they go together
  pub joins : (toc : ℕ) (ns : List ℕ) {g : Bool} → g ≡ goes_with (bare h []) toc (length ns) → not g ≡ false
      → length ns ≤ 48 → longest ns ≤ most_bytes → Joins h len packet at toc ns store
  joins toc ns e t few small =
      let goes : goes_with rp toc (length ns) ≡ true = sym e ∙ not-false _ t in
      let f = sound-framed rp r.soundly in
      record {
        ready = r;
        goes = goes;
        few = with_few rp toc ns f goes b few;
        room = omega (arith, with_room rp toc ns f goes b r.lengths48 few small, r.place, r.roomy);
        countable = last_small packet h.nb_frames (omega (arith, head_few, r.numbers48)) head_few (sound-numbered rp r.soundly);
      }

module _ {h : Head} {len packet : List ℕ} {at toc : ℕ} {ns store : List ℕ} (j : Joins h len packet at toc ns store) where
  -- what the code needs where it gives them their numbers
  pub joins_numbers : {place end : ℕ} → place ≡ h.nb_frames → end ≡ place + length ns
      → (place ≤ end) × (end ≤ length packet) × (1 ≤ place → get_or packet (place - 1) 0 < 255)
  joins_numbers q e = (omega arith, omega (arith, q, e, j.few, j.ready.numbers48), λ s. rw q (j.countable (omega (arith, q, s))))

  -- what it leaves, with the places that it found
  pub joins_block : (p : List ℕ) (first : ℕ) {n place end : ℕ} {left all ks : List ℕ} {r : AddedHead}
      → place ≡ h.nb_frames → left ≡ copied store at p first n → all ≡ sets len place ns
      → ks ≡ sets packet place (replicate (end - place) (number_after packet place)) → r ≡ more_frames h toc (length ns)
      → n ≡ total ns → end ≡ place + length ns → Leaves r all ks left (add_block (collector_of h len packet) toc ns p first store)
  joins_block p first {place = place} {end = end} q c l k w b e =
      let m : end - place ≡ length ns = omega (arith, e) in
      rw (block_added (collector_of h len packet) toc ns p first store j.goes, ← j.ready.place, ← b, ← q, w, l, k, m)
      (rw q, (c, omega (arith, j.few)))

-- g says that they do not
pub block_stays : (h : Head) (len packet : List ℕ) (toc : ℕ) (ns p : List ℕ) (first : ℕ) (store : List ℕ) {g : Bool}
    → g ≡ goes_with (bare h []) toc (length ns) → not g ≡ true → {r : AddedHead} → (r ≡ refused_head InvalidPacket h) × (r.count < 65536)
    → Leaves r len packet store (add_block (collector_of h len packet) toc ns p first store)
block_stays h len packet toc ns p first store e f q =
    refused_as (block_refused (collector_of h len packet) toc ns p first store (sym e ∙ not-true _ f)) q

module _ (sd : Bool) (rp : OpusRepacketizer) (p store : List ℕ) where
  pub add_unsound : sound rp ≡ false → added sd rp p store ≡ no_add InvalidState rp store
  unfolding added
  add_unsound s = rw s

  pub add_tight : sound rp ≡ true → length store < least_store → added sd rp p store ≡ no_add BadArg rp store
  unfolding added
  add_tight s h = rw (s, lt-ltb (length store) least_store h)

  pub add-sound : sound rp ≡ true → least_store ≤ length store → added sd rp p store ≡ add_packet sd rp p store
  unfolding added add_packet
  add-sound s h = rw (s, le-ltb (length store) least_store h)

  pub add_long : 65535 < length p → add_packet sd rp p store ≡ no_add BadArg rp store
  unfolding add_packet
  add_long h = rw (lt-ltb 65535 (length p) h)

  pub add_out : sound rp ≡ true → least_store ≤ length store → length p ≤ 65535 → stays_out rp p ≡ true → added sd rp p store
      ≡ no_add InvalidPacket rp store
  unfolding added
  add_out s h k o = rw (s, le-ltb (length store) least_store h, le-ltb 65535 (length p) k, o)

  pub add_refused : (rule : Rule) (place : ℕ) → length p ≤ 65535 → read sd p ≡ refused rule place
      → add_packet sd rp p store ≡ no_add (why_not rp p (rule_refusal rule place)) rp store
  unfolding add_packet
  add_refused rule place h r = rw (le-ltb 65535 (length p) h, r) (by_test (stays_out rp p) (λ t. rw t) (λ t. rw t))

  pub add_read : (toc : ℕ) (ns : List ℕ) (first end : ℕ) → Bytes p → length p ≤ 65535 → read sd p ≡ accepted toc ns first end
      → add_packet sd rp p store ≡ add_block rp toc ns p first store
  unfolding add_packet add_block
  add_read toc ns first end bytes h r =
      rw (le-ltb 65535 (length p) h, stays_read sd rp p toc ns first end bytes r, r)
      (by_test (goes_with rp toc (length ns)) (λ g. rw g) (λ g. rw g))

  -- an empty collector takes what the reader accepts
  pub add-empty : (toc : ℕ) (ns : List ℕ) (first end : ℕ) → rp.nb_frames ≡ 0 → least_store ≤ length store → length p ≤ 65535
      → read sd p ≡ accepted toc ns first end → added sd rp p store ≡ taken rp toc ns p first store
  unfolding add_packet
  add-empty toc ns first end e h k r =
      add-sound (none-sound rp e) h ∙ rw (le-ltb 65535 (length p) k, stays_empty rp p e, r)

-- ---- how an add ends
-- one that takes frames has read them, and they go with those held
pub record Took (sd : Bool) (rp : OpusRepacketizer) (p : List ℕ) (toc : ℕ) (ns : List ℕ) (first : ℕ) : Type 0 where
  pub end : ℕ
  pub reads : read sd p ≡ accepted toc ns first end
  pub stays : stays_out rp p ≡ false
  pub short : length p ≤ 65535

took_packet : (sd : Bool) (rp : OpusRepacketizer) (p : List ℕ) (toc : ℕ) (ns : List ℕ) (first : ℕ) → packet_adds sd rp p ≡ takes toc ns first
    → Took sd rp p toc ns first
took_packet sd rp p toc ns first e =
    by_test (ltb 65535 (length p)) (λ k. never (let q = rw k at e in cc))
    (λ k. by_test (stays_out rp p) (λ o. never (let q = rw (k, o) at e in cc))
    (λ o. go (ltb-false 65535 (length p) k) o (read sd p) refl (rw (k, o) at e)))
  where
    go : length p ≤ 65535 → stays_out rp p ≡ false → (x : Reading) → read sd p ≡ x → read_adds x ≡ takes toc ns first
        → Took sd rp p toc ns first
    go k o (refused rule place) q e = never (cc)
    go k o (accepted toc' ns' first' end) q e =
        let same : accepted toc' ns' first' end ≡ accepted toc ns first end = cc in
        record { end = end; reads = q ∙ same; stays = o; short = k }

pub took : (sd : Bool) (rp : OpusRepacketizer) (p : List ℕ) (room toc : ℕ) (ns : List ℕ) (first : ℕ) → adds sd rp p room ≡ takes toc ns first
    → Took sd rp p toc ns first
took sd rp p room toc ns first e =
    by_test (sound rp)
    (λ s. by_test (ltb room least_store) (λ h. never (let q = rw (s, h) at e in cc)) (λ h. took_packet sd rp p toc ns first (rw (s, h) at e)))
    (λ s. never (let q = rw s at e in cc))

pub took_goes : {sd : Bool} {rp : OpusRepacketizer} {p : List ℕ} {toc : ℕ} {ns : List ℕ} {first : ℕ} → Bytes p → Took sd rp p toc ns first
    → goes_with rp toc (length ns) ≡ true
took_goes {sd} {rp} {p} {toc} {ns} {first} bytes t =
    by_test (goes_with rp toc (length ns)) (λ g. g)
    (λ g. never (let f = rw g at (sym t.stays ∙ stays_read sd rp p toc ns first t.end bytes t.reads) in cc))

-- a refused add changes nothing
pub refused_keeps : (rp : OpusRepacketizer) (p store : List ℕ) (x : Addition) {e : Refusal} → (leaves_add rp p store x).answer.verdict ≡ Err e
    → ((leaves_add rp p store x).answer.rp ≡ rp) × ((leaves_add rp p store x).store ≡ store)
refused_keeps rp p store (refusal e) v = (refl, refl)
refused_keeps rp p store (takes toc ns first) v = never (cc)
