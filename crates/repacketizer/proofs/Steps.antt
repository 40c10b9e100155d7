-- One add.
--     add_ready     the collector stays sound
--     add-held      what it holds grows by the frames of an accepted packet
--     add_read      an accepted packet has been read
--     add_numbers   the new frames get the next number
--     add_bytes     the store stays bytes
--     add_six       the upper six TOC bits of what is accepted are those of what is held
-- Assumes nothing.
use mathlib.Core.Path.{◌≡◌, sym, ◌∙◌, refl, subst}
use mathlib.Core.List.{List, ◌++◌, append-nil}
use mathlib.Core.Bool.{Bool, true}
use Prim.Native.Nat.{ℕ, ◌+◌, ◌*◌, ◌≤◌, ◌<◌}
use native.Mathlib.Omega.{arith}
use lib.Dec.{leb, eqb}
use lib.ListN.{length, get_or, drop, replicate}
use lib.Seq.{length-sets}
use Rattle.laws.specs.Bytes.{Bytes}
use borrow.Author.Tests.{eqb-true, eqb-false, ne_eqb}
use Rattle.laws.proofs.Never.{never, by_test, cond_elim}
use Rattle.laws.proofs.Every.{both_left}
use Rattle.laws.proofs.Bytes.{bytes_take, bytes_drop, bytes_sets}
use Rattle.opus_defines.specs.declared.Refusal.{Refusal}
use Rattle.std.specs.Prelude.{Err, Ok}
use Rattle.opus_size.specs.Size.{most_bytes}
use Rattle.opus_format.specs.Frames.{total, longest}
use Rattle.opus_format.specs.Reading.{accepted, read, frames_of}
use Rattle.opus_toc.specs.Toc.{upper_six}
use Rattle.opus_format.proofs.Sound.{read_spelled}
use Rattle.opus_format.proofs.Facts.{Facts, facts, frames_read, frames_counted}
use Rattle.blocks.specs.Blocks.{part}
use Rattle.blocks.proofs.Sets.{take-sets_at}
use Rattle.packet_numbers.specs.Numbers.{number_after}
use Rattle.packet_numbers.proofs.Growing.{put_numbers_lem, numbered_grown, after_grown}
use Rattle.collector.specs.Collector.{held, held_lengths, held_numbers, framed}
use Rattle.collector.specs.declared.OpusRepacketizer.{OpusRepacketizer}
use Rattle.repacketizer.specs.Adding.{Adding, goes_with, with_frames, Addition, refusal, takes, leaves_add, adds_by}
use Rattle.repacketizer.specs.Runs.{State, Ready, Arrival, adding, after_add, frames_if, frames_in, frames_added}
use Rattle.opus_format.proofs.Lengths.{longest-append}
use Rattle.collector.proofs.Sound.{full-framed, sound-framed, sound-numbered, both_sound}
use Rattle.collector.proofs.Held.{Holding, holding}
use Rattle.repacketizer.proofs.Lengths.{cut-copied}
use Rattle.repacketizer.proofs.Adds.{with_few, with_timed, with_room, taken, Took, took_goes}
use Rattle.repacketizer.proofs.StrictAdds.{by_adds, took_by}

-- the collector and the store that an add leaves
abbrev state_of : Adding → State
state_of a = record { rp = a.answer.rp; store = a.store }

-- ---- an accepted packet
module _ (sd : Bool) (s : State) (p : List ℕ) (r : Ready s) (b : Bytes p) (toc : ℕ) (ns : List ℕ) (first end : ℕ)
    (q : read sd p ≡ accepted toc ns first end) (g : goes_with s.rp toc (length ns) ≡ true) where
  read_facts : Facts (length p) toc ns first end
  read_facts = facts sd p toc ns first end b q

  framely : framed s.rp ≡ true
  framely = sound-framed s.rp r.soundly

  before : Holding s.rp
  before = holding s.rp r.byte r.lengths48 framely

  few : s.rp.nb_frames + length ns ≤ 48
  few = with_few s.rp toc ns framely g r.byte read_facts.few

  -- the lengths held are those of before and the new ones
  grown : held_lengths (with_frames s.rp toc ns) ≡ held_lengths s.rp ++ ns
  grown = take-sets_at s.rp.len s.rp.nb_frames ns (omega (arith, few, r.lengths48))

  -- and their numbers those of before and the next one for each
  renumbered : held_numbers (with_frames s.rp toc ns)
      ≡ held_numbers s.rp ++ replicate (length ns) (number_after s.rp.packet s.rp.nb_frames)
  renumbered = put_numbers_lem s.rp.packet s.rp.nb_frames (length ns) _ (omega (arith, few, r.numbers48))

  small : longest (held_lengths (with_frames s.rp toc ns)) ≤ most_bytes
  small = rw grown (omega (arith, longest-append (held_lengths s.rp) ns, before.small, read_facts.small))

  room : total (held_lengths s.rp) + total ns ≤ length s.store
  room = omega (arith, with_room s.rp toc ns framely g r.byte r.lengths48 read_facts.few read_facts.small, r.roomy)

  taken_numbers : let rp = with_frames s.rp toc ns in
      (held_numbers rp ≡ held_numbers s.rp ++ replicate (length ns) (number_after s.rp.packet s.rp.nb_frames))
      × (number_after rp.packet rp.nb_frames ≡ number_after s.rp.packet s.rp.nb_frames + 1)
  taken_numbers = (
    renumbered,
    after_grown s.rp.packet s.rp.nb_frames (length ns) _ read_facts.some (omega (arith, few, r.numbers48)),
  )

  taken_ready : Ready (state_of (taken s.rp toc ns p first s.store))
  taken_ready =
      record {
        byte = cond_elim (λ (n : ℕ). n < 256) (eqb s.rp.nb_frames 0) toc s.rp.toc (λ e. read_facts.byte) (λ e. r.byte);
        lengths48 = length-sets s.rp.len s.rp.nb_frames ns ∙ r.lengths48;
        numbers48 =
            length-sets s.rp.packet s.rp.nb_frames (replicate (length ns) (number_after s.rp.packet s.rp.nb_frames))
            ∙ r.numbers48;
        soundly =
            both_sound (with_frames s.rp toc ns)
            (full-framed (with_frames s.rp toc ns)
            (record { timed = with_timed s.rp toc ns framely g read_facts.byte read_facts.lasts; small = small }))
            (rw renumbered (numbered_grown s.rp.packet s.rp.nb_frames (length ns) (omega (arith, few, r.numbers48))
            (sound-numbered s.rp r.soundly)));
        roomy = omega (arith, length-sets s.store (total (held_lengths s.rp)) (part p first (total ns)), r.roomy);
      }

  taken_held : held (with_frames s.rp toc ns) (taken s.rp toc ns p first s.store).store ≡ held s.rp s.store ++ frames_of p (read sd p)
  taken_held =
      rw (grown, frames_read sd p toc ns first end q)
      (cut-copied (held_lengths s.rp) ns s.store p first room (omega (arith, read_facts.block, read_facts.within)))

-- ---- any packet, added strictly or not
abbrev addition_of : State → Arrival → Addition
addition_of s a = adds_by a.strict a.sd s.rp a.packet (length s.store)

adding_is : (s : State) (a : Arrival) → adding s a ≡ leaves_add s.rp a.packet s.store (addition_of s a)
adding_is s a = by_adds a.strict a.sd s.rp a.packet s.store

-- what is held behind an add is what was held, and the frames of an accepted packet
abbrev Grown : State → Arrival → Adding → Type 0
Grown s a y =
    held y.answer.rp y.store ≡ held s.rp s.store ++ frames_if y.answer.verdict (frames_of a.packet (read a.sd a.packet))

pub add_ready : (s : State) (a : Arrival) → Ready s → Bytes a.packet → Ready (after_add s a)
add_ready s a r b = subst (λ y. Ready (state_of y)) (sym (adding_is s a)) (go (addition_of s a) refl)
  where
    go : (x : Addition) → addition_of s a ≡ x → Ready (state_of (leaves_add s.rp a.packet s.store x))
    go (refusal e) h = r
    go (takes toc ns first) h =
        let t = took_by a.strict a.sd s.rp a.packet (length s.store) toc ns first h in
        taken_ready a.sd s a.packet r b toc ns first t.end t.reads (took_goes b t)

pub add-held : (s : State) (a : Arrival) → Ready s → Bytes a.packet
    → held (after_add s a).rp (after_add s a).store ≡ held s.rp s.store ++ frames_added s a
add-held s a r b = subst (Grown s a) (sym (adding_is s a)) (go (addition_of s a) refl)
  where
    go : (x : Addition) → addition_of s a ≡ x → Grown s a (leaves_add s.rp a.packet s.store x)
    go (refusal e) h = sym (append-nil (held s.rp s.store))
    go (takes toc ns first) h =
        let t = took_by a.strict a.sd s.rp a.packet (length s.store) toc ns first h in
        taken_held a.sd s a.packet r b toc ns first t.end t.reads (took_goes b t)

-- the store stays bytes
pub add_bytes : (s : State) (a : Arrival) → Bytes s.store → Bytes a.packet → Bytes (after_add s a).store
add_bytes s a k b = subst (λ y. Bytes y.store) (sym (adding_is s a)) (go (addition_of s a))
  where
    go : (x : Addition) → Bytes (leaves_add s.rp a.packet s.store x).store
    go (refusal e) = k
    go (takes toc ns first) =
        bytes_sets s.store (total (held_lengths s.rp)) (part a.packet first (total ns)) k
        (bytes_take (total ns) (drop first a.packet) (bytes_drop first a.packet b))

-- ---- the upper six TOC bits: an accepted packet's are those held behind it; those of a collector that holds frames stay
pub record Six (s : State) (a : Arrival) (x : Adding) : Type 0 where
  pub is : x.answer.verdict ≡ Ok tt → (upper_six (get_or a.packet 0 0) ≡ upper_six x.answer.rp.toc) × (1 ≤ x.answer.rp.nb_frames)
  pub stays : 1 ≤ s.rp.nb_frames → (upper_six x.answer.rp.toc ≡ upper_six s.rp.toc) × (1 ≤ x.answer.rp.nb_frames)

same_six : (rp : OpusRepacketizer) (toc n : ℕ) → (rp.nb_frames ≡ 0 → ⊥) → goes_with rp toc n ≡ true → upper_six toc ≡ upper_six rp.toc
same_six rp toc n z g =
    let t = rw (ne_eqb rp.nb_frames 0 z) at g in
    eqb-true (upper_six toc) (upper_six rp.toc) (both_left (eqb (upper_six toc) (upper_six rp.toc)) (leb ((rp.nb_frames + n) * rp.framesize.0) 960) t)

pub add_six : (s : State) (a : Arrival) → Bytes a.packet → Six s a (adding s a)
add_six s a b = subst (Six s a) (sym (adding_is s a)) (go (addition_of s a) refl)
  where
    go : (x : Addition) → addition_of s a ≡ x → Six s a (leaves_add s.rp a.packet s.store x)
    go (refusal e) h = record { is = λ v. never (cc); stays = λ z. (refl, z) }
    go (takes toc ns first) h =
        let t = took_by a.strict a.sd s.rp a.packet (length s.store) toc ns first h in
        let first-is = (read_spelled a.sd a.packet toc ns first t.end b t.reads).toc_is in
        let some = (facts a.sd a.packet toc ns first t.end b t.reads).some in
        record {
          is = λ v. by_test (eqb s.rp.nb_frames 0)
              (λ e. (rw (e, ← first-is), omega (arith, some)))
              (λ e. (rw (e, ← first-is) (same_six s.rp toc (length ns) (eqb-false s.rp.nb_frames 0 e) (took_goes b t)), omega (arith, some)));
          stays = λ z. (rw (ne_eqb s.rp.nb_frames 0 (λ m. omega (arith, z, m))), omega (arith, some));
        }

-- ---- an accepted packet has been read
pub record Reads (s : State) (a : Arrival) : Type 0 where
  pub toc : ℕ
  pub ns : List ℕ
  pub first : ℕ
  pub taken : Took a.sd s.rp a.packet toc ns first

pub add_read : (s : State) (a : Arrival) → (adding s a).answer.verdict ≡ Ok tt → Reads s a
add_read s a v = go (addition_of s a) refl (rw (← adding_is s a) v)
  where
    go : (x : Addition) → addition_of s a ≡ x → (leaves_add s.rp a.packet s.store x).answer.verdict ≡ Ok tt → Reads s a
    go (refusal e) h v = never (cc)
    go (takes toc ns first) h v =
        record { toc = toc; ns = ns; first = first; taken = took_by a.strict a.sd s.rp a.packet (length s.store) toc ns first h }

-- ---- the numbers: an accepted packet's frames get the next one, and it goes up by one
abbrev pub next : OpusRepacketizer → ℕ
next rp = number_after rp.packet rp.nb_frames

pub record Numbers (s : State) (a : Arrival) (x : Adding) : Type 0 where
  pub is : x.answer.verdict ≡ Ok tt
      → (held_numbers x.answer.rp ≡ held_numbers s.rp ++ replicate (length (frames_in a)) (next s.rp)) × (next x.answer.rp ≡ next s.rp + 1)
  pub stays : {e : Refusal} → x.answer.verdict ≡ Err e → x.answer.rp ≡ s.rp

pub add_numbers : (s : State) (a : Arrival) → Ready s → Bytes a.packet → Numbers s a (adding s a)
add_numbers s a r b = subst (Numbers s a) (sym (adding_is s a)) (go (addition_of s a) refl)
  where
    go : (x : Addition) → addition_of s a ≡ x → Numbers s a (leaves_add s.rp a.packet s.store x)
    go (refusal e) h = record { is = λ v. never (cc); stays = λ v. refl }
    go (takes toc ns first) h =
        let t = took_by a.strict a.sd s.rp a.packet (length s.store) toc ns first h in
        let count = frames_counted a.sd a.packet toc ns first t.end t.reads b in
        record {
          is = λ v. rw count (taken_numbers a.sd s a.packet r b toc ns first t.end t.reads (took_goes b t));
          stays = λ v. never (cc);
        }
