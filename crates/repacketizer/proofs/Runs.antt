-- A list of adds: the collector stays sound, the store stays bytes, what is held grows by the frames of the accepted packets, and the upper six
-- TOC bits of every accepted packet are those held at the end; the numbers held are a block for each accepted packet.
-- Assumes nothing.
use Prim.Native.Nat.{ℕ, ◌+◌, ◌≤◌}
use mathlib.Core.Path.{◌≡◌, refl, sym, ap, ◌∙◌}
use mathlib.Core.List.{List, [], ◌∷◌, ◌++◌, append_assoc, append-nil}
use lib.ListN.{length, get_or, replicate}
use Rattle.laws.specs.Bytes.{Bytes}
use Rattle.opus_defines.specs.declared.Refusal.{Refusal}
use Rattle.std.specs.Prelude.{Err, Ok, Result}
use Rattle.opus_toc.specs.Toc.{upper_six}
use Rattle.opus_format.specs.Reading.{accepted, read}
use Rattle.collector.specs.Collector.{held, held_numbers}
use Rattle.collector.specs.declared.OpusRepacketizer.{OpusRepacketizer}
use Rattle.collector.proofs.Sound.{none-sound}
use Rattle.repacketizer.specs.Runs.{State, Ready, Empty, Arrival, AllBytes, SameSix, adding, after_add, after_adds, frames_added, frames_accepted}
use Rattle.repacketizer.specs.Runs.{frames_if, frames_in, frames_of_all, accepted_if, accepted_of, blocks}
use Rattle.repacketizer.proofs.Steps.{add_ready, add-held, add_bytes, add_six, next, add_numbers, add_read}

pub empty_ready : (s : State) → Empty s → Ready s
empty_ready s e = record { byte = e.byte; lengths48 = e.lengths48; numbers48 = e.numbers48; soundly = none-sound s.rp e.none; roomy = e.roomy }

pub empty-held : (s : State) → Empty s → held s.rp s.store ≡ []
empty-held s e = rw e.none

pub runs_ready : (s : State) (l : List Arrival) → Ready s → AllBytes l → Ready (after_adds s l)
runs_ready s [] r b = r
runs_ready s (a ∷ more) r b = runs_ready (after_add s a) more (add_ready s a r b.0) b.1

pub runs_held : (s : State) (l : List Arrival) → Ready s → AllBytes l
    → held (after_adds s l).rp (after_adds s l).store ≡ held s.rp s.store ++ frames_accepted s l
runs_held s [] r b = sym (append-nil (held s.rp s.store))
runs_held s (a ∷ more) r b =
    runs_held (after_add s a) more (add_ready s a r b.0) b.1
    ∙ rw (add-held s a r b.0) (append_assoc (held s.rp s.store) (frames_added s a) (frames_accepted (after_add s a) more))

pub runs_bytes : (s : State) (l : List Arrival) → Bytes s.store → AllBytes l → Bytes (after_adds s l).store
runs_bytes s [] k b = k
runs_bytes s (a ∷ more) k b = runs_bytes (after_add s a) more (add_bytes s a k b.0) b.1

-- a collector that holds frames keeps their six bits
six_stays : (s : State) (l : List Arrival) → AllBytes l → 1 ≤ s.rp.nb_frames → upper_six (after_adds s l).rp.toc ≡ upper_six s.rp.toc
six_stays s [] b z = refl
six_stays s (a ∷ more) b z = let k = (add_six s a b.0).stays z in six_stays (after_add s a) more b.1 k.1 ∙ k.0

pub runs_six : (s : State) (l : List Arrival) → AllBytes l → SameSix (upper_six (after_adds s l).rp.toc) s l
runs_six s [] b = tt
runs_six s (a ∷ more) b =
    (λ v. let k = (add_six s a b.0).is v in k.0 ∙ sym (six_stays (after_add s a) more b.1 k.1), runs_six (after_add s a) more b.1)

-- the numbers held grow by a block for each accepted packet
pub runs_numbers : (s : State) (l : List Arrival) → Ready s → AllBytes l
    → held_numbers (after_adds s l).rp ≡ held_numbers s.rp ++ blocks (next s.rp) (accepted_of s l)
runs_numbers s [] r b = sym (append-nil (held_numbers s.rp))
runs_numbers s (a ∷ more) r b =
    go (runs_numbers (after_add s a) more (add_ready s a r b.0) b.1) (adding s a).answer.verdict refl
  where
    go : held_numbers (after_adds (after_add s a) more).rp
        ≡ held_numbers (after_add s a).rp ++ blocks (next (after_add s a).rp) (accepted_of (after_add s a) more)
        → (v : Result (Unit {0}) Refusal) → (adding s a).answer.verdict ≡ v
        → held_numbers (after_adds (after_add s a) more).rp ≡ held_numbers s.rp ++ blocks (next s.rp) (accepted_if v a ++ accepted_of (after_add s a) more)
    go rest (Ok tt) e =
        let k = (add_numbers s a r b.0).is e in
        let block = replicate (length (frames_in a)) (next s.rp) in
        rest ∙ rw (k.0, k.1) (append_assoc (held_numbers s.rp) block (blocks (next s.rp + 1) (accepted_of (after_add s a) more)))
    go rest (Err e) q =
        let same = (add_numbers s a r b.0).stays q in
        rest ∙ ap (λ (rp : OpusRepacketizer). held_numbers rp ++ blocks (next rp) (accepted_of (after_add s a) more)) same

-- F are the frames of the accepted packets
pub accepted_frames : (s : State) (l : List Arrival) → frames_accepted s l ≡ frames_of_all (accepted_of s l)
accepted_frames s [] = refl
accepted_frames s (a ∷ more) = go (accepted_frames (after_add s a) more) (adding s a).answer.verdict
  where
    go : frames_accepted (after_add s a) more ≡ frames_of_all (accepted_of (after_add s a) more)
        → (v : Result (Unit {0}) Refusal) → frames_if v (frames_in a) ++ frames_accepted (after_add s a) more ≡ frames_of_all
        (accepted_if v a ++ accepted_of (after_add s a) more)
    go rest (Ok tt) = rw rest
    go rest (Err e) = rest

-- what is known of an accepted packet: it was read, and has the upper six TOC bits of all
pub record Came (six : ℕ) (a : Arrival) : Type 0 where
  pub toc : ℕ
  pub ns : List ℕ
  pub first : ℕ
  pub end : ℕ
  pub reads : read a.sd a.packet ≡ accepted toc ns first end
  pub short : length a.packet ≤ 65535
  pub bytes : Bytes a.packet
  pub same : upper_six (get_or a.packet 0 0) ≡ six

abbrev pub AllCame : ℕ → List Arrival → Type 0
AllCame six [] = Unit {0}
AllCame six (a ∷ more) = Came six a × AllCame six more

pub accepted_came : (six : ℕ) (s : State) (l : List Arrival) → AllBytes l → SameSix six s l → AllCame six (accepted_of s l)
accepted_came six s [] b k = tt
accepted_came six s (a ∷ more) b k = go (accepted_came six (after_add s a) more b.1 k.1) (adding s a).answer.verdict refl
  where
    go : AllCame six (accepted_of (after_add s a) more) → (v : Result (Unit {0}) Refusal) → (adding s a).answer.verdict ≡ v
        → AllCame six (accepted_if v a ++ accepted_of (after_add s a) more)
    go rest (Ok tt) e =
        let t = add_read s a e in (
          record {
            toc = t.toc;
            ns = t.ns;
            first = t.first;
            end = t.taken.end;
            reads = t.taken.reads;
            short = t.taken.short;
            bytes = b.0;
            same = k.0 e;
          },
          rest,
        )
    go rest (Err e) q = rest
