-- Sequences of adds, refused ones included, as demand 3 speaks of them.
use Rattle.opus_defines.specs.declared.Refusal.{Refusal}
use Rattle.std.specs.Prelude.{ℕ, ◌+◌, ◌≤◌, ◌<◌, ◌≡◌, List, [], ◌∷◌, ◌++◌, Bool, true, length, get_or, replicate}
use Rattle.laws.specs.Bytes.{Bytes}
use Rattle.std.specs.Prelude.{Err, Ok, Result}
use Rattle.opus_toc.specs.Toc.{upper_six}
use Rattle.opus_format.specs.Reading.{read, frames_of}
use Rattle.collector.specs.declared.OpusRepacketizer.{OpusRepacketizer}
use Rattle.collector.specs.Collector.{held, least_store, sound}
use Rattle.repacketizer.specs.Adding.{Adding, added_by}

-- a collector with its store
pub record State : Type 0 where
  pub rp : OpusRepacketizer
  pub store : List ℕ

-- a sound collector as the code can have it, with a store that is long enough
pub record Ready (s : State) : Type 0 where
  pub byte : s.rp.toc < 256
  pub lengths48 : length s.rp.len ≡ 48
  pub numbers48 : length s.rp.packet ≡ 48
  pub soundly : sound s.rp ≡ true
  pub roomy : least_store ≤ length s.store

-- a collector that holds nothing, whatever its other fields, as the code can have it, with a store that is long enough
pub record Empty (s : State) : Type 0 where
  pub byte : s.rp.toc < 256
  pub lengths48 : length s.rp.len ≡ 48
  pub numbers48 : length s.rp.packet ≡ 48
  pub none : s.rp.nb_frames ≡ 0
  pub roomy : least_store ≤ length s.store

-- a ready collector that holds these frames, with these upper six TOC bits if there are any
pub record Holds (six : ℕ) (s : State) (all : List (List ℕ)) : Type 0 where
  pub ready : Ready s
  pub frames : held s.rp s.store ≡ all
  pub same : 1 ≤ length all → upper_six s.rp.toc ≡ six

-- one add of a sequence: the packet, whether it is added strictly, and whether in the self-delimited form
pub record Arrival : Type 0 where
  pub strict : Bool
  pub sd : Bool
  pub packet : List ℕ

-- packets of bytes
abbrev pub AllBytes : List Arrival → Type 0
AllBytes [] = Unit {0}
AllBytes (a ∷ more) = Bytes a.packet × AllBytes more

-- one add to a collector with its store: what it answers, and what it leaves
abbrev pub adding : State → Arrival → Adding
adding s a = added_by a.strict a.sd s.rp a.packet s.store

abbrev pub after_add : State → Arrival → State
after_add s a = record { rp = (adding s a).answer.rp; store = (adding s a).store }

-- the packets are added in order
abbrev pub after_adds : State → List Arrival → State
after_adds s [] = s
after_adds s (a ∷ more) = after_adds (after_add s a) more

-- F: the frames of the accepted packets, in order
abbrev pub frames_if : Result (Unit {0}) Refusal → List (List ℕ) → List (List ℕ)
frames_if (Ok tt) frames = frames
frames_if (Err e) frames = []

-- the frames of a packet
abbrev pub frames_in : Arrival → List (List ℕ)
frames_in a = frames_of a.packet (read a.sd a.packet)

abbrev pub frames_added : State → Arrival → List (List ℕ)
frames_added s a = frames_if (adding s a).answer.verdict (frames_in a)

abbrev pub frames_accepted : State → List Arrival → List (List ℕ)
frames_accepted s [] = []
frames_accepted s (a ∷ more) = frames_added s a ++ frames_accepted (after_add s a) more

-- ---- who brought a frame (document 02, M-107)
-- the accepted packets, in order
abbrev pub accepted_if : Result (Unit {0}) Refusal → Arrival → List Arrival
accepted_if (Ok tt) a = a ∷ []
accepted_if (Err e) a = []

abbrev pub accepted_of : State → List Arrival → List Arrival
accepted_of s [] = []
accepted_of s (a ∷ more) = accepted_if (adding s a).answer.verdict a ++ accepted_of (after_add s a) more

-- the numbers of the frames of these packets, of which the first has number k: a block for each packet
abbrev pub blocks : ℕ → List Arrival → List ℕ
blocks k [] = []
blocks k (a ∷ more) = replicate (length (frames_in a)) k ++ blocks (k + 1) more

-- and their frames, in order
abbrev pub frames_of_all : List Arrival → List (List ℕ)
frames_of_all [] = []
frames_of_all (a ∷ more) = frames_in a ++ frames_of_all more

-- every add is accepted
abbrev pub AllAccepted : State → List Arrival → Type 0
AllAccepted s [] = Unit {0}
AllAccepted s (a ∷ more) = ((adding s a).answer.verdict ≡ Ok tt) × AllAccepted (after_add s a) more

-- every accepted packet has these upper six TOC bits
abbrev pub SameSix : ℕ → State → List Arrival → Type 0
SameSix six s [] = Unit {0}
SameSix six s (a ∷ more) =
    ((adding s a).answer.verdict ≡ Ok tt → upper_six (get_or a.packet 0 0) ≡ six)
    × SameSix six (after_add s a) more
