-- Frames cut into consecutive pieces, each written and added again, as demand 3 speaks of them.
use Rattle.std.specs.Prelude.{ℕ, ◌≤◌, ◌<◌, ◌≡◌, List, [], ◌∷◌, ◌++◌, Bool, false, ℤ, pos, negsuc, length, take}
use Rattle.opus_defines.specs.Bounds.{most_packet}
use Rattle.opus_defines.specs.Outcome.{Outcome}
use Rattle.opus_header.specs.Compact.{compact}
use Rattle.repacketizer.specs.Runs.{State, Arrival}
use Rattle.repacketizer_out.specs.Output.{range, out_range}

-- a piece: its frames, and whether its packet is added strictly
pub record Piece : Type 0 where
  pub strict : Bool
  pub frames : List (List ℕ)

-- pieces of at least one frame each
abbrev pub Nonempty : List Piece → Type 0
Nonempty [] = Unit {0}
Nonempty (piece ∷ pieces) = (1 ≤ length piece.frames) × Nonempty pieces

-- the frames of all pieces, in order
abbrev pub together : List Piece → List (List ℕ)
together [] = []
together (piece ∷ pieces) = piece.frames ++ together pieces

-- a piece as the packet of an add
abbrev pub packed : Bool → ℕ → Piece → Arrival
packed sd six piece = record { strict = piece.strict; sd = sd; packet = compact sd six piece.frames }

-- one output of a sequence: where its range ends and the next one begins, its destination, and whether what it leaves is added strictly
pub record Cut : Type 0 where
  pub strict : Bool
  pub end : ℕ
  pub dst : List ℕ

-- the cut points from `begin` on: each above the one before it, the last one n
abbrev pub Cuts : ℕ → ℕ → List Cut → Type 0
Cuts begin n [] = begin ≡ n
Cuts begin n (c ∷ more) = (begin < c.end) × Cuts c.end n more

-- each destination has room for the compact packet of its frames
abbrev pub Room : Bool → ℕ → List (List ℕ) → ℕ → List Cut → Type 0
Room sd six frames begin [] = Unit {0}
Room sd six frames begin (c ∷ more) =
    (length (compact sd six (range begin c.end frames)) ≤ length c.dst)
    × ((length c.dst ≤ most_packet) × Room sd six frames c.end more)

-- what a call left in front of its buffer: as many bytes as its number says
abbrev pub front : Outcome → List ℕ
front o = go o.report.number
  where
    go : ℤ → List ℕ
    go (pos n) = take n o.bytes
    go (negsuc n) = []

-- the unpadded outputs of one range after another, each as the packet of an add
abbrev pub outputs_added : Bool → State → ℕ → List Cut → List Arrival
outputs_added sd s begin [] = []
outputs_added sd s begin (c ∷ more) =
    record { strict = c.strict; sd = sd; packet = front (out_range sd false s.rp s.store (pos begin) (pos c.end) c.dst) }
    ∷ outputs_added sd s c.end more
