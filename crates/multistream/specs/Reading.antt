-- What a multistream packet holds: stream by stream the upper six TOC bits and the frames; and the shortest packet that holds it.
use Rattle.std.specs.Prelude.{ℕ, zero, suc, List, [], ◌∷◌, ◌++◌, true, false, drop}
use Rattle.opus_toc.specs.Toc.{upper_six}
use Rattle.opus_format.specs.Frames.{cut}
use Rattle.opus_format.specs.Reading.{Reading, refused, accepted, read}
use Rattle.opus_header.specs.Compact.{compact}

pub record Stream : Type 0 where
  pub six : ℕ
  pub frames : List (List ℕ)

pub data Streams : Type 0 where
  unreadable : Streams
  streams : List Stream → Streams

abbrev pub and_streams : Stream → Streams → Streams
and_streams x unreadable = unreadable
and_streams x (streams xs) = streams (x ∷ xs)

abbrev pub then_streams : (List ℕ → Streams) → List ℕ → Reading → Streams
then_streams next s (refused rule place) = unreadable
then_streams next s (accepted toc ns first taken) =
    and_streams (record { six = upper_six toc; frames = cut ns (drop first s) }) (next (drop taken s))

-- k self-delimited streams and one ordinary one
abbrev pub read_streams : ℕ → List ℕ → Streams
read_streams zero s = then_streams (λ t. streams []) s (read false s)
read_streams (suc k) s = then_streams (read_streams k) s (read true s)

-- the compact packets of the streams one behind another, in these forms
abbrev pub compact_streams : ℕ → List Stream → List ℕ
compact_streams k [] = []
compact_streams zero (x ∷ more) = compact false x.six x.frames
compact_streams (suc k) (x ∷ more) = compact true x.six x.frames ++ compact_streams k more
