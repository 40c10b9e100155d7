-- The shorter of a packet's two spellings (document 02, M-103): the compact packet, or the packet as it is.
use Rattle.std.specs.Prelude.{ℕ, List, [], cond, ◌&&◌, ltb, leb, length}
use Rattle.std.proofs.lemmas.List.Edits.{sets}
use Rattle.opus_defines.specs.Bounds.{most_packet}
use Rattle.opus_defines.specs.Outcome.{Effect, refusal, wrote}
use Rattle.packet_pad.specs.Unpad.{unpad_packet}
use Rattle.spelling.specs.declared.Spelling.{Spelling}
use Rattle.spelling.specs.declared.Spelling.TheVariants.{Original, Compact}

-- by what unpadding p gives: the compact packet is taken where it is shorter than p and `room` bytes hold it
abbrev pub spelling_of : List ℕ → ℕ → Effect → Spelling
spelling_of p room (refusal e) = Original
spelling_of p room (wrote n q) = cond (ltb n (length p) && leb n room) (Compact n) Original

-- a packet of more than 65,535 bytes is not read
unfoldable pub spelling : List ℕ → ℕ → Spelling
spelling p room = cond (ltb most_packet (length p)) Original (spelling_of p room (unpad_packet p))

-- the bytes that unpadding writes
abbrev pub bytes_of : Effect → List ℕ
bytes_of (refusal e) = []
bytes_of (wrote n q) = q

unfoldable pub compact_of : List ℕ → List ℕ
compact_of p = bytes_of (unpad_packet p)

-- a packet p, whose compact packet is q, in a spelling of it
abbrev pub spelled_by : List ℕ → List ℕ → Spelling → List ℕ
spelled_by p q Original = p
spelled_by p q (Compact n) = q

-- what the chooser hands back
unfoldable pub shorter : List ℕ → ℕ → List ℕ
shorter p room = spelled_by p (compact_of p) (spelling p room)

-- what it leaves in the work buffer w, where q is the compact packet
abbrev pub work_after : List ℕ → List ℕ → Spelling → List ℕ
work_after q w Original = w
work_after q w (Compact n) = sets w 0 q
