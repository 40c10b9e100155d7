-- Which form a packet is written in, and the packet of a form.
use Rattle.std.specs.Prelude.{ℕ, ◌+◌, ◌-◌, List, ◌++◌, Bool, cond, ltb, length, replicate}
use Rattle.opus_format.specs.Format.{own_length}
use Rattle.opus_header.specs.Header.{chain, pad_bytes}
use Rattle.opus_header.specs.Sums.{header_of}
use Rattle.opus_header.specs.declared.Sums.{Sums}
use Rattle.opus_header.specs.declared.Form.{Form}
use Rattle.opus_header.specs.declared.Form.TheVariants.{Short, Full}

-- one or two frames take codes 0 to 2, more take code 3
abbrev pub compact_form : ℕ → Form
compact_form count = cond (ltb count 3) Short (Full 0)

-- code 3 where the compact packet of `need` bytes does not fill the room; for one or two frames it takes a byte more
abbrev pub filling_form : ℕ → ℕ → ℕ → Form
filling_form count need room =
    cond (ltb need room) (Full (room - (need + cond (ltb count 3) 1 0))) (compact_form count)

abbrev pub form_for : ℕ → ℕ → ℕ → Bool → Form
form_for count need room pad = cond pad (filling_form count need room) (compact_form count)

-- the bytes of the TOC byte and what is counted
abbrev pub front_bytes : Form → ℕ
front_bytes Short = 1
front_bytes (Full n) = 2 + length (chain n)

-- the bytes of a header, and of the compact packet, from the sums of the lengths
abbrev pub header_bytes : Sums → Form → Bool → ℕ
header_bytes m form sd = front_bytes form + (m.sizes + length (own_length sd m.last))

abbrev pub compact_bytes : ℕ → Sums → Bool → ℕ
compact_bytes count m sd = header_bytes m (compact_form count) sd + m.total

abbrev pub missing : Form → ℕ
missing Short = 0
missing (Full n) = n

-- the header, the frames' block, and zeros
unfoldable pub form_packet : Bool → ℕ → List ℕ → Form → List ℕ → List ℕ
form_packet sd six ns form block = header_of sd six ns form ++ (block ++ replicate (pad_bytes (missing form)) 0)
