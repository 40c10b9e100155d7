-- What is counted of lengths before a header is written, and the header that a form says.
use Rattle.std.specs.Prelude.{ℕ, List, Bool, length}
use Rattle.opus_format.specs.Frames.{total}
use Rattle.opus_header.specs.Header.{same, last, sizes, header, short_front, full_front}
use Rattle.opus_header.specs.declared.Sums.{Sums}
use Rattle.opus_header.specs.declared.Form.{Form}
use Rattle.opus_header.specs.declared.Form.TheVariants.{Short, Full}

unfoldable pub sums_of : List ℕ → Sums
sums_of ns = record { total = total ns; sizes = length (sizes ns); same = same ns; last = last ns }

abbrev pub front_of : ℕ → ℕ → Bool → Form → List ℕ
front_of six count alike Short = short_front six count alike
front_of six count alike (Full n) = full_front six count alike n

abbrev pub header_of : Bool → ℕ → List ℕ → Form → List ℕ
header_of sd six ns form = header sd (front_of six (length ns) (same ns) form) ns
