-- What a packet is judged to be (document 02, M-110), in this order: unreadable, dirty, longer than needed, clean.
use Rattle.std.specs.Prelude.{ℕ, List, Bool, cond, ltb, length, drop}
use Rattle.opus_defines.specs.Bounds.{most_packet}
use Rattle.opus_defines.specs.Rules.{unreadable_or}
use Rattle.opus_defines.specs.declared.Refusal.{Refusal}
use Rattle.opus_defines.specs.declared.Refusal.TheVariants.{BadArg}
use Rattle.opus_toc.specs.Toc.{upper_six}
use Rattle.opus_format.specs.Frames.{cut}
use Rattle.opus_format.specs.Reading.{Reading, refused, accepted, read}
use Rattle.opus_format.specs.Dirt.{padding_of, dirty}
use Rattle.opus_header.specs.Compact.{compact}
use Rattle.packet_judge.specs.declared.Judged.{Judged}
use Rattle.packet_judge.specs.declared.Judged.TheVariants.{Refused, Unreadable, Dirty, Longer, Clean}

-- the bytes of the compact packet with the frames and the upper six TOC bits of the one that was read at the front of p
unfoldable pub least_bytes : Bool → List ℕ → ℕ → List ℕ → ℕ → ℕ
least_bytes sd p toc ns first = length (compact sd (upper_six toc) (cut ns (drop first p)))

-- by whether the padding is dirty, the least length and the bytes taken
abbrev pub said : Bool → ℕ → ℕ → Judged
said dirt least taken = cond dirt Dirty (cond (ltb least taken) (Longer least) Clean)

-- the least length is compared with the bytes taken, not with those lent
unfoldable pub judge_read : Bool → List ℕ → Reading → Judged
judge_read sd p (refused rule place) = Unreadable rule place
judge_read sd p (accepted toc ns first taken) =
    said (dirty (padding_of p (accepted toc ns first taken))) (least_bytes sd p toc ns first) taken

-- `judge_packet`
unfoldable pub judged : Bool → List ℕ → Judged
judged sd p = cond (ltb most_packet (length p)) (Refused BadArg) (judge_read sd p (read sd p))

-- the least length of a packet, which `weigh_packet` answers beside the verdict: of one that cannot be read its own
unfoldable pub least_read : Bool → List ℕ → Reading → ℕ
least_read sd p (refused rule place) = length p
least_read sd p (accepted toc ns first taken) = least_bytes sd p toc ns first

unfoldable pub least_length : Bool → List ℕ → ℕ
least_length sd p = cond (ltb most_packet (length p)) (length p) (least_read sd p (read sd p))

-- the verdict on a packet that the reader refuses, by its refusal; the contract of a function that is not public cites this
abbrev pub unread : Refusal → Judged
unread e = unreadable_or Unreadable (Refused e) e
