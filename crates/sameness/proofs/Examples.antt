-- A capture of one record, with a byte before it that is in none, and new files held against it. The packet has two frames, AA and BB.
-- Assumes nothing.
use mathlib.Core.Path.{◌≡◌, refl, sym, ap, ◌∙◌}
use mathlib.Core.List.{List, [], ◌∷◌, ◌++◌}
use Prim.Native.Nat.{ℕ}
use native.Mathlib.Omega.{arith}
use Rattle.laws.proofs.Never.{never}
use Rattle.opus_toc.specs.Toc.{duration}
use Rattle.opus_format.specs.Reading.{read, frames_of}
use Rattle.capture.specs.Records.{written, file_of}
use Rattle.capture.specs.Finding.{packet_length, packet_at, before, record_from, next_record}
use Rattle.capture.specs.Reading.{record_bytes, readings_in, records_in, records_of, passed_in, passed_of}
use Rattle.compaction.specs.Lossless.{Same, alike, kept, none, one}
use Rattle.sameness.specs.Sameness.{Begins, Followed, over, next}
use Rattle.sameness.proofs.Beginning.{heads}
use Rattle.sameness.proofs.Following.{followed_filed, none_passed}

-- as code 3, and as code 1, which is a byte shorter
abbrev code3 : List ℕ
code3 = 0x03 ∷ 0x02 ∷ 0xAA ∷ 0xBB ∷ []

abbrev code1 : List ℕ
code1 = 0x01 ∷ 0xAA ∷ 0xBB ∷ []

abbrev original : List ℕ
original = 7 ∷ 0x4B ∷ 0x9D ∷ 65 ∷ 0 ∷ 4 ∷ code3

abbrev new : List ℕ
new = 0x4B ∷ 0x9D ∷ 65 ∷ 0 ∷ 3 ∷ code1

-- the two packets say the same
same : Same code3 code1
unfolding read duration
same = alike 0x03 (1 ∷ 1 ∷ []) 2 4 0x01 (1 ∷ 1 ∷ []) 1 3 refl refl refl refl

-- and so the one capture is found in the other
found : Followed (original ∷ []) new
unfolding records_of records_in readings_in next_record record_from before packet_length packet_at record_bytes written file_of
found =
    next new [] 8
    (record {
      records = record { line = 65; packet = code1 } ∷ [];
      hold = (record { some = omega arith; most = omega arith }, tt);
      same = one refl same none;
      long = refl;
      front = refl;
    })
    over

-- not where a frame has another byte,
other_frame : Same code3 (0x01 ∷ 0xAA ∷ 0xBC ∷ []) → ⊥
unfolding read frames_of duration
other_frame (alike toc ns first taken toc' ns' first' taken' r s six frames) =
    let same_frames_lem : ◌≡◌ {A = List (List ℕ)} ((0xAA ∷ []) ∷ (0xBC ∷ []) ∷ []) ((0xAA ∷ []) ∷ (0xBB ∷ []) ∷ []) =
    ap (frames_of (0x01 ∷ 0xAA ∷ 0xBC ∷ [])) s ∙ (frames ∙ sym (ap (frames_of code3) r)) in
    let z : ◌≡◌ {A = ℕ} 0xBC 0xBB = cc in
    omega arith
other_frame (kept rule place r e) = never (cc)

-- nor where the line is another,
other_line : (n : ℕ) → Begins (records_of original) (0x4B ∷ 0x9D ∷ 66 ∷ 0 ∷ 3 ∷ code1) n → ⊥
unfolding records_of records_in readings_in next_record record_from before packet_length packet_at record_bytes
other_line n b = let l : ◌≡◌ {A = ℕ} 66 65 = (heads b).line in omega arith

-- nor where a byte is left
byte_left : Followed (original ∷ []) (new ++ (0 ∷ [])) → ⊥
unfolding passed_of passed_in readings_in next_record record_from before packet_length record_bytes
byte_left f =
    let r = followed_filed f in
    let z : ◌≡◌ {A = ℕ} 1 0 = ap passed_of r.file ∙ none_passed r.records r.hold in
    omega arith
