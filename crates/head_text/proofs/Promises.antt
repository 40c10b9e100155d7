-- What a buyer may count on when the fields of an identification header are printed (document 02, M-111).
--     text_of_a_header, text_of_what_is_read     the fields of a header are its text,
--     text_of_a_refusal, every_text              and the number of the refusal is that of any other bytes
--     the_front_is_enough                        277 bytes of them are all that the text depends on
--     text_has_room                              1,165 bytes hold any text
-- Assumes nothing.
use Prim.Native.Nat.{ℕ, ◌≤◌}
use mathlib.Core.Path.{◌≡◌, refl, sym}
use mathlib.Core.List.{List, [], ◌++◌}
use mathlib.Core.Logic.{◌⊎◌}
use lib.IntN.{negsuc}
use lib.ListN.{length, take}
use Rattle.laws.specs.Bytes.{Bytes}
use Rattle.opus_defines.specs.Numbers.{refusal_number}
use Rattle.opus_defines.specs.declared.Refusal.{Refusal}
use Rattle.std.specs.Prelude.{Ok, Err}
use Rattle.opus_head.specs.Header.{head_bytes, Lawful}
use Rattle.opus_head.specs.Heads.{InRange}
use Rattle.opus_head.specs.Reading.{head_read}
use Rattle.opus_head.specs.declared.OpusHead.{OpusHead}
use Rattle.opus_head.proofs.Promises.{lawful_is_accepted, read_is_in_range, reading_answers}
use Rattle.show.specs.Text.{refusal}
use Rattle.head_text.specs.Text.{head_lines, head_text}
use Rattle.head_text.proofs.Answers.{text_read, text_refused, text_same, texts, texts_most}
use Rattle.head_text.proofs.Front.{front_read}

-- ---- 1. A header that obeys the rules has its nine lines for a text; behind one of another version than 1 anything may stand.
pub text_of_a_header : (h : OpusHead) → InRange h → Lawful h → (rest : List ℕ) → (h.version ≡ 1 → rest ≡ [])
    → head_text (head_bytes h ++ rest) ≡ head_lines h
text_of_a_header h range l rest end = text_read (head_bytes h ++ rest) (Ok h) (sym (lawful_is_accepted h range l rest end)) h refl

pub text_of_what_is_read : (s : List ℕ) (h : OpusHead) → head_read s ≡ Ok h → head_text s ≡ head_lines h
text_of_what_is_read s h e = text_read s (Ok h) (sym e) h refl

-- ---- 2. Any other bytes have a line, `refused` and the number of the refusal: -22, -23 or -24.
pub text_of_a_refusal : (s : List ℕ) (e : Refusal) → head_read s ≡ Err e → head_text s ≡ refusal (refusal_number e)
text_of_a_refusal s e r = text_refused s (Err e) (sym r) e refl

pub every_text : (s : List ℕ)
    → ((h : OpusHead) × ((head_read s ≡ Ok h) × (head_text s ≡ head_lines h)))
    ⊎ ((head_text s ≡ refusal (negsuc 21)) ⊎ ((head_text s ≡ refusal (negsuc 22)) ⊎ (head_text s ≡ refusal (negsuc 23))))
every_text s = texts s (reading_answers s)

-- ---- 3. The program reads 277 bytes at most: of a longer input they have the text of the whole.
pub the_front_is_enough : (s : List ℕ) → Bytes s → (n : ℕ) → 277 ≤ n → head_text (take n s) ≡ head_text s
the_front_is_enough s bytes n h = text_same (take n s) s (front_read s bytes n h)

-- ---- 4. No text is longer than the buffer that it is put into.
pub text_has_room : (s : List ℕ) → Bytes s → length (head_text s) ≤ 1165
text_has_room s bytes = texts_most s (λ h e. read_is_in_range s bytes h e) (reading_answers s)
