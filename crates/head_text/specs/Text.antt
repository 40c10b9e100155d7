-- The text that the program `head` writes (document 02, M-111): the fields of an identification header in words, a line each, or `refused` and the number of
-- the refusal. 32 is a space, 10 the end of a line.
use Rattle.opus_defines.specs.declared.Refusal.{Refusal}
use Rattle.std.specs.Prelude.{ℕ, List, [], ◌∷◌, ◌++◌, ℤ, take}
use Rattle.opus_defines.specs.Numbers.{refusal_number}
use Rattle.std.specs.Prelude.{Err, Ok, Result}
use Rattle.opus_head.specs.Reading.{head_read}
use Rattle.opus_head.specs.declared.OpusHead.{OpusHead}
use Rattle.show.specs.Text.{decimal, integer, number_text, refusal}
use Rattle.head_text.specs.Labels.{version_label, channels_label, skip_label, samples_end, rate_label, hertz_end, gain_label, gain_end}
use Rattle.head_text.specs.Labels.{family_label, streams_label, coupled_label, mapping_label}

-- ---- lines
abbrev pub gain_line : ℤ → List ℕ
gain_line gain = gain_label ++ (integer gain ++ gain_end)

-- each entry behind a space
unfoldable pub entry_texts : List ℕ → List ℕ
entry_texts [] = []
entry_texts (e ∷ es) = (32 ∷ decimal e) ++ entry_texts es

abbrev pub mapping_line : List ℕ → List ℕ
mapping_line es = mapping_label ++ (entry_texts es ++ (10 ∷ []))

-- ---- a header that was read: nine lines, three by three
unfoldable pub opening_lines : ℕ → ℕ → ℕ → List ℕ
opening_lines version channels skip =
    number_text version_label version (10 ∷ []) ++ (number_text channels_label channels (10 ∷ []) ++ number_text skip_label skip samples_end)

unfoldable pub sound_lines : ℕ → ℤ → ℕ → List ℕ
sound_lines rate gain family = number_text rate_label rate hertz_end ++ (gain_line gain ++ number_text family_label family (10 ∷ []))

unfoldable pub stream_lines : ℕ → ℕ → List ℕ → List ℕ
stream_lines streams coupled es = number_text streams_label streams (10 ∷ []) ++ (number_text coupled_label coupled (10 ∷ []) ++ mapping_line es)

-- of the mapping the entries of the channels alone
unfoldable pub head_lines : OpusHead → List ℕ
head_lines h =
    opening_lines h.version h.channels h.pre_skip
    ++ (sound_lines h.rate h.gain h.family ++ stream_lines h.streams h.coupled (take h.channels h.mapping))

-- ---- the text
abbrev pub answer_text : Result OpusHead Refusal → List ℕ
answer_text (Ok h) = head_lines h
answer_text (Err e) = refusal (refusal_number e)

-- of bytes of any number: what a header is followed by is for `head_read` to judge
unfoldable pub head_text : List ℕ → List ℕ
head_text s = answer_text (head_read s)
