-- How long the texts are: a byte takes at most three digits, and the gain is counted as a number of 32 bits, so that the lines of a header take at most
-- 1,165 bytes.
-- Assumes nothing.
use Prim.Native.Nat.{ℕ, suc, ◌+◌, ◌*◌, ◌≤◌, ◌<◌, ◌^◌}
use native.Mathlib.Omega.{arith}
use mathlib.Core.List.{List, [], ◌∷◌, ◌++◌}
use lib.IntN.{ℤ}
use lib.ListN.{length, take, length-append}
use lib.Seq.{length-take-le}
use mir.Syntax.{w16}
use mir.Val.{SFits}
use borrow.Author.Rules.{sfits_of}
use Rattle.laws.specs.Bytes.{Bytes}
use Rattle.laws.proofs.Bytes.{bytes_tail, bytes_take}
use Rattle.opus_head.specs.Heads.{InRange}
use Rattle.opus_head.specs.declared.OpusHead.{OpusHead}
use Rattle.show.specs.Text.{decimal, number_text}
use Rattle.show.proofs.Digits.{decimal_most}
use Rattle.show.proofs.Signed.{integer_most}
use Rattle.head_text.specs.Labels.{version_label, channels_label, skip_label, samples_end, rate_label, hertz_end}
use Rattle.head_text.specs.Labels.{family_label, streams_label, coupled_label}
use Rattle.head_text.specs.Text.{gain_line, entry_texts, mapping_line, opening_lines, sound_lines, stream_lines, head_lines}
use Rattle.head_text.proofs.Texts.{wider}

-- ---- lines
line_most_lem : (label : List ℕ) (n : ℕ) (end : List ℕ) (m : ℕ) → n < 10 ^ suc m → length (number_text label n end) ≤ length label + suc m + length end
line_most_lem label n end m h = omega (arith, length-append label (decimal n ++ end), length-append (decimal n) end, decimal_most n m h)

byte_most : (label : List ℕ) (n : ℕ) → n < 256 → length (number_text label n (10 ∷ [])) ≤ length label + 4
byte_most label n h = omega (arith, line_most_lem label n (10 ∷ []) 2 (omega arith))

gain_most : (x : ℤ) → SFits w16 x → length (gain_line x) ≤ 29
gain_most x f = simp length-append (omega (arith, integer_most x (wider x f)))

entries_most : (es : List ℕ) → Bytes es → length (entry_texts es) ≤ 4 * length es
unfolding entry_texts
entries_most [] b = omega arith
entries_most (e ∷ es) b =
    omega (arith, length-append (32 ∷ decimal e) (entry_texts es), decimal_most e 2 (omega (arith, b.byte 0)), entries_most es (bytes_tail b))

mapping_most : (es : List ℕ) → Bytes es → length es ≤ 255 → length (mapping_line es) ≤ 1028
mapping_most es b h = simp length-append (omega (arith, entries_most es b))

-- ---- three lines at a time
three_most : {i j k : ℕ} (a b c : List ℕ) → length a ≤ i → length b ≤ j → length c ≤ k → length (a ++ (b ++ c)) ≤ i + (j + k)
three_most a b c h m n = omega (arith, length-append a (b ++ c), length-append b c)

opening_most : (version channels skip : ℕ) → version < 256 → channels < 256 → skip < 65536 → length (opening_lines version channels skip) ≤ 48
unfolding opening_lines
opening_most version channels skip h k m =
    three_most (number_text version_label version (10 ∷ [])) (number_text channels_label channels (10 ∷ [])) (number_text skip_label skip samples_end)
    (byte_most version_label version h) (byte_most channels_label channels k) (line_most_lem skip_label skip samples_end 4 (omega arith))

sound_most : (rate : ℕ) (gain : ℤ) (family : ℕ) → rate < 2 ^ 32 → SFits w16 gain → family < 256 → length (sound_lines rate gain family) ≤ 65
unfolding sound_lines
sound_most rate gain family h f k =
    three_most (number_text rate_label rate hertz_end) (gain_line gain) (number_text family_label family (10 ∷ []))
    (line_most_lem rate_label rate hertz_end 9 (omega arith)) (gain_most gain f) (byte_most family_label family k)

streams_most : (streams coupled : ℕ) (es : List ℕ) → streams < 256 → coupled < 256 → Bytes es → length es ≤ 255
    → length (stream_lines streams coupled es) ≤ 1052
unfolding stream_lines
streams_most streams coupled es h k b m =
    three_most (number_text streams_label streams (10 ∷ [])) (number_text coupled_label coupled (10 ∷ [])) (mapping_line es)
    (byte_most streams_label streams h) (byte_most coupled_label coupled k) (mapping_most es b m)

-- ---- all of them
module _ (h : OpusHead) (r : InRange h) where
  pub entries-within : h.channels ≤ length h.mapping
  entries-within = omega (arith, r.channels, r.entry_count)

  pub parts_most : length (opening_lines h.version h.channels h.pre_skip) + (length (sound_lines h.rate h.gain h.family)
      + length (stream_lines h.streams h.coupled (take h.channels h.mapping))) ≤ 1165
  parts_most =
      let es = take h.channels h.mapping in
      omega (
        arith,
        opening_most h.version h.channels h.pre_skip r.version r.channels r.pre_skip,
        sound_most h.rate h.gain h.family r.rate (sfits_of r.gain) r.family,
        streams_most h.streams h.coupled es r.streams r.coupled (bytes_take h.channels h.mapping r.entries)
            (omega (arith, length-take-le h.channels h.mapping entries-within, r.channels)),
      )

  pub lines_most : length (head_lines h) ≤ 1165
  unfolding head_lines
  lines_most =
      let es = take h.channels h.mapping in
      omega (
        arith,
        length-append (opening_lines h.version h.channels h.pre_skip) (sound_lines h.rate h.gain h.family ++ stream_lines h.streams h.coupled es),
        length-append (sound_lines h.rate h.gain h.family) (stream_lines h.streams h.coupled es),
        parts_most,
      )
