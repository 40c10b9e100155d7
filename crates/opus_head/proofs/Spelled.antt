-- The bytes of a header and its fields: what is read of bytes spells them again, and what is spelled reads back.
-- Assumes nothing.
use Prim.Native.Nat.{ℕ, zero, suc, ◌+◌, ◌-◌, ◌<◌, ◌≤◌, ◌^◌}
use native.Mathlib.Nat.{add-zero}
use native.Mathlib.Omega.{arith}
use mathlib.Core.Path.{◌≡◌, refl, sym, ap, ◌∙◌}
use mathlib.Core.List.{List, [], ◌∷◌, ◌++◌}
use mathlib.Core.Bool.{true}
use lib.Dec.{eqb}
use lib.ListN.{length, take, drop, get_or, replicate, length-drop, take-append-drop}
use lib.Seq.{drop-cons, length-take-le, take_at, drop-drop, get_or-drop}
use borrow.Author.Tests.{eq-eqb, ne_eqb, eqb-true, eqb-false}
use Rattle.laws.specs.Bytes.{Bytes}
use Rattle.laws.proofs.Bytes.{bytes_drop, bytes_take}
use Rattle.laws.proofs.Never.{never, by_test}
use Rattle.laws.proofs.Every.{both_left, both_right}
use Rattle.opus_head.specs.declared.OpusHead.{OpusHead}
use Rattle.low_first.specs.Numbers.{low_first, number_at}
use Rattle.low_first.proofs.Numbers.{from_back, low_back, from_below}
use Rattle.opus_head.specs.Header.{letters, bits16, table, head_bytes, Lawful}
use Rattle.opus_head.specs.Reading.{signed16, begins, needed, entries, head_of, head_with}
use Rattle.opus_head.specs.Heads.{InRange}
use Rattle.opus_head.specs.Parts.{fields_of}
use Rattle.blocks.proofs.Sets.{length_part}
use Rattle.opus_head.proofs.Fields.{head_plain, head_table, needs_table}
use Rattle.opus_head.proofs.Laid.{fixed_of}
use Rattle.opus_head.proofs.Gain.{bits_back, signed_back, bits_below}

-- ---- the letters
pub begins_with : (cs s : List ℕ) → begins cs s ≡ true → s ≡ cs ++ drop (length cs) s
begins_with [] s t = refl
begins_with (c ∷ cs) [] t = never (cc)
begins_with (c ∷ cs) (b ∷ s) t =
    let same : b ≡ c = eqb-true b c (both_left (eqb b c) (begins cs s) t) in
    rw (same, ← begins_with cs s (both_right (eqb b c) (begins cs s) t))

pub with_begins : (cs s : List ℕ) → begins cs (cs ++ s) ≡ true
with_begins [] s = refl
with_begins (c ∷ cs) s = rw (eq-eqb c c refl) (with_begins cs s)

-- ---- n bytes from a place on, one by one
abbrev pub run : ℕ → ℕ → List ℕ → List ℕ
run zero at s = []
run (suc n) at s = get_or s at 0 ∷ run n (suc at) s

run_is : (n at : ℕ) (s : List ℕ) → at + n ≤ length s → run n at s ≡ take n (drop at s)
run_is zero at s h = refl
run_is (suc n) at s h = rw (drop-cons s at 0 (omega arith)) (ap (λ l. get_or s at 0 ∷ l) (run_is n (suc at) s (omega arith)))

run_drop : (n at : ℕ) (s : List ℕ) → at + n ≤ length s → drop at s ≡ run n at s ++ drop (at + n) s
run_drop zero at s h = rw add-zero
run_drop (suc n) at s h =
    let e : at + suc n ≡ suc at + n = omega arith in
    rw (drop-cons s at 0 (omega arith), e) (ap (λ l. get_or s at 0 ∷ l) (run_drop n (suc at) s (omega arith)))

-- ---- what is read spells the bytes again
module _ (s : List ℕ) (bytes : Bytes s) where
  module _ (n at : ℕ) (h : at + n ≤ length s) where
    taken : length (take n (drop at s)) ≡ n
    taken = length_part s at n h

    part_bytes : Bytes (take n (drop at s))
    part_bytes = bytes_take n (drop at s) (bytes_drop at s bytes)

    number_spelled : low_first n (number_at s at n) ≡ run n at s
    number_spelled =
        ap (λ k. low_first k (number_at s at n)) (sym taken) ∙ low_back (take n (drop at s)) part_bytes ∙ sym (run_is n at s h)

    pub number_below : number_at s at n < 256 ^ n
    number_below = rw taken at (from_below (take n (drop at s)) part_bytes)

  module _ (long : 19 ≤ length s) where
    gain_spelled : low_first 2 (bits16 (signed16 (number_at s 16 2))) ≡ run 2 16 s
    gain_spelled = ap (low_first 2) (bits_back (number_at s 16 2) (number_below 2 16 (omega arith))) ∙ number_spelled 2 16 (omega arith)

    fields_spelled : (streams coupled : ℕ) (mapping : List ℕ)
        → let h = head_with s streams coupled mapping in head_bytes h ≡ letters ++ (run 11 8 s ++ table h)
    unfolding head_bytes
    fields_spelled streams coupled mapping =
        let h = head_with s streams coupled mapping in
        let v = get_or s 8 0 in
        let c = get_or s 9 0 in
        let rate = low_first 4 (number_at s 12 4) in
        let gain = low_first 2 (bits16 (signed16 (number_at s 16 2))) in
        let last = get_or s 18 0 ∷ table h in
        ap (λ x. letters ++ (v ∷ c ∷ x ++ (rate ++ (gain ++ last)))) (number_spelled 2 10 (omega arith))
        ∙ ap (λ x. letters ++ (v ∷ c ∷ run 2 10 s ++ (x ++ (gain ++ last)))) (number_spelled 4 12 (omega arith))
        ∙ ap (λ x. letters ++ (v ∷ c ∷ run 2 10 s ++ (run 4 12 s ++ (x ++ last)))) gain_spelled

    module _ (b : begins letters s ≡ true) where
      front : s ≡ letters ++ (run 11 8 s ++ drop 19 s)
      front = begins_with letters s b ∙ ap (λ l. letters ++ l) (run_drop 11 8 s (omega arith))

      spells_plain : get_or s 18 0 ≡ 0 → s ≡ head_bytes (head_of s) ++ drop (needed s) s
      spells_plain e =
          let mapping = entries (take (get_or s 9 0) (0 ∷ 1 ∷ [])) in
          let none : table (head_with s 1 (get_or s 9 0 - 1) mapping) ≡ [] = rw (eq-eqb (get_or s 18 0) 0 e) in
          let need : needed s ≡ 19 = rw (eq-eqb (get_or s 18 0) 0 e) in
          rw (need, head_plain s e, fields_spelled 1 (get_or s 9 0 - 1) mapping, none) front

      module _ (o : get_or s 18 0 ≡ 0 → ⊥) (fits : needed s ≤ length s) where
        abbrev c : ℕ
        c = get_or s 9 0

        abbrev es : List ℕ
        es = take c (drop 21 s)

        room : 21 + c ≤ length s
        room = omega (arith, needs_table s o)

        abbrev h : OpusHead
        h = head_with s (get_or s 19 0) (get_or s 20 0) (entries es)

        table_spelled : table h ≡ get_or s 19 0 ∷ get_or s 20 0 ∷ es
        table_spelled =
            rw (ne_eqb (get_or s 18 0) 0 o)
            (ap (λ l. get_or s 19 0 ∷ get_or s 20 0 ∷ l) (take_at es (replicate (255 - length es) 0) c (length_part s 21 c room)))

        behind : drop 19 s ≡ (get_or s 19 0 ∷ get_or s 20 0 ∷ es) ++ drop (21 + c) s
        behind =
            run_drop 2 19 s (omega (arith, room))
            ∙ ap (λ l. get_or s 19 0 ∷ get_or s 20 0 ∷ l) (sym (take-append-drop c (drop 21 s)) ∙ ap (λ l. es ++ l) (drop-drop c 21 s))

        spells_table : s ≡ head_bytes (head_of s) ++ drop (needed s) s
        spells_table =
            rw (needs_table s o, head_table s o, fields_spelled (get_or s 19 0) (get_or s 20 0) (entries es), table_spelled)
            (front ∙ ap (λ l. letters ++ (run 11 8 s ++ l)) behind)

      pub read_spells : needed s ≤ length s → s ≡ head_bytes (head_of s) ++ drop (needed s) s
      read_spells fits = by_test (eqb (get_or s 18 0) 0) (λ t. spells_plain (eqb-true (get_or s 18 0) 0 t))
          (λ t. spells_table (eqb-false (get_or s 18 0) 0 t) fits)

-- ---- what is spelled reads back
zeros : (l : List ℕ) → ((i : ℕ) → get_or l i 0 ≡ 0) → l ≡ replicate (length l) 0
zeros [] z = refl
zeros (a ∷ l) z = rw (z 0, ← zeros l (λ i. z (suc i)))

entries_whole : (m : List ℕ) (n : ℕ) → length m ≡ 255 → n ≤ 255 → ((i : ℕ) → n ≤ i → get_or m i 0 ≡ 0) → entries (take n m) ≡ m
entries_whole m n long few unused =
    let k : length (take n m) ≡ n = length-take-le n m (omega arith) in
    let left : length (drop n m) ≡ 255 - n = rw length-drop (omega arith) in
    let rest : drop n m ≡ replicate (255 - n) 0 =
    ap (λ i. i) (zeros (drop n m) (λ i. get_or-drop n m i 0 ∙ unused (n + i) (omega arith)) ∙ ap (λ j. replicate j 0) left) in
    ap (λ j. take n m ++ replicate (255 - j) 0) k ∙ ap (λ l. take n m ++ l) (sym rest) ∙ take-append-drop n m

own_places_lem : (n : ℕ) (m : List ℕ) → 1 ≤ n → n ≤ 2 → 2 ≤ length m → ((i : ℕ) → i < n → get_or m i 0 ≡ i)
    → take n (0 ∷ 1 ∷ []) ≡ take n m
own_places_lem n [] some few long own = absurd (omega arith)
own_places_lem n (a ∷ []) some few long own = absurd (omega arith)
own_places_lem zero (a ∷ b ∷ m) some few long own = absurd (omega arith)
own_places_lem (suc zero) (a ∷ b ∷ m) some few long own = rw (own 0 (omega arith))
own_places_lem (suc (suc zero)) (a ∷ b ∷ m) some few long own = rw (own 0 (omega arith), own 1 (omega arith))
own_places_lem (suc (suc (suc n))) (a ∷ b ∷ m) some few long own = absurd (omega arith)

module _ (h : OpusHead) (range : InRange h) where
  module _ (behind : List ℕ) (streams coupled : ℕ) (mapping : List ℕ) where
    abbrev t : List ℕ
    t = fixed_of h ++ behind

    fields_back : head_with t streams coupled mapping
        ≡ fields_of h.version h.channels h.pre_skip h.rate h.gain h.family streams coupled mapping
    fields_back =
        let v = h.version in
        let c = h.channels in
        let f = h.family in
        let bits = bits_below h.gain range.gain in
        ap (λ x. fields_of v c x (number_at t 12 4) (signed16 (number_at t 16 2)) f streams coupled mapping) (from_back 2 h.pre_skip range.pre_skip)
        ∙ ap (λ x. fields_of v c h.pre_skip x (signed16 (number_at t 16 2)) f streams coupled mapping) (from_back 4 h.rate range.rate)
        ∙ ap (λ x. fields_of v c h.pre_skip h.rate x f streams coupled mapping)
        (ap signed16 (from_back 2 (bits16 h.gain) (omega (arith, bits))) ∙ signed_back h.gain range.gain)

  with_table : {streams coupled : ℕ} {mapping : List ℕ} → streams ≡ h.streams → coupled ≡ h.coupled → mapping ≡ h.mapping
      → fields_of h.version h.channels h.pre_skip h.rate h.gain h.family streams coupled mapping ≡ h
  with_table a b c = rw (a, b, c)

  module _ (lawful : Lawful h) (rest : List ℕ) where
    abbrev whole : List ℕ
    whole = fixed_of h ++ (table h ++ rest)

    back_plain : h.family ≡ 0 → head_of whole ≡ h
    back_plain e =
        let o = lawful.single_stream e in
        let own =
        own_places_lem h.channels h.mapping lawful.channels (lawful.mono_or_stereo e) (omega (arith, range.entry_count)) o.2 in
        let mapping : entries (take h.channels (0 ∷ 1 ∷ [])) ≡ h.mapping =
        ap entries own ∙ entries_whole h.mapping h.channels range.entry_count (omega (arith, range.channels)) lawful.unused in
        let less : h.channels - 1 ≡ h.coupled = omega (arith, o.1) in
        let es = entries (take h.channels (0 ∷ 1 ∷ [])) in
        head_plain whole e ∙ fields_back (table h ++ rest) 1 (h.channels - 1) es ∙ with_table (sym o.0) less mapping

    back_table : (h.family ≡ 0 → ⊥) → head_of whole ≡ h
    back_table o =
        let few : h.channels ≤ length h.mapping = omega (arith, range.channels, range.entry_count) in
        let es = take h.channels h.mapping in
        let is : table h ≡ h.streams ∷ h.coupled ∷ es = rw (ne_eqb h.family 0 o) in
        let there : whole ≡ fixed_of h ++ (h.streams ∷ h.coupled ∷ es ++ rest) = ap (λ l. fixed_of h ++ (l ++ rest)) is in
        let mapping : entries (take h.channels (es ++ rest)) ≡ h.mapping =
        ap entries (take_at es rest h.channels (length-take-le h.channels h.mapping few))
        ∙ entries_whole h.mapping h.channels range.entry_count (omega (arith, range.channels)) lawful.unused in
        let behind = h.streams ∷ h.coupled ∷ es ++ rest in
        ap head_of there
        ∙ head_table (fixed_of h ++ behind) o
        ∙ fields_back behind h.streams h.coupled (entries (take h.channels (es ++ rest))) ∙ with_table refl refl mapping

    pub spelled_reads : head_of whole ≡ h
    spelled_reads = by_test (eqb h.family 0) (λ t. back_plain (eqb-true h.family 0 t)) (λ t. back_table (eqb-false h.family 0 t))
