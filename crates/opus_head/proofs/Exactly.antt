-- What is read and what is written, exactly: the calls' answers against the bytes and the rules of RFC 7845.
--     Was, accepted_was       what an accepted reading says of the bytes
--     was_lawful, was_bytes   its fields obey the rules, and spell the bytes
--     was_ranged              and are in their ranges
--     accepted                lawful fields, spelled, are accepted
--     not_lettered, lettered-.., fields_only     the refusals in their order
-- Assumes nothing.
use Prim.Native.Nat.{ℕ, zero, suc, ◌+◌, ◌-◌, ◌<◌, ◌≤◌}
use native.Mathlib.Omega.{arith}
use mathlib.Core.Path.{◌≡◌, sym, ap, ◌∙◌}
use mathlib.Core.List.{List, [], ◌∷◌, ◌++◌, append-nil}
use mathlib.Core.Bool.{Bool, true, false, cond}
use mathlib.Core.Logic.{◌⊎◌, inl, inr}
use lib.Dec.{eqb, ltb}
use lib.ListN.{length, take, drop, get_or, replicate, length-append, drop_of_length-le, length-drop, length-replicate, take-append-drop}
use lib.Seq.{take_at}
use borrow.Author.Tests.{eq-eqb, ne_eqb, le-leb, lt-leb, eqb-true, ltb-true, ltb-false}
use Rattle.laws.specs.Bytes.{Bytes}
use Rattle.laws.proofs.Bytes.{bytes_nil, bytes_cons, bytes_append, bytes_take, bytes_drop}
use Rattle.laws.proofs.Never.{never, by_test, cond_elim}
use Rattle.blocks.proofs.Sets.{length-part_le}
use Rattle.opus_defines.specs.declared.Refusal.{Refusal}
use Rattle.opus_defines.specs.declared.Refusal.TheVariants.{BadHeader, UnknownVersion, BadField}
use Rattle.std.specs.Prelude.{Result, Ok, Err}
use Rattle.opus_head.specs.declared.OpusHead.{OpusHead}
use Rattle.low_first.specs.Numbers.{number_at}
use Rattle.opus_head.specs.Header.{letters, table, head_bytes, Lawful}
use Rattle.opus_head.specs.Reading.{begins, needed, long_as, ruled, entries, head_of, head_read, head_with}
use Rattle.opus_head.specs.Parts.{checked}
use Rattle.opus_head.specs.Heads.{InRange}
use Rattle.opus_head.proofs.Laid.{fixed_of, bytes_then, bytes_long}
use Rattle.opus_head.proofs.Fitting.{needed_least}
use Rattle.opus_head.proofs.Fields.{head_version}
use Rattle.opus_head.proofs.Ruling.{ruled_lawful, lawful_ruled}
use Rattle.opus_head.proofs.Spelled.{begins_with, with_begins, read_spells, spelled_reads, number_below}
use Rattle.opus_head.proofs.Gain.{signed_small}
use Rattle.opus_head.proofs.Answered.{read_short, read_letters, read-version, read_length, read_fields_lem, long_enough}

-- ---- the ways of reading
-- long enough for the fields that every header has, the letters, and a version that is known
pub record Begun (s : List ℕ) : Type 0 where
  pub least : 19 ≤ length s
  pub lettered : begins letters s ≡ true
  pub version : get_or s 8 0 ≤ 15

-- and the length that the fields need
pub record Long (s : List ℕ) : Type 0 where
  pub begun : Begun s
  pub long : long_as (get_or s 8 0) (length s) (needed s) ≡ true

data Way (s : List ℕ) : Type 0 where
  short : length s < 19 → Way s
  other : 19 ≤ length s → begins letters s ≡ false → Way s
  unknown : 19 ≤ length s → begins letters s ≡ true → 15 < get_or s 8 0 → Way s
  wrong : Begun s → long_as (get_or s 8 0) (length s) (needed s) ≡ false → Way s
  against : Long s → ruled (head_of s) ≡ false → Way s
  reads : Long s → ruled (head_of s) ≡ true → Way s

ways : (s : List ℕ) → Way s
ways s =
    by_test (ltb (length s) 19) (λ t. short (ltb-true (length s) 19 t)) (λ t.
    let least = ltb-false (length s) 19 t in
    by_test (begins letters s)
    (λ b. by_test (ltb 15 (get_or s 8 0)) (λ v. unknown least b (ltb-true 15 (get_or s 8 0) v)) (λ v.
    let begun : Begun s = record { least = least; lettered = b; version = ltb-false 15 (get_or s 8 0) v } in
    by_test (long_as (get_or s 8 0) (length s) (needed s))
    (λ l. let long : Long s = record { begun = begun; long = l } in by_test (ruled (head_of s)) (reads long) (against long))
    (wrong begun)))
    (other least))

module _ (s : List ℕ) where
  -- what is left to say of a header of the right length is whether its fields obey the rules
  said : Long s → (b : Bool) → ruled (head_of s) ≡ b → head_read s ≡ cond b (Ok (head_of s)) (Err BadField)
  said l b r =
      let g = l.begun in
      read_fields_lem s g.least g.lettered g.version l.long ∙ ap (λ q. cond q (Ok (head_of s)) (Err BadField)) r

  read_wrong : Begun s → long_as (get_or s 8 0) (length s) (needed s) ≡ false → head_read s ≡ Err BadHeader
  read_wrong g l = read_length s g.least g.lettered g.version l

  -- every reading is accepted, or refused by one of the three
  pub answers : ((h : OpusHead) × (head_read s ≡ Ok h))
      ⊎ ((head_read s ≡ Err BadHeader) ⊎ ((head_read s ≡ Err UnknownVersion) ⊎ (head_read s ≡ Err BadField)))
  answers = go (ways s)
    where
      go : Way s → ((h : OpusHead) × (head_read s ≡ Ok h))
          ⊎ ((head_read s ≡ Err BadHeader) ⊎ ((head_read s ≡ Err UnknownVersion) ⊎ (head_read s ≡ Err BadField)))
      go (short h) = inr (inl (read_short s h))
      go (other h b) = inr (inl (read_letters s h b))
      go (unknown h b v) = inr (inr (inl (read-version s h b v)))
      go (wrong g l) = inr (inl (read_wrong g l))
      go (against l r) = inr (inr (inr (said l false r)))
      go (reads l r) = inl (head_of s, said l true r)

-- ---- an accepted reading
pub record Was (s : List ℕ) (h : OpusHead) : Type 0 where
  pub long : Long s
  pub fits : ruled (head_of s) ≡ true
  pub is : h ≡ head_of s

refused_not : {x : Result OpusHead Refusal} {h : OpusHead} {e : Refusal} → x ≡ Ok h → x ≡ Err e → ◌≡◌ {A = ℕ} 0 1
refused_not a r = let z = sym r ∙ a in cc

pub accepted_was : (s : List ℕ) (h : OpusHead) → head_read s ≡ Ok h → Was s h
accepted_was s h a = go (ways s)
  where
    go : Way s → Was s h
    go (short t) = never (refused_not a (read_short s t))
    go (other t b) = never (refused_not a (read_letters s t b))
    go (unknown t b v) = never (refused_not a (read-version s t b v))
    go (wrong g l) = never (refused_not a (read_wrong s g l))
    go (against l r) = never (refused_not a (said s l false r))
    go (reads l r) = record { long = l; fits = r; is = let z = sym a ∙ said s l true r in cc }

-- the bytes of a header of the right length, whatever is behind them
module _ (s : List ℕ) (l : Long s) where
  abbrev g : Begun s
  g = l.begun

  pub enough : needed s ≤ length s
  enough = long_enough (get_or s 8 0) (length s) (needed s) l.long

  -- of version 1 nothing is behind them
  pub just : get_or s 8 0 ≡ 1 → drop (needed s) s ≡ []
  just v =
      let same : length s ≤ needed s = omega (arith, eqb-true (length s) (needed s) (rw (eq-eqb (get_or s 8 0) 1 v) at l.long)) in
      drop_of_length-le s same

  pub spells : Bytes s → s ≡ head_bytes (head_of s) ++ drop (needed s) s
  spells bytes = read_spells s bytes g.least g.lettered enough

  pub lawful : ruled (head_of s) ≡ true → Lawful (head_of s)
  lawful r = ruled_lawful (head_of s) (omega (arith, head_version s, g.version)) r

-- ---- what is read is in its range
zero_bytes : (n : ℕ) → Bytes (replicate n 0)
zero_bytes zero = bytes_nil
zero_bytes (suc n) = bytes_cons (omega arith) (zero_bytes n)

entries_long : (es : List ℕ) → length es ≤ 255 → length (entries es) ≡ 255
entries_long es h = length-append es (replicate (255 - length es) 0) ∙ (rw (length-replicate {A = ℕ} (255 - length es) 0) (omega arith))

module _ (s : List ℕ) (bytes : Bytes s) (h : 19 ≤ length s) where
  mapped_ranged : (streams coupled : ℕ) (es : List ℕ) → streams < 256 → coupled < 256 → Bytes es → length es ≤ 255
      → InRange (head_with s streams coupled (entries es))
  mapped_ranged streams coupled es a b c d = record {
    version = bytes.byte 8;
    channels = bytes.byte 9;
    pre_skip = number_below s bytes 2 10 (omega arith);
    rate = number_below s bytes 4 12 (omega arith);
    gain = signed_small (number_at s 16 2) (number_below s bytes 2 16 (omega arith));
    family = bytes.byte 18;
    streams = a;
    coupled = b;
    entries = bytes_append es (replicate (255 - length es) 0) c (zero_bytes (255 - length es));
    entry_count = entries_long es d;
  }

  ranged : InRange (head_of s)
  ranged =
      let c = get_or s 9 0 in
      let byte : c < 256 = bytes.byte 9 in
      let two : Bytes (0 ∷ 1 ∷ []) = bytes_cons (omega arith) (bytes_cons (omega arith) bytes_nil) in
      cond_elim InRange (eqb (get_or s 18 0) 0) (head_with s 1 (c - 1) (entries (take c (0 ∷ 1 ∷ []))))
      (head_with s (get_or s 19 0) (get_or s 20 0) (entries (take c (drop 21 s))))
      (λ _. mapped_ranged 1 (c - 1) (take c (0 ∷ 1 ∷ [])) (omega arith) (omega arith) (bytes_take c (0 ∷ 1 ∷ []) two)
      (omega (arith, length-part_le (0 ∷ 1 ∷ []) 0 c)))
      (λ _. mapped_ranged (get_or s 19 0) (get_or s 20 0) (take c (drop 21 s)) (bytes.byte 19) (bytes.byte 20)
      (bytes_take c (drop 21 s) (bytes_drop 21 s bytes))
      (omega (arith, length-part_le s 21 c)))

-- the length, tested or not
is_long : (version n need : ℕ) → need ≤ n → (version ≡ 1 → n ≡ need) → long_as version n need ≡ true
is_long version n need h one =
    by_test (eqb version 1) (λ t. rw (t, eq-eqb n need (one (eqb-true version 1 t)))) (λ t. rw (t, le-leb need n h))

not_long : (version n need : ℕ) → (n < need) ⊎ ((version ≡ 1) × (need < n)) → long_as version n need ≡ false
not_long version n need (inl h) =
    by_test (eqb version 1) (λ t. rw (t, ne_eqb n need (λ e. omega arith))) (λ t. rw (t, lt-leb need n h))
not_long version n need (inr h) = rw (eq-eqb version 1 h.0, ne_eqb n need (λ e. omega (arith, h.1)))

-- ---- lawful fields, spelled, are accepted
module _ (h : OpusHead) (range : InRange h) (lawful : Lawful h) (rest : List ℕ) (end : h.version ≡ 1 → rest ≡ []) where
  abbrev s : List ℕ
  s = fixed_of h ++ (table h ++ rest)

  is : head_bytes h ++ rest ≡ s
  is = bytes_then h rest

  few : h.channels ≤ length h.mapping
  few = omega (arith, range.channels, range.entry_count)

  spelled_long : length (head_bytes h) ≡ needed s
  spelled_long = bytes_long h few

  spelled_length : length s ≡ needed s + length rest
  spelled_length = sym (ap length is) ∙ length-append (head_bytes h) rest ∙ ap (λ n. n + length rest) spelled_long

  long_right : long_as h.version (length s) (needed s) ≡ true
  long_right =
      is_long h.version (length s) (needed s) (omega (arith, spelled_length)) (λ v. omega (arith, spelled_length, ap length (end v)))

  least : 19 ≤ length s
  least = omega (arith, spelled_length, needed_least h.family h.channels)

  spelled_accepted : head_read s ≡ Ok h
  spelled_accepted =
      read_fields_lem s least (with_begins letters (drop 8 s)) lawful.version long_right ∙ ap checked (spelled_reads h range lawful rest)
      ∙ ap (λ q. cond q (Ok h) (Err BadField)) (lawful_ruled h lawful)

  pub accepted : head_read (head_bytes h ++ rest) ≡ Ok h
  accepted = ap head_read is ∙ spelled_accepted

-- ---- of what was accepted
module _ {s : List ℕ} {h : OpusHead} (w : Was s h) where
  pub was_lawful : Lawful h
  was_lawful = rw w.is (lawful s w.long w.fits)

  version_is : h.version ≡ 1 → get_or s 8 0 ≡ 1
  version_is v = sym (head_version s) ∙ ap (λ (x : OpusHead). x.version) (sym w.is) ∙ v

  module _ (bytes : Bytes s) where
    pub was_ranged : InRange h
    was_ranged = rw w.is (ranged s bytes w.long.begun.least)

    spelled_so : s ≡ head_bytes h ++ drop (needed s) s
    spelled_so = rw w.is (spells s w.long bytes)

    pub was_spelled : (rest : List ℕ) × (s ≡ head_bytes h ++ rest)
    was_spelled = (drop (needed s) s, spelled_so)

    pub was_whole : h.version ≡ 1 → s ≡ head_bytes h
    was_whole v = spelled_so ∙ ap (λ r. head_bytes h ++ r) (just s w.long (version_is v)) ∙ append-nil (head_bytes h)

-- ---- the refusals
pub not_lettered : (s : List ℕ) → (length s < 19) ⊎ ((rest : List ℕ) → s ≡ letters ++ rest → ⊥) → head_read s ≡ Err BadHeader
not_lettered s (inl h) = read_short s h
not_lettered s (inr o) =
    by_test (ltb (length s) 19) (λ t. read_short s (ltb-true (length s) 19 t))
    (λ t. by_test (begins letters s) (λ b. absurd (o (drop 8 s) (begins_with letters s b))) (read_letters s (ltb-false (length s) 19 t)))

module _ (s rest : List ℕ) (least : 19 ≤ length s) (e : s ≡ letters ++ rest) where
  starts : begins letters s ≡ true
  starts = ap (begins letters) e ∙ with_begins letters rest

  pub lettered_version : 15 < get_or s 8 0 → head_read s ≡ Err UnknownVersion
  lettered_version v = read-version s least starts v

  module _ (version : get_or s 8 0 ≤ 15) where
    started : Begun s
    started = record { least = least; lettered = starts; version = version }

    pub lettered_length : (length s < needed s) ⊎ ((get_or s 8 0 ≡ 1) × (needed s < length s)) → head_read s ≡ Err BadHeader
    lettered_length o = read_wrong s started (not_long (get_or s 8 0) (length s) (needed s) o)

    module _ (bytes : Bytes s) (fits : needed s ≤ length s) (one : get_or s 8 0 ≡ 1 → length s ≡ needed s) where
      right : Long s
      right = record { begun = started; long = is_long (get_or s 8 0) (length s) (needed s) fits one }

      front_is : (h : OpusHead) → head_bytes h ≡ take (needed s) s → head_bytes h ++ drop (needed s) s ≡ s
      front_is h q = ap (λ l. l ++ drop (needed s) s) q ∙ take-append-drop (needed s) s

      -- the bytes of the head that is read are these
      read-front : head_bytes (head_of s) ≡ take (needed s) s
      read-front =
          let b = head_bytes (head_of s) in
          let whole = spells s right bytes in
          let sum = ap length whole ∙ length-append b (drop (needed s) s) in
          let long : length b ≡ needed s = omega (arith, sum, length-drop (needed s) s) in
          sym (ap (take (needed s)) whole ∙ take_at b (drop (needed s) s) (needed s) long)

      pub lettered_answers : ((h : OpusHead) × (head_read s ≡ Ok h)) ⊎ (head_read s ≡ Err BadField)
      lettered_answers = by_test (ruled (head_of s)) (λ r. inl (head_of s, said s right true r)) (λ r. inr (said s right false r))

      pub lettered_fields : ((h : OpusHead) → InRange h → Lawful h → head_bytes h ≡ take (needed s) s → ⊥) → head_read s ≡ Err BadField
      lettered_fields o =
          by_test (ruled (head_of s)) (λ r. absurd (o (head_of s) (ranged s bytes least) (lawful s right r) read-front)) (λ r. said s right false r)

      pub fields_only : head_read s ≡ Err BadField → (h : OpusHead) → InRange h → Lawful h → head_bytes h ≡ take (needed s) s → ⊥
      fields_only r h range l q =
          let is = front_is h q in
          let same : get_or s 8 0 ≡ h.version = ap (λ x. get_or x 8 0) (sym is ∙ bytes_then h (drop (needed s) s)) in
          let a = accepted h range l (drop (needed s) s) (λ v. just s right (same ∙ v)) in
          absurd (never (refused_not (ap head_read (sym is) ∙ a) r))
