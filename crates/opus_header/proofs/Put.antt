-- What is stored in front of the frames: the stores that the code makes are the bytes of the definitions, one behind another.
--     put_none, put_some                the padding lengths
--     put_full, put_short, put_either   the TOC byte and what is counted, of either form
--     Middle                            the length fields behind them: where there are none, and where there are some
--     put_end, put_own                  the whole header
--     ..-room, ..-front                 that each has its place
-- Assumes nothing.
use Prim.Native.Nat.{ℕ, ◌+◌, ◌*◌, ◌-◌, ◌/◌, ◌≤◌}
use native.Mathlib.Omega.{arith}
use native.Mathlib.Nat.{zero-add}
use mathlib.Core.Path.{◌≡◌, refl, ap, ◌∙◌}
use mathlib.Core.List.{List, [], ◌++◌, append-nil, append_assoc}
use mathlib.Core.Bool.{Bool, true, false, cond}
use lib.Dec.{ltb, eqb}
use lib.ListN.{length, set, take, replicate, length-append, length-replicate}
use lib.Seq.{sets, length-sets}
use Rattle.laws.proofs.Never.{cond_elim}
use Rattle.blocks.specs.Blocks.{filled}
use Rattle.blocks.proofs.Sets.{sets-append, sets-next}
use Rattle.opus_size.specs.Size.{most_bytes, length_field, length_fields}
use Rattle.opus_format.specs.Frames.{longest}
use Rattle.opus_format.specs.Format.{own_length}
use Rattle.opus_header.specs.Header.{same, last, sizes, chain, short_code, header, full_front}
use Rattle.opus_header.specs.Sums.{sums_of, front_of, header_of}
use Rattle.opus_header.specs.declared.Sums.{Sums}
use Rattle.opus_header.specs.declared.Form.{Form}
use Rattle.opus_header.specs.declared.Form.TheVariants.{Short, Full}
use Rattle.opus_header.proofs.Lengths.{firsts-take, last_most}
use Rattle.opus_header.proofs.Chain.{chain_some, length-chain}

-- a flag is 0 or 1, and a code is at most 2
pub flag_most : (b : Bool) → cond b 0 1 ≤ 1
flag_most b = cond_elim (λ (x : ℕ). x ≤ 1) b 0 1 (λ e. omega arith) (λ e. omega arith)

pub code_most : (count : ℕ) (alike : Bool) → short_code count alike ≤ 2
code_most count alike =
    cond_elim (λ (x : ℕ). x ≤ 2) (ltb count 2) 0 (cond alike 1 2) (λ e. omega arith)
    (λ e. cond_elim (λ (x : ℕ). x ≤ 2) alike 1 2 (λ f. omega arith) (λ f. omega arith))

-- ---- the padding lengths
module _ (l : List ℕ) (at n : ℕ) where
  pub put_none : n ≡ 0 → (l ≡ sets l at (chain n)) × (at ≡ at + length (chain n))
  put_none e = rw e (refl, omega arith)

  pub put_some : {d : List ℕ} → d ≡ filled l at ((n - 1) / 255) 255 → (n ≡ 0 → ⊥)
      → (set d (at + (n - 1) / 255) (n - 1 - 255 * ((n - 1) / 255)) ≡ sets l at (chain n)) × (at + (n - 1) / 255 + 1 ≡ at + length (chain n))
  put_some e some =
      let more = (n - 1) / 255 in
      (rw (e, chain_some n some) (sets-next l at more (replicate more 255) _ (length-replicate more 255)), omega (arith, length-chain n some))

-- ---- the TOC byte and what is counted
module _ (six count : ℕ) (alike : Bool) (form : Form) where
  pub short-front : form ≡ Short → length (front_of six count alike form) ≡ 1
  short-front e = rw e

  pub full-front : (n : ℕ) → form ≡ Full n → length (front_of six count alike form) ≡ 2 + length (chain n)
  full-front n e = rw e (omega arith)

module _ (l : List ℕ) (six count : ℕ) (alike : Bool) where
  pub put_full : (n : ℕ) {d : List ℕ} {u p r : ℕ} → u ≡ 128 * cond alike 0 1 → p ≡ 64 * cond (eqb n 0) 0 1
      → d ≡ sets (set (set l 0 (4 * six + 3)) 1 (u + p + count)) 2 (chain n) → r ≡ 2 + length (chain n)
      → (d ≡ sets l 0 (full_front six count alike n)) × (r ≡ length (full_front six count alike n))
  put_full n eu ep ed er = (rw (ed, eu, ep), omega arith)

  module _ (form : Form) where
    pub put_short : {c : ℕ} → c ≡ short_code count alike → form ≡ Short
        → (set l 0 (4 * six + c) ≡ sets l 0 (front_of six count alike form)) × (1 ≡ length (front_of six count alike form))
    put_short ec e = rw (e, ec) (refl, refl)

    pub put_either : (n : ℕ) {d : List ℕ} {r : ℕ}
        → d ≡ sets l 0 (full_front six count alike n) → r ≡ length (full_front six count alike n) → form ≡ Full n
        → (d ≡ sets l 0 (front_of six count alike form)) × (r ≡ length (front_of six count alike form))
    put_either n ed er e = rw e (ed, er)

-- ---- the whole header
-- over l the front and the length fields stand from place 0 on: d is what stands there now, and `at` is behind them
pub record Middle (l : List ℕ) (six : ℕ) (ns : List ℕ) (form : Form) (m : Sums) (d : List ℕ) (at : ℕ) : Type 0 where
  pub bytes : d ≡ sets l 0 (front_of six (length ns) m.same form ++ sizes ns)
  pub place : at ≡ length (front_of six (length ns) m.same form) + length (sizes ns)

module _ (six : ℕ) (ns : List ℕ) (form : Form) (m : Sums) (measured : m ≡ sums_of ns) where
  abbrev front : List ℕ
  front = front_of six (length ns) m.same form

  alike : m.same ≡ same ns
  unfolding sums_of
  alike = rw measured

  ends : m.last ≡ last ns
  unfolding sums_of
  ends = rw measured

  whole : (sd : Bool) → header_of sd six ns form ≡ front ++ (sizes ns ++ own_length sd (last ns))
  unfolding header
  whole sd = rw alike

  length_whole : (sd : Bool) → length (header_of sd six ns form) ≡ length front + length (sizes ns) + length (own_length sd (last ns))
  length_whole sd = rw whole (simp length-append (omega arith))

  pub front_room : (sd : Bool) (l : List ℕ) → length (header_of sd six ns form) ≤ length l → length front ≤ length l
  front_room sd l h = omega (arith, length_whole sd)

  -- where the lengths are alike the front is enough, else the fields of all but the last stand behind it
  module _ (l : List ℕ) {d : List ℕ} {at : ℕ} (ed : d ≡ sets l 0 front) (ea : at ≡ length front) where
    pub middle_same : m.same ≡ true → Middle l six ns form m d at
    middle_same s =
        let none : sizes ns ≡ [] = rw (← alike, s) in
        record { bytes = rw (none, append-nil) ed; place = rw none (omega arith) }

    module _ (s : m.same ≡ false) where
      fields_part : length_fields (take (length ns - 1) ns) ≡ sizes ns
      fields_part = rw (← alike, s, firsts-take)

      pub fields_room : (sd : Bool) → length (header_of sd six ns form) ≤ length l → length d ≡ length l
          → at + length (length_fields (take (length ns - 1) ns)) ≤ length d
      fields_room sd h k = rw fields_part (omega (arith, length_whole sd))

      pub middle_differ : {d' : List ℕ} {at' : ℕ} → d' ≡ sets d at (length_fields (take (length ns - 1) ns))
          → at' ≡ at + length (length_fields (take (length ns - 1) ns)) → Middle l six ns form m d' at'
      middle_differ f g =
          record { bytes = rw (sets-append, zero-add, ← ed, ← ea, ← fields_part) f; place = rw (← fields_part, ← ea) g }

-- behind them the self-delimited form has one field more
module _ {l : List ℕ} {six : ℕ} {ns : List ℕ} {form : Form} {m : Sums} {d : List ℕ} {at : ℕ} (k : Middle l six ns form m d at) where
  pub middle_length : length d ≡ length l
  middle_length = ap length k.bytes ∙ simp length-sets

  module _ (measured : m ≡ sums_of ns) (sd : Bool) where
    pub put_end : sd ≡ false → (d ≡ sets l 0 (header_of sd six ns form)) × (at ≡ length (header_of sd six ns form))
    put_end s =
        let none : own_length sd (last ns) ≡ [] = rw s in
        (rw (whole six ns form m measured sd, none, append-nil) k.bytes, rw (length_whole six ns form m measured sd, none) (omega arith))

    module _ (s : sd ≡ true) where
      own : own_length sd (last ns) ≡ length_field m.last
      own = rw (s, ends six ns form m measured)

      pub own_room : 1 ≤ length ns → longest ns ≤ most_bytes → length (header_of sd six ns form) ≤ length l
          → (m.last ≤ most_bytes) × (at + length (length_field m.last) ≤ length d)
      own_room some small h = (
        omega (arith, ends six ns form m measured, last_most ns some),
        rw (← own) (omega (arith, length_whole six ns form m measured sd, middle_length)),
      )

      pub put_own : {d' : List ℕ} {at' : ℕ} → d' ≡ sets d at (length_field m.last) → at' ≡ at + length (length_field m.last)
          → (d' ≡ sets l 0 (header_of sd six ns form)) × (at' ≡ length (header_of sd six ns form))
      put_own f g =
          let all = front six ns form m measured ++ sizes ns in
          let field = length_field m.last in (
            rw (
              whole six ns form m measured sd,
              own,
              ← append_assoc (front six ns form m measured) (sizes ns) field,
              sets-append l 0 all field,
              zero-add,
              ← k.bytes,
              length-append,
              ← k.place,
            ) f,
            rw (length_whole six ns form m measured sd, own) (omega arith),
          )
