-- The tests of the rules, one law for each way out of the code that makes them.
-- Assumes nothing.
use Prim.Native.Nat.{ℕ, zero, suc, ◌+◌, ◌-◌, ◌<◌, ◌≤◌}
use native.Mathlib.Nat.{sub-zero}
use native.Mathlib.Numerals.{add-one}
use native.Mathlib.Omega.{arith}
use mathlib.Core.Path.{◌≡◌, refl, sym, ap, ◌∙◌}
use mathlib.Core.List.{List, []}
use mathlib.Core.Bool.{Bool, true, false, cond, ◌&&◌}
use lib.Dec.{eqb, ltb, leb}
use lib.ListN.{length, drop, get_or, drop_of_length-le}
use lib.Seq.{drop-cons}
use borrow.Author.Tests.{le-leb, lt-leb, eq-eqb, ne_eqb}
use Rattle.laws.proofs.Never.{cond_elim}
use Rattle.opus_defines.specs.declared.Refusal.TheVariants.{BadField}
use Rattle.std.specs.Prelude.{Ok, Err}
use Rattle.opus_head.specs.declared.OpusHead.{OpusHead}
use Rattle.opus_head.specs.Reading.{channels_fit, entries_fit, ruled, long_as, bytes_needed, fields_fit, one_stream, streams_fit}
use Rattle.opus_head.specs.Parts.{entry_fits, checked}

-- ---- channels
module _ (f n : ℕ) where
  pub channels_none : n < 1 → channels_fit f n ≡ false
  channels_none h = rw (lt-leb 1 n h)

  pub channels_plain : 1 ≤ n → f ≡ 0 → channels_fit f n ≡ leb n 2
  channels_plain h e = rw (le-leb 1 n h, eq-eqb f 0 e)

  pub channels_vorbis : 1 ≤ n → (f ≡ 0 → ⊥) → f ≡ 1 → channels_fit f n ≡ leb n 8
  channels_vorbis h o e = rw (le-leb 1 n h, ne_eqb f 0 o, eq-eqb f 1 e)

  pub channels_any : 1 ≤ n → (f ≡ 0 → ⊥) → (f ≡ 1 → ⊥) → channels_fit f n ≡ true
  channels_any h o v = rw (le-leb 1 n h, ne_eqb f 0 o, ne_eqb f 1 v)

-- ---- streams
module _ (n m : ℕ) where
  pub streams_none : n < 1 → streams_fit n m ≡ false
  streams_none h = rw (lt-leb 1 n h)

  pub streams_over : 1 ≤ n → n < m → streams_fit n m ≡ false
  streams_over h o = rw (le-leb 1 n h, lt-leb m n o)

  pub streams_sum : 1 ≤ n → m ≤ n → {a b : ℕ} → a ≡ n → b ≡ m → leb (a + b) 255 ≡ streams_fit n m
  streams_sum h o ea eb = rw (le-leb 1 n h, le-leb m n o, ea, eb)

-- ---- entries: what the test says from entry i on
never_both : (b : Bool) → b && false ≡ false
never_both true = refl
never_both false = refl

always_both : (b : Bool) → b && true ≡ b
always_both true = refl
always_both false = refl

abbrev pub fit_from : List ℕ → ℕ → ℕ → ℕ → Bool
fit_from s n sum i = entries_fit (n - i) sum (drop i s)

module _ (sum e : ℕ) where
  pub entry_silent : e ≡ 255 → entry_fits sum e ≡ true
  entry_silent h = rw (eq-eqb e 255 h)

  pub entry_placed : (e ≡ 255 → ⊥) → entry_fits sum e ≡ ltb e sum
  entry_placed o = rw (ne_eqb e 255 o)

module _ (s : List ℕ) (n sum i : ℕ) (h : i < length s) where
  -- the entry of a channel
  module _ (k : i < n) where
    from_entry : fit_from s n sum i ≡ entry_fits sum (get_or s i 0) && fit_from s n sum (i + 1)
    from_entry = let e : n - i ≡ suc (n - suc i) = omega arith in rw (drop-cons s i 0 h, e, add-one)

    pub entry_passed : {e : ℕ} → e ≡ get_or s i 0 → entry_fits sum e ≡ true → fit_from s n sum i ≡ fit_from s n sum (i + 1)
    entry_passed d t = from_entry ∙ ap (λ (b : Bool). b && fit_from s n sum (i + 1)) (rw d at t)

    pub entry_refused : {e : ℕ} → e ≡ get_or s i 0 → entry_fits sum e ≡ false → fit_from s n sum i ≡ false
    entry_refused d t = from_entry ∙ ap (λ (b : Bool). b && fit_from s n sum (i + 1)) (rw d at t)

  -- one behind the channels, and what is said of those before it
  module _ (k : n ≤ i) (fits : Bool) where
    from_unused : fit_from s n sum i ≡ eqb (get_or s i 0) 0 && fit_from s n sum (i + 1)
    from_unused =
        let e : n - i ≡ 0 = omega arith in
        let e' : n - suc i ≡ 0 = omega arith in
        rw (drop-cons s i 0 h, e, add-one, e')

    pub unused_passed : {fits' : Bool} → fits' ≡ fits → get_or s i 0 ≡ 0 → fits && fit_from s n sum i ≡ fits' && fit_from s n sum (i + 1)
    unused_passed e z = rw (e, from_unused, eq-eqb (get_or s i 0) 0 z)

    pub unused_refused : {fits' : Bool} → fits' ≡ false → (get_or s i 0 ≡ 0 → ⊥)
        → fits && fit_from s n sum i ≡ fits' && fit_from s n sum (i + 1)
    unused_refused e o = rw (e, from_unused, ne_eqb (get_or s i 0) 0 o) (never_both fits)

pub entries_start : (s : List ℕ) (n sum : ℕ) → entries_fit n sum s ≡ fit_from s n sum 0
entries_start s n sum = rw sub-zero

none_left : (n sum : ℕ) → entries_fit n sum [] ≡ true
none_left zero sum = refl
none_left (suc n) sum = refl

entries_end : (s : List ℕ) (n sum i : ℕ) → length s ≤ i → fit_from s n sum i ≡ true
entries_end s n sum i h = rw (drop_of_length-le s h) (none_left (n - i) sum)

pub fits_end : (s : List ℕ) (n sum i : ℕ) (fits : Bool) → length s ≤ i → fits && fit_from s n sum i ≡ fits
fits_end s n sum i fits h = rw (entries_end s n sum i h) (always_both fits)

-- ---- one stream
module _ (channels streams coupled : ℕ) (s : List ℕ) where
  pub one_streams : (streams ≡ 1 → ⊥) → one_stream channels streams coupled s ≡ false
  one_streams o = rw (ne_eqb streams 1 o)

  module _ (one : streams ≡ 1) where
    pub one_coupled : (coupled + 1 ≡ channels → ⊥) → one_stream channels streams coupled s ≡ false
    one_coupled o = rw (eq-eqb streams 1 one, ne_eqb (coupled + 1) channels o)

    module _ (two : coupled + 1 ≡ channels) where
      pub one_first : (get_or s 0 0 ≡ 0 → ⊥) → one_stream channels streams coupled s ≡ false
      one_first o = rw (eq-eqb streams 1 one, eq-eqb (coupled + 1) channels two, ne_eqb (get_or s 0 0) 0 o)

      pub one_second : get_or s 0 0 ≡ 0 → one_stream channels streams coupled s ≡ eqb (get_or s 1 0) coupled
      one_second e = rw (eq-eqb streams 1 one, eq-eqb (coupled + 1) channels two, eq-eqb (get_or s 0 0) 0 e)

-- ---- all of them
ruled_is : (h : OpusHead) → ruled h ≡ fields_fit h.channels h.family h.streams h.coupled h.mapping
unfolding fields_fit
ruled_is h = refl

module _ (channels family streams coupled : ℕ) (s : List ℕ) where
  abbrev fit : Bool
  fit = fields_fit channels family streams coupled s

  pub fit_channels : channels_fit family channels ≡ false → fit ≡ false
  unfolding fields_fit
  fit_channels e = rw e

  module _ (c : channels_fit family channels ≡ true) where
    pub fit_streams : streams_fit streams coupled ≡ false → fit ≡ false
    unfolding fields_fit
    fit_streams e = rw (c, e)

    module _ (t : streams_fit streams coupled ≡ true) where
      -- n, a and b are the code's channels, streams and coupled streams
      module _ {n a b : ℕ} (en : n ≡ channels) (ea : a ≡ streams) (eb : b ≡ coupled) where
        pub fit_entries : entries_fit n (a + b) s ≡ false → fit ≡ false
        unfolding fields_fit
        fit_entries e = rw (c, t, rw (en, ea, eb) at e)

        module _ (m : entries_fit n (a + b) s ≡ true) where
          pub fit_other : (family ≡ 0 → ⊥) → fit ≡ true
          unfolding fields_fit
          fit_other o = rw (c, t, rw (en, ea, eb) at m, ne_eqb family 0 o)

          pub fit_plain : family ≡ 0 → fit ≡ one_stream channels streams coupled s
          unfolding fields_fit
          fit_plain e = rw (c, t, rw (en, ea, eb) at m, eq-eqb family 0 e)

-- as the code tests it
pub ruled_as : (h : OpusHead) {r b : Bool} → r ≡ fields_fit h.channels h.family h.streams h.coupled h.mapping → r ≡ b → ruled h ≡ b
ruled_as h e t = ruled_is h ∙ (sym e ∙ t)

pub checked_accepted : (h : OpusHead) {r : Bool} → r ≡ fields_fit h.channels h.family h.streams h.coupled h.mapping → r ≡ true
    → Ok h ≡ checked h
checked_accepted h e t = sym (ap (λ b. cond b (Ok h) (Err BadField)) (ruled_as h e t))

pub checked_refused : (h : OpusHead) {r : Bool} → r ≡ fields_fit h.channels h.family h.streams h.coupled h.mapping → r ≡ false
    → Err BadField ≡ checked h
checked_refused h e t = sym (ap (λ b. cond b (Ok h) (Err BadField)) (ruled_as h e t))

-- ---- lengths
module _ (family channels : ℕ) where
  pub needed-plain : family ≡ 0 → bytes_needed family channels ≡ 19
  needed-plain e = rw (eq-eqb family 0 e)

  pub needed-table : (family ≡ 0 → ⊥) → bytes_needed family channels ≡ 21 + channels
  needed-table o = rw (ne_eqb family 0 o)

  pub needed_least : 19 ≤ bytes_needed family channels
  needed_least = cond_elim (λ m. 19 ≤ m) (eqb family 0) 19 (21 + channels) (λ _. omega arith) (λ _. omega arith)

module _ (version n need : ℕ) where
  pub long_one : version ≡ 1 → long_as version n need ≡ eqb n need
  long_one e = rw (eq-eqb version 1 e)

  pub long_other : (version ≡ 1 → ⊥) → long_as version n need ≡ leb need n
  long_other o = rw (ne_eqb version 1 o)
