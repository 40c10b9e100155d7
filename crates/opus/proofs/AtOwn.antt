-- A self-delimited packet of code 0, 1 or 2, read without an array for its lengths.
--     own_one_lem-.., own-equal-..          codes 0 and 1: one law for each `return`
--     own-unequal-.., own-second-..     code 2: by the length of the first frame, and by that of the second
-- What a caller knows of the packet is in AtShort.
-- Assumes nothing.
use Prim.Native.Nat.{ℕ, ◌+◌, ◌*◌, ◌-◌, ◌≤◌, ◌<◌}
use native.Mathlib.Omega.{arith}
use native.Mathlib.Nat.{add-zero, zero-add}
use mathlib.Core.Path.{◌≡◌}
use mathlib.Core.List.{List, [], ◌∷◌}
use mathlib.Core.Bool.{true, false}
use lib.Dec.{ltb}
use lib.ListN.{length, get_or, drop, length-drop}
use borrow.Author.Tests.{lt-ltb, le-ltb}
use Rattle.opus_size.specs.Size.{read_field, no_field}
use Rattle.opus_size.proofs.At.{Found}
use Rattle.opus_toc.specs.Toc.{code}
use Rattle.opus_defines.specs.declared.Rule.TheVariants.{R4, R8}
use Rattle.opus_format.specs.Frames.{total}
use Rattle.opus_format.specs.Reading.{own_last, unequal, read}
use Rattle.opus.specs.Answers.{short_of}
use Rattle.opus.specs.declared.Short.TheVariants.{One, Two, Broken}
use Rattle.opus.proofs.AtShort.{rest, place, no_less, one_is, equal_is, unequal_is}

module _ (d : List ℕ) (h : 1 ≤ length d) where
  -- ---- code 0, whose frame has n bytes, and a length field that ends at `first`
  module _ (e : code (get_or d 0 0) ≡ 0) where
    pub own_one_cut : read_field (drop 1 d) ≡ no_field → Broken R8 1 ≡ short_of (read true d)
    own_one_cut r = rw (one_is d h e true, rest d h, no_less d h, r, place d h 1 h)

    module _ (n first one : ℕ) (f : Found d 1 n first) (q : one ≡ n) where
      pub own_one_over : length d - first < one → Broken R8 1 ≡ short_of (read true d)
      own_one_over m =
          let over : ltb (length d - first) n ≡ true = lt-ltb (length d - first) n (omega arith) in
          rw (one_is d h e true, rest d h, no_less d h, f.means, length-drop first d, zero-add, over, place d h 1 h)

      pub own_one_fits : one ≤ length d - first → One n first ≡ short_of (read true d)
      own_one_fits m =
          let fits : ltb (length d - first) n ≡ false = le-ltb (length d - first) n (omega arith) in
          rw (one_is d h e true, rest d h, no_less d h, f.means, length-drop first d, zero-add, fits, place d h first f.within)

  -- ---- code 1, whose frames have n bytes each
  module _ (e : code (get_or d 0 0) ≡ 1) where
    pub own_equal-cut : read_field (drop 1 d) ≡ no_field → Broken R8 1 ≡ short_of (read true d)
    own_equal-cut r = rw (equal_is d h e true, r, place d h 1 h)

    module _ (n first one : ℕ) (f : Found d 1 n first) (q : one ≡ n) where
      pub own_equal-over : length d - first < 2 * one → Broken R8 1 ≡ short_of (read true d)
      own_equal-over m = rw (equal_is d h e true, f.means, length-drop first d, lt-ltb (length d - first) (2 * n) (omega arith), place d h 1 h)

      pub own_equal-fits : 2 * one ≤ length d - first → Two n n first ≡ short_of (read true d)
      own_equal-fits m = rw (equal_is d h e true, f.means, length-drop first d, le-ltb (length d - first) (2 * n) (omega arith), place d h first f.within)

  -- ---- code 2, whose first frame has m bytes, and a length field that ends at `next`
  module _ (e : code (get_or d 0 0) ≡ 2) where
    pub own_unequal-cut : read_field (drop 1 d) ≡ no_field → Broken R4 1 ≡ short_of (read true d)
    own_unequal-cut r = rw (unequal_is d h e true, r, place d h 1 h)

    module _ (m next one : ℕ) (f : Found d 1 m next) (q : one ≡ m) where
      pub own_unequal-over : length d - next < one → Broken R4 1 ≡ short_of (read true d)
      own_unequal-over l = rw (unequal_is d h e true, f.means, length-drop next d, lt-ltb (length d - next) m (omega arith), place d h 1 h)

      module _ (k : one ≤ length d - next) where
        enough : ltb (length d - next) m ≡ false
        enough = le-ltb (length d - next) m (omega arith)

        -- the second frame says its length there
        second_is : unequal true R4 1 (drop 1 d) ≡ own_last (m ∷ []) (drop next d) (read_field (drop next d))
        second_is = rw (f.means, length-drop next d, enough, length-drop next d, add-zero, enough)

        pub own_second_cut : read_field (drop next d) ≡ no_field → Broken R8 next ≡ short_of (read true d)
        own_second_cut r = rw (unequal_is d h e true, second_is, r, place d h next f.within)

        -- and has n bytes, its length field ending at `first`
        module _ (n first again other : ℕ) (g : Found d next n first) (o : again ≡ m) (p : other ≡ n) where
          pub own_second_over : length d - first < again + other → Broken R8 next ≡ short_of (read true d)
          own_second_over l =
              let over : ltb (length d - first) (total (m ∷ []) + n) ≡ true = lt-ltb (length d - first) (total (m ∷ []) + n) (omega arith) in
              rw (unequal_is d h e true, second_is, g.means, length-drop first d, over, place d h next f.within)

          pub own_second_fits : again + other ≤ length d - first → Two m n first ≡ short_of (read true d)
          own_second_fits l =
              let fits : ltb (length d - first) (total (m ∷ []) + n) ≡ false = le-ltb (length d - first) (total (m ∷ []) + n) (omega arith) in
              rw (unequal_is d h e true, second_is, g.means, length-drop first d, fits, place d h first g.within)
