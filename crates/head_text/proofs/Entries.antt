-- The entries of a mapping one behind another.
--     entries-append                            those of two lists
--     entries_next, entries-within              one entry more, and that it is within all of them
-- Assumes nothing.
use Prim.Native.Nat.{ℕ, suc, ◌+◌, ◌≤◌, ◌<◌}
use native.Mathlib.Numerals.{add-one}
use native.Mathlib.Omega.{arith}
use mathlib.Core.Path.{◌≡◌, refl, ap, ◌∙◌}
use mathlib.Core.List.{List, [], ◌∷◌, ◌++◌, append_assoc, append-nil}
use lib.ListN.{length, get_or, take, drop, length-append}
use lib.Seq.{split_at, take-suc}
use Rattle.show.specs.Text.{decimal}
use Rattle.head_text.specs.Text.{entry_texts}

entries-append : (es fs : List ℕ) → entry_texts (es ++ fs) ≡ entry_texts es ++ entry_texts fs
unfolding entry_texts
entries-append [] fs = refl
entries-append (e ∷ es) fs = rw (entries-append es fs, append_assoc)

module _ (es : List ℕ) (i : ℕ) (h : i < length es) where
  pub entries_next : entry_texts (take (i + 1) es) ≡ entry_texts (take i es) ++ (32 ∷ decimal (get_or es i 0))
  unfolding entry_texts
  entries_next = rw (add-one, take-suc es i 0 h, entries-append (take i es) (get_or es i 0 ∷ []), append-nil)

  pub entries-within : length (entry_texts (take i es)) + length (32 ∷ decimal (get_or es i 0)) ≤ length (entry_texts es)
  unfolding entry_texts
  entries-within =
      let e = get_or es i 0 in
      let rest = drop (suc i) es in
      let whole : entry_texts es ≡ entry_texts (take i es) ++ entry_texts (e ∷ rest) =
      ap entry_texts (split_at es i 0 h) ∙ entries-append (take i es) (e ∷ rest) in
      omega (arith, simp length-append at (ap length whole))
