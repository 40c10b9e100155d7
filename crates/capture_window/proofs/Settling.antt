-- How much of what is held is settled, by what stands at its front, and the places up to which it is.
--     settled_here, settled-over, settled-short     a record, a byte with a window from its place on, a byte without
--     settled_skips                                 places at which none stands, with a window from each of them on
--     Reaches, reaches-..                           what is settled goes on at a place: the turns of the loop
-- Assumes nothing.
use mathlib.Core.Path.{◌≡◌, refl, sym, ap, ◌∙◌}
use mathlib.Core.List.{List}
use Prim.Native.Nat.{ℕ, zero, suc, ◌+◌, ◌-◌, max, ◌<◌, ◌≤◌}
use native.Mathlib.Nat.{zero-add}
use native.Mathlib.Numerals.{one-add}
use native.Mathlib.Omega.{arith}
use lib.Dec.{eqb, leb}
use lib.ListN.{length, drop, length-drop}
use lib.Seq.{drop-drop}
use borrow.Author.Tests.{eq-eqb, ne_eqb, eqb-true, eqb-false, le-leb, lt-leb, leb-true, leb-false}
use Rattle.laws.proofs.Never.{by_test}
use Rattle.capture.specs.declared.NextRecord.{NextRecord}
use Rattle.capture.specs.Finding.{packet_length, next_record}
use Rattle.capture.proofs.Laws.{length-fits}
use Rattle.capture.proofs.Answers.{next_from, next_place_le, next-nothing, next_stands, next_end}
use Rattle.capture_window.specs.Window.{window, settled_in, settled}

-- ---- one step of a bounded count
module _ (s : List ℕ) where
  in_here : (most : ℕ) → (packet_length s ≡ 0 → ⊥)
      → settled_in (suc most) s ≡ 5 + packet_length s + settled_in most (drop (5 + packet_length s) s)
  unfolding settled_in
  in_here most f = rw (ne_eqb (packet_length s) 0 f)

  in_over : (most : ℕ) → packet_length s ≡ 0 → window ≤ length s → settled_in (suc most) s ≡ suc (settled_in most (drop 1 s))
  unfolding settled_in
  in_over most z w = rw (eq-eqb (packet_length s) 0 z, le-leb window (length s) w)

  in_short : (most : ℕ) → packet_length s ≡ 0 → length s < window → settled_in most s ≡ 0
  unfolding settled_in
  in_short zero z w = refl
  in_short (suc most) z w = rw (eq-eqb (packet_length s) 0 z, lt-leb window (length s) w)

-- a fact of s by what stands at its front
by_front : {P : Type 0} (s : List ℕ) → ((packet_length s ≡ 0 → ⊥) → P) → (packet_length s ≡ 0 → window ≤ length s → P)
    → (packet_length s ≡ 0 → length s < window → P) → P
by_front s here over short =
    by_test (eqb (packet_length s) 0)
    (λ t. let z = eqb-true (packet_length s) 0 t in
    by_test (leb window (length s)) (λ u. over z (leb-true window (length s) u)) (λ u. short z (leb-false window (length s) u)))
    (λ t. here (eqb-false (packet_length s) 0 t))

-- a bound that is no less than the bytes held is no bound
none-held : (s : List ℕ) → length s ≤ 0 → packet_length s ≡ 0
none-held s h =
    by_front s (λ f. absurd (omega (arith, length-fits s f))) (λ z w. z) (λ z w. z)

both_short : (f g : ℕ) (s : List ℕ) → packet_length s ≡ 0 → length s < window → settled_in f s ≡ settled_in g s
both_short f g s z w = in_short s f z w ∙ sym (in_short s g z w)

same-settled : (f g : ℕ) (s : List ℕ) → length s ≤ f → length s ≤ g → settled_in f s ≡ settled_in g s
same-settled zero g s h k = both_short zero g s (none-held s h) (omega arith)
same-settled (suc f) zero s h k = both_short (suc f) zero s (none-held s k) (omega arith)
same-settled (suc f) (suc g) s h k =
    by_front s
    (λ e. let n = 5 + packet_length s in
    in_here s f e
    ∙ (ap (λ (m : ℕ). n + m) (same-settled f g (drop n s) (omega (arith, length-drop n s)) (omega (arith, length-drop n s))) ∙ sym (in_here s g e)))
    (λ z w. in_over s f z w
    ∙ (ap suc (same-settled f g (drop 1 s) (omega (arith, length-drop 1 s)) (omega (arith, length-drop 1 s))) ∙ sym (in_over s g z w)))
    (both_short (suc f) (suc g) s)

-- ---- one step
module _ (s : List ℕ) where
  one_more : settled s ≡ settled_in (suc (length s)) s
  unfolding settled
  one_more = same-settled (length s) (suc (length s)) s (omega arith) (omega arith)

  behind-front : (n : ℕ) → settled_in (length s) (drop n s) ≡ settled (drop n s)
  unfolding settled
  behind-front n = same-settled (length s) (length (drop n s)) (drop n s) (omega (arith, length-drop n s)) (omega arith)

  pub settled_here : (packet_length s ≡ 0 → ⊥) → settled s ≡ 5 + packet_length s + settled (drop (5 + packet_length s) s)
  settled_here f = one_more ∙ (in_here s (length s) f ∙ rw (behind-front (5 + packet_length s)))

  pub settled-over : packet_length s ≡ 0 → window ≤ length s → settled s ≡ suc (settled (drop 1 s))
  settled-over z w = one_more ∙ (in_over s (length s) z w ∙ rw (behind-front 1))

  pub settled-short : packet_length s ≡ 0 → length s < window → settled s ≡ 0
  unfolding settled
  settled-short z w = in_short s (length s) z w

-- ---- places at which none stands
skips_one : (k : ℕ) (s : List ℕ) → settled (drop 1 s) ≡ k + settled (drop k (drop 1 s)) → settled s ≡ suc (settled (drop 1 s))
    → settled s ≡ suc k + settled (drop (suc k) s)
skips_one k s rest first =
    let there : drop k (drop 1 s) ≡ drop (suc k) s = drop-drop k 1 s ∙ rw (one-add k) in
    omega (arith, ap settled there)

settled_skips : (k : ℕ) (s : List ℕ) → ((j : ℕ) → j < k → packet_length (drop j s) ≡ 0) → k + (window - 1) ≤ length s
    → settled s ≡ k + settled (drop k s)
settled_skips zero s clear w = rw zero-add
settled_skips (suc k) s clear w =
    skips_one k s
    (settled_skips k (drop 1 s) (λ j h. rw (drop-drop j 1 s, one-add j) (clear (suc j) (omega arith))) (omega (arith, length-drop 1 s)))
    (settled-over s (clear 0 (omega arith)) (omega arith))

-- ---- what is settled goes on at a place
abbrev place : NextRecord → ℕ
place a = a.place

pub record Reaches (s : List ℕ) (at : ℕ) : Type 0 where
  pub inside : at ≤ length s
  pub same : settled s ≡ at + settled (drop at s)

pub reaches_start : (s : List ℕ) → Reaches s 0
reaches_start s = record { inside = omega arith; same = rw zero-add }

module _ (s : List ℕ) (at : ℕ) (reached : Reaches s at) where
  -- further, over places that are settled
  further : (k : ℕ) → at + k ≤ length s → settled (drop at s) ≡ k + settled (drop k (drop at s)) → Reaches s (at + k)
  further k h e = record { inside = h; same = omega (arith, ap settled (drop-drop k at s), reached.same) }

  -- a record at the place, whose packet has n bytes
  module _ (n : ℕ) (is : n ≡ packet_length (drop at s)) (f : n ≡ 0 → ⊥) where
    some : packet_length (drop at s) ≡ 0 → ⊥
    some z = f (is ∙ z)

    pub record_within : at + (5 + n) ≤ length s
    record_within = omega (arith, length-fits (drop at s) some, length-drop at s, reached.inside)

    pub reaches_behind : Reaches s (at + (5 + n))
    reaches_behind = further (5 + n) record_within (rw is (settled_here (drop at s) some))

  -- none at the place
  clear_from : (k : ℕ) → at + k ≤ (next_record s at).place → (j : ℕ) → j < k → packet_length (drop j (drop at s)) ≡ 0
  clear_from k h j below = rw (drop-drop j at s) (next-nothing s at reached.inside (at + j) (omega arith) (omega arith))

  skips_to : (k : ℕ) → at + k ≤ (next_record s at).place → at + k + (window - 1) ≤ length s → Reaches s (at + k)
  skips_to k h w =
      further k (omega arith) (settled_skips k (drop at s) (clear_from k h) (omega (arith, length-drop at s)))

  -- the answer there is `a`
  module _ (a : NextRecord) (is : a ≡ next_record s at) where
    pub place_le : a.place ≤ length s
    place_le = rw is (next_place_le s at reached.inside)

    -- a window is held from each place before its record on
    pub reaches_next : window - 1 ≤ length s - a.place → Reaches s a.place
    reaches_next w =
        let e : at + (a.place - at) ≡ a.place = omega (arith, ap place is, next_from s at reached.inside) in
        rw e at (skips_to (a.place - at) (omega (arith, ap place is)) (omega arith))

    -- and no record stands at the place itself, where n bytes of a packet were found
    module _ (n : ℕ) (of : n ≡ packet_length (drop at s)) (z : n ≡ 0) where
      -- the reader moves on
      pub next_on : window - 1 ≤ length s - a.place → at < a.place
      next_on w =
          by_test (leb a.place at)
          (λ t. let here : (next_record s at).place ≡ at = omega (arith, leb-true a.place at t, ap place is, next_from s at reached.inside) in
          let none : (next_record s at).length ≡ 0 = next_stands s at reached.inside ∙ rw (here, ← of) z in
          absurd (omega (arith, ap place is, next_end s at reached.inside none)))
          (λ t. leb-false a.place at t)

      -- the first place at which a window is not held
      pub reaches_end : length s - a.place < window - 1 → max at (length s - (window - 1)) ≡ settled s
      reaches_end w =
          by_test (leb window (length s - at))
          (λ t. let many = leb-true window (length s - at) t in
          let q = length s - (window - 1) in
          let e : at + (q - at) ≡ q = omega arith in
          let below : q < (next_record s at).place = omega (arith, ap place is, place_le) in
          let there : Reaches s q = rw e at (skips_to (q - at) (omega arith) (omega arith)) in
          let none : packet_length (drop q s) ≡ 0 = next-nothing s at reached.inside q (omega arith) below in
          omega (arith, there.same, settled-short (drop q s) none (omega (arith, length-drop q s))))
          (λ t. let few = leb-false window (length s - at) t in
          omega (arith, reached.same, settled-short (drop at s) (sym of ∙ z) (omega (arith, length-drop at s))))

-- what the goals of `settled` need
pub ruleset settling = (reaches_start, record_within, reaches_behind, place_le, reaches_next, next_on, reaches_end)
