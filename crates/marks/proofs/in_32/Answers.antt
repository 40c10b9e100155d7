-- `marks::in_32` meets its contract: the words are looked at in order.
use Rattle.std.proofs.Common.{ℕ, ◌+◌, ◌≤◌, ◌≡◌, List, length, take, drop, refl, sym, ◌∙◌, arith}
use Rattle.marks.specs.Flags.{flags_of}
use Rattle.marks.proofs.Finding.{word_long, word_none, Passed, passed_more, told_first, told_some, told-last}
use Rattle.marks.proofs.in_32.Goals as goal

-- none in the first word, in two, in three
module _ (s : List ℕ) (at : ℕ) (h : at + 32 ≤ length s) {a : ℕ} (a_is : a ≡ flags_of (take 8 (drop at s))) (no_a : a ≡ 0) where
  passed_one : Passed s at 8
  passed_one = word_none s at (omega (arith, h)) (sym a_is ∙ no_a)

  module _ {b : ℕ} (b_is : b ≡ flags_of (take 8 (drop (at + 8) s))) (no_b : b ≡ 0) where
    passed_two : Passed s at 16
    passed_two = passed_more s at h 8 (omega arith) passed_one (sym b_is ∙ no_b) 16 refl

    passed_three : {c : ℕ} → c ≡ flags_of (take 8 (drop (at + 16) s)) → c ≡ 0 → Passed s at 24
    passed_three c_is no_c = passed_more s at h 16 (omega arith) passed_two (sym c_is ∙ no_c) 24 refl

pub returns-then-a-ne0 : goal.returns-then-a-ne0
returns-then-a-ne0 c =
    let s = c.args.«data».now in
    let whole = told_first s c.args.at c.requires (λ z. c.if-a-ne0.true (c.marks_at-a.ensures ∙ z))
    (c.first_in.ensures.first _ (word_long s c.args.at (omega (arith, c.requires))) c.marks_at-a.ensures) in
    record { most = whole.0; found = whole.1.0; none = whole.1.1 }

pub returns-then-b-ne0 : goal.returns-then-b-ne0
returns-then-b-ne0 c =
    let s = c.args.«data».now in
    let whole = told_some s c.args.at c.requires 8 (omega arith) (passed_one s c.args.at c.requires c.marks_at-a.ensures c.if-a-ne0.false)
    (λ z. c.if-b-ne0.true (c.marks_at-b.ensures ∙ z))
    (c.first_in-then-b-ne0.ensures.first _ (word_long s (c.args.at + 8) (omega (arith, c.requires))) c.marks_at-b.ensures) in
    record { most = whole.0; found = whole.1.0; none = whole.1.1 }

pub returns-then-c-ne0 : goal.returns-then-c-ne0
returns-then-c-ne0 c =
    let s = c.args.«data».now in
    let whole = told_some s c.args.at c.requires 16 (omega arith)
    (passed_two s c.args.at c.requires c.marks_at-a.ensures c.if-a-ne0.false c.marks_at-b.ensures c.if-b-ne0.false)
    (λ z. c.if-c-ne0.true (c.marks_at-c.ensures ∙ z))
    (c.first_in-then-c-ne0.ensures.first _ (word_long s (c.args.at + 16) (omega (arith, c.requires))) c.marks_at-c.ensures) in
    record { most = whole.0; found = whole.1.0; none = whole.1.1 }

pub returns : goal.returns
returns c =
    let s = c.args.«data».now in
    let whole = told-last s c.args.at c.requires
    (passed_three s c.args.at c.requires c.marks_at-a.ensures c.if-a-ne0.false c.marks_at-b.ensures c.if-b-ne0.false c.marks_at-c.ensures c.if-c-ne0.false)
    (c.first_in-2.ensures.first _ (word_long s (c.args.at + 24) (omega (arith, c.requires))) c.marks_at-d.ensures) in
    record { most = whole.0; found = whole.1.0; none = whole.1.1 }
