-- `aveluafi::word::refusal_word` meets its contract: a refusal's number is -21 or more and below 0, so that its bits, the rule and the place stand apart.
use mathlib.Core.Path.{◌≡◌, ap, ◌∙◌}
use Prim.Native.Nat.{ℕ, ◌<◌}
use native.Mathlib.Omega.{arith}
use lib.IntN.{negsuc}
use Rattle.opus_defines.specs.declared.Report.{Report}
use Rattle.opus_defines.specs.declared.Refusal.{Refusal}
use Rattle.opus_defines.specs.Numbers.{refusal_report}
use Rattle.opus_defines.proofs.Others.{refusal_few}
use Rattle.aveluafi.proofs.Words.{turned, turned_back, number_held, rule_held, place_held}
use Rattle.aveluafi.proofs.word.refusal_word.Goals as goal

-- how far a report's number is below -1
below : (e : Refusal) (r : Report) → r ≡ refusal_report e → (k : ℕ) × (k < 24) × (r.number ≡ negsuc k)
below e r q = let b = refusal_few e in (b.0, b.1, ap (λ (s : Report). s.number) q ∙ b.2)

pub overflow_sub-below : goal.overflow_sub-below
overflow_sub-below c =
    let b = below c.args.e c.refusal_report-r.result c.refusal_report-r.ensures in
    rw (turned c.refusal_report-r.result.number b.0 b.1 b.2) (record { sfits = omega (arith, b.1) })

pub overflow_cast-below : goal.overflow_cast-below
overflow_cast-below c =
    let b = below c.args.e c.refusal_report-r.result c.refusal_report-r.ensures in
    rw (turned_back c.refusal_report-r.result.number b.0 b.1 b.2) (tt, record { fits = omega (arith, b.1) })

pub overflow_sub-result : goal.overflow_sub-result
overflow_sub-result c =
    let b = below c.args.e c.refusal_report-r.result c.refusal_report-r.ensures in
    rw (turned_back c.refusal_report-r.result.number b.0 b.1 b.2) (omega (arith, b.1))

pub overflow_add-result-2 : goal.overflow_add-result-2
overflow_add-result-2 c =
    let b = below c.args.e c.refusal_report-r.result c.refusal_report-r.ensures in
    rw (turned_back c.refusal_report-r.result.number b.0 b.1 b.2)
    (record { fits = omega (arith, b.1, c.struct_known-3-1.given, c.struct_known-2-1.given) })

pub returns : goal.returns
returns c =
    let b = below c.args.e c.refusal_report-r.result c.refusal_report-r.ensures in
    let lr : c.refusal_report-r.result.rule < 65536 = omega (arith, c.struct_known-2-1.given) in
    let lp : c.refusal_report-r.result.place < 65536 = omega (arith, c.struct_known-3-1.given) in
    rw (
      turned_back c.refusal_report-r.result.number b.0 b.1 b.2,
      number_held b.0 c.refusal_report-r.result.rule c.refusal_report-r.result.place b.1 lr lp,
      rule_held b.0 c.refusal_report-r.result.rule c.refusal_report-r.result.place b.1 lr lp,
      place_held b.0 c.refusal_report-r.result.rule c.refusal_report-r.result.place b.1 lr lp,
      ← b.2,
    )
    c.refusal_report-r.ensures
