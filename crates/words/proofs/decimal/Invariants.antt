use Rattle.words.proofs.Digits.{Digits}
use Rattle.words.proofs.decimal.Given as goal

abbrev pub invariant-loop-digit : goal.invariant-loop-digit
invariant-loop-digit l = Digits l.text l.value l.digit-index
