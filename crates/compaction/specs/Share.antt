-- A share of compaction (document 02, M-103): which records a call does with its budget, where it stops, what it answers and what it leaves.
use Rattle.std.specs.Prelude.{ℕ, ◌-◌, List, [], ◌∷◌, Bool, cond, ◌&&◌, ltb, leb, eqb, length, ℤ, pos, Result, Ok, Err}
use Rattle.std.proofs.lemmas.List.Edits.{sets}
use Rattle.opus_defines.specs.Numbers.{refusal_number}
use Rattle.opus_defines.specs.declared.Refusal.{Refusal}
use Rattle.opus_defines.specs.declared.Refusal.TheVariants.{BadArg, BufferTooSmall, OverBudget}
use Rattle.capture.specs.Reading.{readings}
use Rattle.capture.specs.declared.NextRecord.{NextRecord}
use Rattle.compaction.specs.Account.{size, output, Account, account}
use Rattle.compaction.specs.declared.Share.{Share}

-- an answer is a record, and it fits, rewritten, in what is left of the budget
abbrev pub fits : List ℕ → ℕ → NextRecord → Bool
fits s left a = ltb 0 a.length && leb (size s a) left

-- of a capture's answers in order: the records done, each of which takes its bytes of what is left,
unfoldable pub done : List ℕ → ℕ → List NextRecord → List NextRecord
done s left [] = []
done s left (a ∷ more) = cond (fits s left a) (a ∷ done s (left - size s a) more) []

-- and the first answer that is not done; behind the last answer stands the end
unfoldable pub stop : List ℕ → ℕ → List NextRecord → NextRecord
stop s left [] = record { verdict = Ok tt; line = 0; place = length s; length = 0; passed = 0 }
stop s left (a ∷ more) = cond (fits s left a) (stop s (left - size s a) more) a

-- what a call does: it refuses, or it does these records and stops at that answer
pub data Night : Type 0 where
  refuses : Refusal → Night
  does : List NextRecord → NextRecord → Night

-- a record at which the call stops before it has done any exceeds the budget alone
abbrev pub stopping : List NextRecord → NextRecord → Night
stopping [] a = cond (eqb a.length 0) (does [] a) (refuses OverBudget)
stopping (d ∷ ds) a = does (d ∷ ds) a

-- the capture s from a start on, into a destination of `room` bytes
unfoldable pub night : List ℕ → ℕ → ℕ → ℕ → Night
night s start room budget =
    cond (ltb (length s) start) (refuses BadArg)
    (cond (ltb room budget) (refuses BufferTooSmall) (stopping (done s budget (readings s start)) (stop s budget (readings s start))))

-- what it answers: the place at which it stops and the account, or the refusal
abbrev pub accounted : NextRecord → Account → Share
accounted a k =
    record {
      resume = a.place;
      records = k.records;
      written = k.written;
      reclaimed = k.reclaimed;
      passed = k.passed;
    }

abbrev pub share : List ℕ → Night → Result Share Refusal
share s (refuses e) = Err e
share s (does ds a) = Ok (accounted a (account s a ds))

-- what it leaves in the destination
abbrev pub leaves : List ℕ → List ℕ → Night → List ℕ
leaves s dst (refuses e) = dst
leaves s dst (does ds a) = sets dst 0 (output s ds)

-- the number of an answer: 0, or the refusal's
abbrev pub share_number : Result Share Refusal → ℤ
share_number (Ok a) = pos 0
share_number (Err e) = refusal_number e
