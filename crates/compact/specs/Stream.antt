-- A file compacted part by part (beyond document 02, M-103): what is written for it with a budget, and what is said of it.
use Rattle.std.specs.Prelude.{ℕ, ◌+◌, ◌-◌, List, [], ◌∷◌, ◌++◌, cond, ltb, length}
use Rattle.capture.specs.Reading.{readings}
use Rattle.compaction.specs.Account.{output, account}
use Rattle.compaction.specs.Share.{done, stop, accounted}
use Rattle.compaction.specs.declared.Share.{Share}

-- the share of a capture from its front with a budget, as M-103 has it, where no record done is no refusal
unfoldable pub share_of : List ℕ → ℕ → Share
share_of s budget = accounted (stop s budget (readings s 0)) (account s (stop s budget (readings s 0)) (done s budget (readings s 0)))

-- what it writes
unfoldable pub written_of : List ℕ → ℕ → List ℕ
written_of s budget = output s (done s budget (readings s 0))

-- no share yet, and a share resumed where another stopped
abbrev pub none : Share
none = record { resume = 0; records = 0; written = 0; reclaimed = 0; passed = 0 }

abbrev pub joined : Share → Share → Share
joined a b =
    record {
      resume = a.resume + b.resume;
      records = a.records + b.records;
      written = a.written + b.written;
      reclaimed = a.reclaimed + b.reclaimed;
      passed = a.passed + b.passed;
    }

-- parts one behind another, each with what is left of the budget: the first share that stops before the end of its part is the last
unfoldable pub shared_by : ℕ → List (List ℕ) → Share
shared_by left [] = none
shared_by left (p ∷ ps) =
    let a = share_of p left in
    cond (ltb a.resume (length p)) (joined a none) (joined a (shared_by (left - a.written) ps))

unfoldable pub written_for : ℕ → List (List ℕ) → List ℕ
written_for left [] = []
written_for left (p ∷ ps) =
    let a = share_of p left in
    written_of p left ++ cond (ltb a.resume (length p)) [] (written_for (left - a.written) ps)
