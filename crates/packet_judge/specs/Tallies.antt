-- How many verdicts of each kind there are.
use Rattle.std.specs.Prelude.{ℕ, ◌+◌, List, [], ◌∷◌, Bool, true, false, cond}
use Rattle.packet_judge.specs.declared.Judged.{Judged}
use Rattle.packet_judge.specs.declared.Judged.TheVariants.{Refused, Unreadable, Dirty, Longer, Clean}
use Rattle.packet_judge.specs.declared.Tally.{Tally}

-- ---- the four kinds
abbrev pub is_unreadable : Judged → Bool
is_unreadable (Refused e) = false
is_unreadable (Unreadable rule place) = true
is_unreadable Dirty = false
is_unreadable (Longer n) = false
is_unreadable Clean = false

abbrev pub is_dirty : Judged → Bool
is_dirty (Refused e) = false
is_dirty (Unreadable rule place) = false
is_dirty Dirty = true
is_dirty (Longer n) = false
is_dirty Clean = false

abbrev pub is_longer : Judged → Bool
is_longer (Refused e) = false
is_longer (Unreadable rule place) = false
is_longer Dirty = false
is_longer (Longer n) = true
is_longer Clean = false

abbrev pub is_clean : Judged → Bool
is_clean (Refused e) = false
is_clean (Unreadable rule place) = false
is_clean Dirty = false
is_clean (Longer n) = false
is_clean Clean = true

-- how many verdicts are of a kind
abbrev pub how_many : (Judged → Bool) → List Judged → ℕ
how_many kind [] = 0
how_many kind (j ∷ more) = cond (kind j) 1 0 + how_many kind more

abbrev pub tally_of : List Judged → Tally
tally_of js = record { unreadable = how_many is_unreadable js; dirty = how_many is_dirty js; longer = how_many is_longer js; clean = how_many is_clean js }

-- ---- counted one by one
-- no verdict yet
abbrev pub none : Tally
none = record { unreadable = 0; dirty = 0; longer = 0; clean = 0 }

-- one verdict more
abbrev pub tallied : Judged → Tally → Tally
tallied (Refused e) t = t
tallied (Unreadable rule place) t = record { unreadable = t.unreadable + 1; dirty = t.dirty; longer = t.longer; clean = t.clean }
tallied Dirty t = record { unreadable = t.unreadable; dirty = t.dirty + 1; longer = t.longer; clean = t.clean }
tallied (Longer n) t = record { unreadable = t.unreadable; dirty = t.dirty; longer = t.longer + 1; clean = t.clean }
tallied Clean t = record { unreadable = t.unreadable; dirty = t.dirty; longer = t.longer; clean = t.clean + 1 }

-- two counts together
abbrev pub plus : Tally → Tally → Tally
plus t u =
    record { unreadable = t.unreadable + u.unreadable; dirty = t.dirty + u.dirty; longer = t.longer + u.longer; clean = t.clean + u.clean }

-- all verdicts together
abbrev pub sum_of : Tally → ℕ
sum_of t = t.unreadable + (t.dirty + (t.longer + t.clean))
