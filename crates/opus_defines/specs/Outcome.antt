-- What a call that writes into a lent buffer does, and what it leaves there: its report, and every byte of the buffer.
use Rattle.std.specs.Prelude.{ℕ, List, cond, ltb, pos, length}
use Rattle.std.proofs.lemmas.List.Edits.{sets}
use Rattle.opus_defines.specs.Numbers.{plain, refusal_report}
use Rattle.opus_defines.specs.declared.Refusal.{Refusal}
use Rattle.opus_defines.specs.declared.Refusal.TheVariants.{BufferTooSmall}
use Rattle.opus_defines.specs.declared.Report.{Report}

-- it refuses, or it answers a number and puts bytes at the front
pub data Effect : Type 0 where
  refusal : Refusal → Effect
  wrote : ℕ → List ℕ → Effect

-- the bytes vs, and their count is answered
abbrev pub written : List ℕ → Effect
written vs = wrote (length vs) vs

-- the same, refused for room exactly where they are more than there is room for
abbrev pub into_room : List ℕ → ℕ → Effect
into_room vs room = cond (ltb room (length vs)) (refusal BufferTooSmall) (written vs)

pub record Outcome : Type 0 where
  pub report : Report
  pub bytes : List ℕ

-- a refusal leaves every byte of the buffer s as it was; what is past the bytes that were written is as it was
abbrev pub leaves : List ℕ → Effect → Outcome
leaves s (refusal e) = record { report = refusal_report e; bytes = s }
leaves s (wrote n vs) = record { report = plain (pos n); bytes = sets s 0 vs }

abbrev pub refuses : Refusal → List ℕ → Outcome
refuses e s = leaves s (refusal e)

abbrev pub writes : List ℕ → List ℕ → Outcome
writes vs s = leaves s (written vs)
