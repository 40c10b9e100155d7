-- What is said of a packet beside its lengths, which are in a lent array: contracts of functions that are not public cite these.
use Rattle.std.specs.Prelude.{ℕ, ◌+◌, Result, Ok, Err}
use Rattle.opus_defines.specs.Rules.{rule_refusal}
use Rattle.opus_defines.specs.declared.Refusal.{Refusal}
use Rattle.opus_format.specs.Reading.{pointed}
use Rattle.opus_defines.specs.declared.Rule.{Rule}
use Rattle.opus.specs.declared.PacketHead.{PacketHead}

-- the packet of so many frames that were read at a place, with this TOC byte and padding
abbrev pub head_at : ℕ → ℕ → ℕ → ℕ → Result (ℕ × ℕ) (Rule × ℕ) → Result PacketHead Refusal
head_at toc count at pad (Err (rule, place)) = Err (rule_refusal rule (pointed rule (at + place)))
head_at toc count at pad (Ok (first, sum)) =
    Ok (record { toc = toc; count = count; first = at + first; taken = at + first + sum + pad })
