-- What a call answers that was given a packet which breaks a rule of RFC 6716, section 3.4: the one place where a rule becomes a refusal.
use Rattle.std.specs.Prelude.{ℕ, ◌+◌}
use Rattle.opus_defines.specs.declared.Refusal.{Refusal}
use Rattle.opus_defines.specs.declared.Refusal.TheVariants.{BadArg, BufferTooSmall, InvalidPacket, InvalidState}
use Rattle.opus_defines.specs.declared.Refusal.TheVariants.{Unreadable, CutShort, DirtyPadding, OverBudget}
use Rattle.opus_defines.specs.declared.Refusal.TheVariants.{BadHeader, UnknownVersion, BadField}
use Rattle.opus_defines.specs.declared.Rule.{Rule}

-- the place is that of the first byte of the field concerned, from the front of the packet
unfoldable pub rule_refusal : Rule → ℕ → Refusal
rule_refusal rule place = Unreadable rule place

-- of a refusal of a packet that cannot be read what f says of its rule and place, and else a
abbrev pub unreadable_or : {A : Type 0} → (Rule → ℕ → A) → A → Refusal → A
unreadable_or f a (Unreadable rule place) = f rule place
unreadable_or f a BadArg = a
unreadable_or f a BufferTooSmall = a
unreadable_or f a InvalidPacket = a
unreadable_or f a InvalidState = a
unreadable_or f a (CutShort rule) = a
unreadable_or f a DirtyPadding = a
unreadable_or f a OverBudget = a
unreadable_or f a BadHeader = a
unreadable_or f a UnknownVersion = a
unreadable_or f a BadField = a

-- the same refusal, its place counted from n bytes before the packet
abbrev pub shifted : ℕ → Refusal → Refusal
shifted n e = unreadable_or (λ rule place. rule_refusal rule (n + place)) e e
