-- `packet_judge::refused` meets its contract: an unreadable packet has rule and place, and any other refusal is handed on.
use Rattle.packet_judge.proofs.refused.Goals as goal

pub returns : goal.returns
returns c =
    rw (c.in-Unreadable.is, c.wide.ensures.0)
