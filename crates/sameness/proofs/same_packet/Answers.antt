-- `sameness::same_packet` meets its contract: the same bytes say the same, and others are read.
use Rattle.laws.proofs.Never.{never}
use Rattle.sameness.proofs.Alike.{same_bytes}
use Rattle.sameness.proofs.Equal.{tells_yes}
use Rattle.sameness.proofs.same_packet.Goals as goal

pub returns-then-equal_bytes : goal.returns-then-equal_bytes
returns-then-equal_bytes c =
    tells_yes (same_bytes c.args.p.now c.args.q.now (c.equal_bytes.ensures.so c.if-equal_bytes.true))

pub same_frames-requires : goal.same_frames-requires
same_frames-requires c =
    record {
      short = c.requires;
      unlike = λ e. never (let o = c.equal_bytes.ensures.only e in cc);
    }
