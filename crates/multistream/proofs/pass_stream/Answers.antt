-- `multistream::pass_stream` meets its contract: the stream is read.
use Rattle.opus.proofs.Lent.{lent_accepted, lent_refused}
use Rattle.multistream.proofs.Passing.{pass_found, pass_refused}
use Rattle.multistream.proofs.pass_stream.Goals as goal

pub returns-in-Ok : goal.returns-in-Ok
returns-in-Ok c =
    pass_found _ _ _ (lent_accepted _ _ _ _ c.read_into.ensures _ c.in-Ok.is)

pub returns-in-Err : goal.returns-in-Err
returns-in-Err c =
    pass_refused _ _ _ (lent_refused _ _ _ _ c.read_into.ensures _ c.in-Err.is) c.requires
