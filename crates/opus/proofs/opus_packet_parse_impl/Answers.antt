-- `opus::opus_packet_parse_impl` meets its contract: what was read, with the array that was lent.
use mathlib.Core.Path.{refl}
use Rattle.std.proofs.lemmas.Result.{err_from_is_err_and}
use Rattle.opus.proofs.Lent.{lent_accepted, lent_refused}
use Rattle.opus.proofs.opus_packet_parse_impl.Goals as goal

pub returns : goal.returns
returns c =
    lent_accepted c.args.self_delimited c.args.«data».now _ _ c.read_into.ensures _ c.in_ok-h.was

pub returns-in_err-h : goal.returns-in_err-h
returns-in_err-h c =
    let p = err_from_is_err_and c.from_residual.result c.from_residual.ensures.1 in
    rw (p.1, p.2) (lent_refused c.args.self_delimited c.args.«data».now _ _ c.read_into.ensures _ c.in_err-h.was)

pub read_into-requires : goal.read_into-requires
read_into-requires c =
    refl
