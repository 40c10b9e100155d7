-- No more records are found than the part has.
use native.Mathlib.Omega.{arith}
use Rattle.same.proofs.Bounds.{seen_few}
use Rattle.same.proofs.find_part.Goals as goal

pub returns-clause-few : goal.returns-clause-few
returns-clause-few g c =
    let s = c.same_records-s in
    let e = s.ensures in
    let k = c.in-Ok.ensures in (
      omega (arith, c.keep_rest-left.ensures.held, k.within.0, k.length),
      seen_few c.args.«data».now _ s.result.all s.result.records s.result.bytes e.found e.all.0 e.all.1,
    )
