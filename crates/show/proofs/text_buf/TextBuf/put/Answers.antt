use Rattle.show.proofs.Built.{text_more}
use Rattle.show.proofs.text_buf.TextBuf.put.Goals as goal

pub returns : goal.returns
returns g c =
    let s = c.self in
    text_more s.inside.bytes s.inside.len c.args.self.now c.args.s.now g.row.N s.told s.invariant s.view_is c.requires c.copy_into.ensures
