-- `padding::dirt_in` meets its contract: the words tell, or the largest byte.
use Rattle.padding.proofs.Looked.{dirt_most}
use Rattle.padding.proofs.dirt_in.Goals as goal

pub returns-then-n-lt8 : goal.returns-then-n-lt8
returns-then-n-lt8 c =
    dirt_most c.args.s.now c.largest.result c.largest.ensures

pub returns : goal.returns
returns c =
    dirt_most c.args.s.now c.largest-2.result c.largest-2.ensures
