-- `packet_judge::weigh_read` meets its contract: the bytes behind the frames are looked at, then the least length.
use Prim.Native.Nat.{◌+◌}
use native.Mathlib.Omega.{arith}
use mathlib.Core.Path.{◌≡◌}
use Rattle.opus_format.specs.Frames.{total}
use Rattle.opus_header.proofs.Forms.{sums_few}
use Rattle.packet_judge.proofs.Telling.{frames_end, least_told, bytes_told}
use Rattle.packet_judge.proofs.weigh_read.Goals as goal
use Rattle.packet_judge.proofs.weigh_read.Goals.{After-sums_of-m}

-- where the frames end
ends : (c : After-sums_of-m) → c.args.first + c.sums_of-m.result.total ≡ c.args.first + total c.args.ns.now
ends c =
    frames_end c.args.self_delimited c.args.«data».now c.args.ns.now c.args.first c.args.taken c.requires.block c.sums_of-m.result c.sums_of-m.ensures

pub overflow_add-from : goal.overflow_add-from
overflow_add-from c =
    omega (arith, ends (goal.at.overflow_add-from c).After-sums_of-m, c.requires.block.0)

pub slice_bounds-dirt_in-count : goal.slice_bounds-dirt_in-count
slice_bounds-dirt_in-count c =
    omega (arith, ends (goal.at.slice_bounds-dirt_in-count c).After-sums_of-m, c.requires.block.0)

pub slice_bounds-dirt_in-start : goal.slice_bounds-dirt_in-start
slice_bounds-dirt_in-start c =
    omega (arith, ends (goal.at.slice_bounds-dirt_in-start c).After-sums_of-m, c.requires.block.0)

pub compact_bytes-least-requires : goal.compact_bytes-least-requires
compact_bytes-least-requires c =
    sums_few c.args.ns.now c.sums_of-m.result c.sums_of-m.ensures c.requires.some.1 c.requires.some.2

pub returns : goal.returns
returns c =
    record {
      verdict = bytes_told c.args.self_delimited c.args.«data».now c.args.ns.now c.args.first c.args.taken c.requires.block c.sums_of-m.result
          c.sums_of-m.ensures
          c.compact_bytes-least.result c.compact_bytes-least.ensures c.dirt_in-dirt.result c.dirt_in-dirt.ensures c.verdict.ensures;
      least = least_told c.args.self_delimited c.args.«data».now c.args.ns.now c.args.first c.args.taken c.requires.block c.sums_of-m.result c.sums_of-m.ensures
          c.compact_bytes-least.result c.compact_bytes-least.ensures;
    }
