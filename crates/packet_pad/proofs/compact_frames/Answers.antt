-- `packet_pad::compact_frames` meets its contract: the compact packet is rewritten in place.
use native.Mathlib.Omega.{arith}
use lib.ListN.{length}
use Rattle.opus_toc.specs.Toc.{upper_six}
use Rattle.opus_header.proofs.Forms.{compact-missing}
use Rattle.opus_header.proofs.Standing.{compact_laid}
use Rattle.packet_pad.proofs.compact_frames.Goals as goal

pub rewrite-requires : goal.rewrite-requires
rewrite-requires c =
    let is =
    compact_laid c.args.self_delimited (upper_six c.args.toc) c.args.ns.now c.args.«data».now c.args.first c.requires.block
    c.compact_form-form.result c.compact_form-form.ensures c.requires.short in record {
      measured = c.sums_of-m.ensures;
      some = c.requires.some;
      few = rw c.compact_form-form.ensures (omega (arith, compact-missing (length c.args.ns.now)));
      block = c.requires.block;
      room = is.1;
    }

pub returns : goal.returns
returns c =
    let is =
    compact_laid c.args.self_delimited (upper_six c.args.toc) c.args.ns.now c.args.«data».now c.args.first c.requires.block
    c.compact_form-form.result c.compact_form-form.ensures c.requires.short in record {
      bytes = rw is.0 at c.rewrite.ensures.bytes;
      next = rw is.0 at c.rewrite.ensures.next;
    }
