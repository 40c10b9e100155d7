-- A frame more.
use Rattle.std.proofs.Common.{ℕ, ◌<◌, ◌∙◌, ap, sym, length, arith, rules, append-nil, append_assoc, length-append}
use Rattle.listing_text.specs.Listing.{frame_lines}
use Rattle.listing_text.proofs.Frames.{lines_next, lines_within, place_next, place_within}
use Rattle.listing_text.proofs.put_frames.Goals as goal

pub loop-i-init : goal.loop-i-init
unfolding frame_lines
loop-i-init g c = (sym (append-nil c.args.text.now), omega arith)

pub put_frame-requires : goal.put_frame-requires
put_frame-requires g c =
    let e = lines_within c.args.first c.args.ns.now c.loop-i.i (omega arith) in
    let is = c.loop-i.invariant in
    (search rules, rw (is.1, c.from-n.ensures) (omega (arith, ap length is.0, length-append {A = ℕ}, e, c.requires.room)))

pub overflow_add-place : goal.overflow_add-place
overflow_add-place g c =
    let e = place_within c.args.first c.args.ns.now c.loop-i.i (omega arith) in
    omega (arith, c.loop-i.invariant.1, c.from-n.ensures, e, c.requires.places)

pub loop-i-preserved : goal.loop-i-preserved
loop-i-preserved g c =
    let h : c.loop-i.i < length c.args.ns.now = omega arith in
    let is = c.loop-i.invariant in (
      c.put_frame.ensures ∙ rw (is.0, is.1, c.from-n.ensures, lines_next c.args.first c.args.ns.now c.loop-i.i h, append_assoc),
      rw (is.1, c.from-n.ensures) (sym (place_next c.args.first c.args.ns.now c.loop-i.i h)),
    )
