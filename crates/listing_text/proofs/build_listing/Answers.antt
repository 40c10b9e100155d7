-- What was read is listed, or the refusal's number, rule and place.
use native.Mathlib.Omega.{arith}
use mathlib.Core.Path.{sym, ◌∙◌}
use lib.Seq.{length-take-le}
use borrow.Author.Rules.{rules}
use Rattle.listing_text.proofs.Answers.{listing-read, refused_room, listing_refused}
use Rattle.listing_text.proofs.build_listing.Goals as goal

pub shared_ref_as_front-put_packet : goal.shared_ref_as_front-put_packet
shared_ref_as_front-put_packet g c =
    let r = listing-read c.args.«data».now c.in-Ok.p (record { byte = λ i. (c.type_inv.«data» i).fits }) (sym c.in-Ok.is ∙ c.opus_packet_parse.ensures) in
    omega (arith, r.some.1, length-take-le _ _ r.inside)

pub put_packet-requires : goal.put_packet-requires
put_packet-requires g c =
    let r = listing-read c.args.«data».now c.in-Ok.p (record { byte = λ i. (c.type_inv.«data» i).fits }) (sym c.in-Ok.is ∙ c.opus_packet_parse.ensures) in
    (search rules, (r.some, (r.places, omega (arith, r.room, c.requires))))

pub put_report-requires : goal.put_report-requires
put_report-requires g c =
    let r = c.refusal_report-r in
    (search rules, omega (arith, refused_room c.args.«data».now _ (sym c.in-Err.is ∙ c.opus_packet_parse.ensures) r.result r.ensures, c.requires))

pub returns-in-Ok : goal.returns-in-Ok
returns-in-Ok g c =
    let r = listing-read c.args.«data».now c.in-Ok.p (record { byte = λ i. (c.type_inv.«data» i).fits }) (sym c.in-Ok.is ∙ c.opus_packet_parse.ensures) in
    rw r.text c.put_packet.ensures

pub returns-in-Err : goal.returns-in-Err
returns-in-Err g c =
    let r = c.refusal_report-r in
    rw (listing_refused c.args.«data».now _ (sym c.in-Err.is ∙ c.opus_packet_parse.ensures) r.result r.ensures) c.put_report.ensures
