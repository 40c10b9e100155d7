-- A minus sign for a negative number, and the digits.
use Rattle.std.proofs.Common.{◌≡◌, ◌++◌, ◌∷◌, [], ◌∙◌, append_assoc, refl, arith, length-append, rules}
use Rattle.show.specs.Text.{integer, decimal}
use Rattle.show.proofs.Signed.{negative_text, natural_text}
use Rattle.show.proofs.text_buf.TextBuf.put_number.Goals as goal
use Rattle.show.proofs.text_buf.TextBuf.put_number.Goals.{then-x-lt0, else-x-lt0}

pub put-requires : goal.put-requires
put-requires g c =
    let e : integer c.args.x ≡ (45 ∷ []) ++ decimal _ = negative_text c.args.x c.ranges.x c.if-x-lt0.true refl in
    let r = rw e at c.requires in
    (search rules, omega arith)

pub put_decimal-requires : goal.put_decimal-requires
put_decimal-requires g c =
    elim c.if-x-lt0.branch [
      | then-x-lt0 w ↦
          let e = negative_text c.args.x c.ranges.x w.if-x-lt0.true c.magnitude.ensures in
          let r = rw e at c.requires in
          (search rules, rw (w.self-is, w.put.ensures, length-append) (omega arith))
      | else-x-lt0 w ↦
          let e = natural_text c.args.x c.ranges.x w.if-x-lt0.false c.magnitude.ensures in
          let r = rw e at c.requires in
          (search rules, rw w.self-is r)
    ]

pub returns : goal.returns
returns g c =
    elim c.if-x-lt0.branch [
      | then-x-lt0 w ↦
          let e = negative_text c.args.x c.ranges.x w.if-x-lt0.true c.magnitude.ensures in
          c.put_decimal.ensures ∙ rw (w.self-is, w.put.ensures, e, append_assoc)
      | else-x-lt0 w ↦
          let e = natural_text c.args.x c.ranges.x w.if-x-lt0.false c.magnitude.ensures in
          c.put_decimal.ensures ∙ rw (w.self-is, e)
    ]
