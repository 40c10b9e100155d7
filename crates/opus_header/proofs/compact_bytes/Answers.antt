-- `opus_header::compact_bytes` meets its contract: the header of the compact form, and the frames.
use Prim.Native.Nat.{ℕ, ◌+◌}
use mathlib.Core.Path.{ap, ◌∙◌}
use native.Mathlib.Omega.{arith}
use Rattle.opus_header.specs.Forms.{header_bytes}
use Rattle.opus_header.specs.declared.Form.{Form}
use Rattle.opus_header.proofs.Forms.{own_most, compact-missing, compact-front}
use Rattle.opus_header.proofs.compact_bytes.Goals as goal

pub header_bytes-requires : goal.header_bytes-requires
header_bytes-requires c =
    (c.requires.0, rw c.compact_form.ensures (omega (arith, compact-missing c.args.count)))

pub overflow_add-result : goal.overflow_add-result
overflow_add-result c =
    let h = rw c.compact_form.ensures at c.header_bytes.ensures in
    omega (arith, own_most c.args.self_delimited c.args.m.last, compact-front c.args.count, c.requires)

pub returns : goal.returns
returns c =
    ap (λ (n : ℕ). n + c.args.m.total)
    (c.header_bytes.ensures ∙ ap (λ (f : Form). header_bytes c.args.m f c.args.self_delimited) c.compact_form.ensures)
