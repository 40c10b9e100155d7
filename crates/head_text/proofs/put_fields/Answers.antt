-- The lines, three by three. The gain is passed by its bits.
use Prim.Native.Nat.{ℕ}
use native.Mathlib.Omega.{arith}
use mathlib.Core.Path.{◌≡◌, sym, ap}
use mathlib.Core.List.{List}
use lib.IntN.{ℤ}
use lib.ListN.{length, get_or, length-append}
use lib.Seq.{length-take-le}
use mir.Syntax.{w8, w16, w32}
use mir.Val.{Fits, SFits}
use mir.ValLaws.{to_z-of_z}
use borrow.Author.Rules.{rules}
use Rattle.opus_head.specs.Heads.{InRange}
use Rattle.opus_head.specs.Parts.{fields_of}
use Rattle.show.proofs.Built.{three_put}
use Rattle.head_text.specs.Text.{head_lines}
use Rattle.head_text.proofs.Room.{entries-within, parts_most}
use Rattle.head_text.proofs.put_fields.Goals as goal

-- what the types say
in_range : {version channels skip rate family streams coupled : ℕ} {gain : ℤ} {mapping : List ℕ} → Fits w8 version → Fits w8 channels → Fits w16 skip
    → Fits w32 rate → SFits w16 gain → Fits w8 family → Fits w8 streams → Fits w8 coupled → ((i : ℕ) → Fits w8 (get_or mapping i 0)) → length mapping ≡ 255
    → InRange (fields_of version channels skip rate gain family streams coupled mapping)
in_range v c s r g f t k es n =
    record {
      version = v.fits;
      channels = c.fits;
      pre_skip = s.fits;
      rate = r.fits;
      gain = g.sfits;
      family = f.fits;
      streams = t.fits;
      coupled = k.fits;
      entries = record { byte = λ i. (es i).fits };
      entry_count = n;
    }

pub put_opening-requires : goal.put_opening-requires
put_opening-requires g c =
    let f = c.ranges in
    let m = parts_most _ (in_range f.version f.channels f.skip f.rate f.gain f.family f.streams f.coupled c.type_inv.mapping c.requires.0) in
    (search rules, omega (arith, m, c.requires.1))

pub put_sound-requires : goal.put_sound-requires
put_sound-requires g c =
    let f = c.ranges in
    let m = parts_most _ (in_range f.version f.channels f.skip f.rate f.gain f.family f.streams f.coupled c.type_inv.mapping c.requires.0) in
    (search rules, rw (to_z-of_z w16 c.args.gain f.gain) (omega (arith, ap length c.put_opening.ensures, length-append {A = ℕ}, m, c.requires.1)))

pub slice_bounds-put_streams-end : goal.slice_bounds-put_streams-end
slice_bounds-put_streams-end g c =
    let f = c.ranges in
    let r = in_range f.version f.channels f.skip f.rate f.gain f.family f.streams f.coupled c.type_inv.mapping c.requires.0 in
    sym (length-take-le _ _ (entries-within _ r))

pub put_streams-requires : goal.put_streams-requires
put_streams-requires g c =
    let f = c.ranges in
    let m = parts_most _ (in_range f.version f.channels f.skip f.rate f.gain f.family f.streams f.coupled c.type_inv.mapping c.requires.0) in
    let s = rw (to_z-of_z w16 c.args.gain f.gain) at c.put_sound.ensures in
    (search rules, omega (arith, ap length s, ap length c.put_opening.ensures, length-append {A = ℕ}, m, c.requires.1))

pub returns : goal.returns
unfolding head_lines
returns g c = three_put _ _ _ _ c.put_opening.ensures (rw (to_z-of_z w16 c.args.gain c.ranges.gain) at c.put_sound.ensures) c.put_streams.ensures
