-- What a part is known to be.
--     last-part, settled-part     the part of a buffer that was filled, at the end of a file and before it
--     filled-part                 both, of what is held of the buffer
--     part_inside, part_moves     it lies in what is held; before the end it leaves less than a window
--     Reads, reads_start, reads_on     a file that is read through a buffer of 262,144 bytes, part by part, and how far
-- Assumes nothing.
use Prim.Native.Nat.{ℕ, ◌+◌, ◌-◌, ◌<◌, ◌≤◌, ◌^◌}
use native.Mathlib.Omega.{arith}
use mathlib.Core.Path.{◌≡◌, refl, sym, ◌∙◌}
use mathlib.Core.List.{List}
use mathlib.Core.Bool.{Bool, true, false, cond}
use lib.ListN.{length, take}
use lib.Seq.{take_all, length-take-le}
use borrow.Author.Tests.{ltb-false}
use Rattle.capture_window.specs.Window.{settled}
use Rattle.capture_window.proofs.Promises.{settled-within, settled-leaves_few}
use Rattle.capture_parts.specs.Part.{FilledIn, PartOf}
use Rattle.capture_parts.specs.declared.Filled.{Filled}
use Rattle.capture_parts.specs.declared.Part.{Part}

-- a buffer that was filled
module _ (buf : List ℕ) (f : Filled) (h : FilledIn buf f) where
  filled-full : f.last ≡ false → f.held ≡ length buf
  filled-full e = let most = ltb-false f.held (length buf) (sym h.ending ∙ e) in omega (arith, h.within)

  pub last-part : f.last ≡ true → PartOf buf (record { last = true; held = f.held; bytes = f.held })
  last-part e = record { within = h.within; ending = sym e ∙ h.ending; amount = refl }

  pub settled-part : f.last ≡ false → (n : ℕ) → n ≡ settled buf → PartOf buf (record { last = false; held = f.held; bytes = n })
  settled-part e n is = record { within = h.within; ending = sym e ∙ h.ending; amount = is }

  -- what is held of it, all of it at the end of the file and before as much as is settled
  abbrev held_part : Bool → ℕ
  held_part last = cond last (length (take f.held buf)) (settled (take f.held buf))

  held_by : (b : Bool) → f.last ≡ b → held_part b ≡ cond b f.held (settled buf)
  held_by true e = length-take-le f.held buf h.within
  held_by false e = rw (take_all f.held buf (omega (arith, filled-full e)))

  pub filled-part : (n : ℕ) → n ≡ held_part f.last → PartOf buf (record { last = f.last; held = f.held; bytes = n })
  filled-part n is = record { within = h.within; ending = h.ending; amount = is ∙ held_by f.last refl }

module _ (buf : List ℕ) (r : Part) (p : PartOf buf r) where
  -- before the end the buffer is full
  pub full : r.last ≡ false → (r.held ≡ length buf) × (r.bytes ≡ settled buf)
  full e =
      let most = ltb-false r.held (length buf) (sym p.ending ∙ e) in
      (omega (arith, p.within), p.amount ∙ rw e)

  inside_by : (b : Bool) → r.last ≡ b → r.bytes ≤ r.held
  inside_by true e = let all : r.bytes ≡ r.held = p.amount ∙ rw e in omega arith
  inside_by false e = omega (arith, full e, settled-within buf)

  pub part_inside : r.bytes ≤ r.held
  part_inside = inside_by r.last refl

  pub part_moves : r.last ≡ false → (r.held ≡ length buf) × (r.held - r.bytes < 65540)
  part_moves e = ((full e).0, omega (arith, full e, settled-leaves_few buf))

-- `done` bytes of parts were read, and fewer than a window are held
pub record Reads (buf : List ℕ) (done held : ℕ) : Type 0 where
  pub long : length buf ≡ 262144
  pub few : held < 65540
  pub far : done ≤ 2 ^ 60 + 262144

pub reads_start : (buf : List ℕ) → length buf ≡ 262144 → Reads buf 0 0
reads_start buf h = record { long = h; few = omega arith; far = omega arith }

-- a part is read behind what is held, in the buffer as it is then
module _ {old : List ℕ} {done held : ℕ} (w : Reads old done held) (left : done < 2 ^ 60) {buf : List ℕ} (same : length buf ≡ length old) {r : Part}
    (p : PartOf buf r) where
  pub part-short : (r.bytes ≤ r.held) × (r.held ≤ length buf) × (r.held ≤ 262144)
  part-short = (part_inside buf r p, p.within, omega (arith, p.within, w.long))

  -- and it is not the last: what is behind it is kept
  module _ (e : r.last ≡ false) where
    pub part_some : 1 ≤ r.bytes
    part_some = omega (arith, part_moves buf r p e, w.long)

    pub reads_on : {kept : List ℕ} → length kept ≡ length buf → {k : ℕ} → k ≡ r.held - r.bytes → Reads kept (done + r.bytes) k
    reads_on long is =
        record { long = omega (arith, w.long); few = omega (arith, part_moves buf r p e); far = omega (arith, part-short) }

-- what the goals of `read_part` need
pub ruleset read_parts = (last-part, settled-part)
