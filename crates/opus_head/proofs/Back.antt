-- The two calls one behind the other, and what is behind a header that was written.
-- Assumes nothing.
use Prim.Native.Nat.{ℕ, ◌≤◌}
use native.Mathlib.Omega.{arith}
use mathlib.Core.Path.{◌≡◌, refl, sym, ap, ◌∙◌}
use mathlib.Core.List.{List, [], append-nil}
use lib.ListN.{length, take, drop}
use lib.Seq.{sets}
use Rattle.laws.specs.Bytes.{Bytes}
use Rattle.opus_defines.specs.Outcome.{Outcome, writes}
use Rattle.blocks.proofs.Sets.{take-sets, drop-sets_past}
use Rattle.std.specs.Prelude.{Ok}
use Rattle.opus_head.specs.declared.OpusHead.{OpusHead}
use Rattle.opus_head.specs.Header.{head_bytes}
use Rattle.opus_head.specs.Reading.{head_read, head_write}
use Rattle.opus_head.specs.Heads.{InRange}
use Rattle.opus_head.proofs.Exactly.{Was, was_lawful, was_whole, accepted}
use Rattle.opus_head.proofs.Written.{write_all, Done}

module _ (h : OpusHead) (dst : List ℕ) (n : ℕ) (d : Done h dst n) where
  left : (head_write h dst).bytes ≡ sets dst 0 (head_bytes h)
  left = ap (λ (o : Outcome). o.bytes) (write_all h dst d.writable d.room)

  done_bytes : take n (head_write h dst).bytes ≡ head_bytes h
  done_bytes = rw (left, d.count) (take-sets dst (head_bytes h) d.room)

  pub done_reads : InRange h → head_read (take n (head_write h dst).bytes) ≡ Ok h
  done_reads range = rw (done_bytes, ← append-nil (head_bytes h)) (accepted h range d.writable.lawful [] (λ _. refl))

  pub done_past : drop n (head_write h dst).bytes ≡ drop n dst
  done_past = rw left (drop-sets_past dst 0 (head_bytes h) n (omega (arith, d.count)))

pub read_again : (s : List ℕ) → Bytes s → (h : OpusHead) → Was s h → h.version ≡ 1 → (dst : List ℕ) → length s ≤ length dst
    → head_write h dst ≡ writes s dst
read_again s bytes h w v dst room =
    let whole = was_whole w bytes v in
    write_all h dst (record { one = v; lawful = was_lawful w }) (omega (arith, room, ap length whole)) ∙ ap (λ l. writes l dst) (sym whole)
