-- The bytes behind the frames, looked at.
--     Most, most_none, most_more, most_all     the largest of the first bytes, as a loop goes over them
--     Framed, framed                           a packet that was read: its padding lies behind its frames, up to its end
--     dirt_refused                             a packet that cannot be read is not dirty
--     dirt_most                                the largest byte tells whether there is dirt
--     dirt_told                                what is behind the frames tells whether the packet is dirty
-- Assumes nothing.
use Prim.Native.Nat.{ℕ, ◌+◌, ◌-◌, ◌≤◌, ◌<◌, max}
use native.Mathlib.Omega.{arith}
use mathlib.Core.Path.{◌≡◌, refl, sym, ap}
use mathlib.Core.List.{List}
use mathlib.Core.Bool.{Bool, false, not}
use lib.Dec.{eqb}
use lib.ListN.{length, get_or, take, drop}
use lib.Seq.{take_all}
use Rattle.laws.specs.Bytes.{Bytes}
use Rattle.blocks.proofs.Sets.{drop-take}
use Rattle.opus_defines.specs.declared.Refusal.{Refusal}
use Rattle.std.specs.Prelude.{Err, Ok}
use Rattle.opus_size.specs.Size.{most_bytes}
use Rattle.opus_format.specs.Frames.{total, longest}
use Rattle.opus_format.specs.Dirt.{dirty, dirty_packet}
use Rattle.opus_format.proofs.Lengths.{longest_more}
use Rattle.opus_format.proofs.Facts.{facts}
use Rattle.opus_format.proofs.Dirt.{dirty_most, dirt_is}
use Rattle.opus.specs.Answers.{parsed}
use Rattle.opus.specs.declared.Packet.{Packet}
use Rattle.opus.proofs.Parsed.{lengths_of, parsed_accepted, parsed_refused}
use Rattle.opus_header.specs.Sums.{sums_of}
use Rattle.opus_header.specs.declared.Sums.{Sums}
use Rattle.opus_header.proofs.Forms.{sums_total}

-- the largest of the first i
pub record Most (s : List ℕ) (most i : ℕ) : Type 0 where
  pub within : i ≤ length s
  pub most_is : most ≡ longest (take i s)

pub most_none : (s : List ℕ) → Most s 0 0
most_none s = record { within = omega arith; most_is = refl }

pub most_more : (s : List ℕ) (most i most' : ℕ) → Most s most i → i < length s → most' ≡ max most (get_or s i 0) → Most s most' (i + 1)
most_more s most i most' m h a = record { within = omega arith; most_is = rw (longest_more s i h, ← m.most_is) a }

pub most_all : (s : List ℕ) (most i : ℕ) → Most s most i → length s ≤ i → most ≡ longest s
most_all s most i m h = rw (take_all i s h) at m.most_is

-- a packet that was read, with the reader's answer q
pub record Framed (sd : Bool) (p : List ℕ) (q : Packet) : Type 0 where
  pub inside : q.count ≤ length q.lengths
  pub some : (1 ≤ length (lengths_of q)) × (length (lengths_of q) ≤ 48) × (longest (lengths_of q) ≤ most_bytes)
  pub block : q.first + total (lengths_of q) ≤ q.taken
  pub within : q.taken ≤ length p
  pub padding : dirty_packet sd p
      ≡ dirty (take (q.taken - (q.first + total (lengths_of q))) (drop (q.first + total (lengths_of q)) p))

module _ (sd : Bool) (p : List ℕ) where
  pub framed : (q : Packet) → Ok q ≡ parsed sd p → Bytes p → Framed sd p q
  framed q e bytes =
      let d = parsed_accepted sd p q e in
      let f = facts sd p q.toc (lengths_of q) q.first q.taken bytes d.means in
      record {
        inside = d.inside;
        some = (f.some, f.few, f.small);
        block = f.block;
        within = f.within;
        padding = rw (dirt_is sd p, d.means) (ap dirty (drop-take (q.first + total (lengths_of q)) q.taken p));
      }

  pub dirt_refused : {c : Refusal} → Err c ≡ parsed sd p → length p ≤ 65535 → false ≡ dirty_packet sd p
  dirt_refused {c} e k = let r = parsed_refused sd p c e k in rw (dirt_is sd p, r.3)

pub dirt_most : (s : List ℕ) (most : ℕ) → most ≡ longest s → not (eqb most 0) ≡ dirty s
dirt_most s most e = rw e (sym (dirty_most s))

pub dirt_told : (sd : Bool) (p : List ℕ) (q : Packet) → Framed sd p q → (m : Sums) → m ≡ sums_of (lengths_of q) → (d : Bool)
    → d ≡ dirty (take (q.taken - (q.first + m.total)) (drop (q.first + m.total) p)) → d ≡ dirty_packet sd p
dirt_told sd p q f m s d e = rw f.padding (rw (sums_total (lengths_of q) s) at e)
