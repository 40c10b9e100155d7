-- What a list of cut orders comes to (document 02, M-106).
use Rattle.std.specs.Prelude.{ℕ, ◌+◌, ◌-◌, List, [], ◌∷◌, ◌++◌, false, cond, ltb, ℤ, pos, negsuc, length}
use Rattle.std.proofs.lemmas.List.Edits.{sets}
use Rattle.opus_defines.specs.Bounds.{most_packet}
use Rattle.opus_defines.specs.Numbers.{refusal_number}
use Rattle.opus_defines.specs.Outcome.{Effect, refusal, wrote}
use Rattle.opus_defines.specs.declared.Refusal.{Refusal}
use Rattle.opus_defines.specs.declared.Refusal.TheVariants.{BadArg, InvalidState}
use Rattle.opus_toc.specs.Toc.{upper_six}
use Rattle.collector.specs.declared.OpusRepacketizer.{OpusRepacketizer}
use Rattle.collector.specs.Collector.{held, least_store, sound}
use Rattle.repacketizer_out.specs.Output.{out_frames}
use Rattle.cut_orders.specs.declared.Order.{Order}
use Rattle.cut_orders.specs.declared.OrderReport.{OrderReport}

-- refused, with the position of the order that is, from 1, and 0 where it is not an order; or the lengths of the packets, and their bytes one behind another
pub data Cutting : Type 0 where
  refused_at : ℕ → Refusal → Cutting
  cut_into : List ℕ → List ℕ → Cutting

-- one packet more
abbrev pub behind : List ℕ → List ℕ → Effect → Cutting
behind lengths bytes (refusal e) = refused_at (length lengths + 1) e
behind lengths bytes (wrote n vs) = cut_into (lengths ++ n ∷ []) (bytes ++ vs)

-- one order more: the single output, ordinary and without padding, into what the destination has left
abbrev pub next : ℕ → List (List ℕ) → ℕ → ℤ → ℤ → Cutting → Cutting
next six frames room begin end (refused_at p e) = refused_at p e
next six frames room begin end (cut_into lengths bytes) =
    behind lengths bytes (out_frames false false six frames begin end (room - length bytes))

-- the orders one by one
unfoldable pub each : ℕ → List (List ℕ) → ℕ → List Order → Cutting → Cutting
each six frames room [] c = c
each six frames room (o ∷ os) c = each six frames room os (next six frames room o.begin o.end c)

abbrev pub most_orders : ℕ
most_orders = 48

-- what is refused before them
unfoldable pub begun : OpusRepacketizer → ℕ → ℕ → ℕ → Cutting
begun rp store room orders =
    cond (sound rp)
    (cond (ltb store least_store) (refused_at 0 BadArg)
    (cond (ltb most_packet room) (refused_at 0 BadArg)
    (cond (ltb most_orders orders) (refused_at 0 BadArg)
    (cut_into [] []))))
    (refused_at 0 InvalidState)

abbrev pub cutting : OpusRepacketizer → List ℕ → List Order → ℕ → Cutting
cutting rp store orders room =
    each (upper_six rp.toc) (held rp store) room orders (begun rp (length store) room (length orders))

-- the answer: the bytes of all packets
abbrev pub order_report : Cutting → OrderReport
order_report (refused_at p e) = record { number = refusal_number e; position = p }
order_report (cut_into lengths bytes) = record { number = pos (length bytes); position = 0 }

-- each order with its length
abbrev pub with_length : ℕ → Order → Order
with_length n o = record { begin = o.begin; end = o.end; length = n }

unfoldable pub with_lengths : List ℕ → List Order → List Order
with_lengths [] os = os
with_lengths (n ∷ ns) [] = []
with_lengths (n ∷ ns) (o ∷ os) = with_length n o ∷ with_lengths ns os

pub record ManyOutcome : Type 0 where
  pub report : OrderReport
  pub orders : List Order
  pub bytes : List ℕ

-- a refusal leaves the list and the destination as they were
abbrev pub leaves_many : List Order → List ℕ → Cutting → ManyOutcome
leaves_many os dst (refused_at p e) = record { report = order_report (refused_at p e); orders = os; bytes = dst }
leaves_many os dst (cut_into lengths bytes) =
    record { report = order_report (cut_into lengths bytes); orders = with_lengths lengths os; bytes = sets dst 0 bytes }

-- `out_many`
unfoldable pub out_many : OpusRepacketizer → List ℕ → List Order → List ℕ → ManyOutcome
out_many rp store orders dst = leaves_many orders dst (cutting rp store orders (length dst))

-- ---- what the code counts
-- a number that is not negative, and 0 for one that is
abbrev pub natural : ℤ → ℕ
natural (pos n) = n
natural (negsuc n) = 0

-- how many orders are to be gone through: none where there is a refusal
abbrev pub turns : ℤ → ℕ → ℕ
turns (pos t) n = n
turns (negsuc t) n = 0

-- how many orders are done
abbrev pub done : Cutting → ℕ
done (refused_at p e) = 0
done (cut_into lengths bytes) = length lengths
