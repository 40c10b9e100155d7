-- What the promises on a list of orders speak of: single calls, and the packets that a list cut (document 02, M-106).
use Rattle.std.specs.Prelude.{ℕ, suc, ◌+◌, ◌<◌, ◌≡◌, List, [], ◌∷◌, ◌++◌, Bool, false, ℤ, pos, negsuc, length, take, drop}
use Rattle.opus_defines.specs.Outcome.{Outcome}
use Rattle.opus_header.specs.Compact.{compact}
use Rattle.collector.specs.declared.OpusRepacketizer.{OpusRepacketizer}
use Rattle.repacketizer.specs.Runs.{Arrival}
use Rattle.repacketizer_out.specs.Output.{range, out_range}
use Rattle.cut_orders.specs.declared.Order.{Order}
use Rattle.cut_orders.specs.declared.OrderReport.{OrderReport}
use Rattle.cut_orders.specs.Orders.{natural}

-- single outputs, ordinary and without padding, one call after another until one is refused: what they answer, and the destination behind them
pub record Singles : Type 0 where
  pub report : OrderReport
  pub lengths : List ℕ
  pub bytes : List ℕ

abbrev pub and_then : ℕ → Singles → Singles
and_then n s = record { report = s.report; lengths = n ∷ s.lengths; bytes = s.bytes }

-- a call that is refused, or those behind it
abbrev pub followed : ℕ → List ℕ → (ℕ → Singles) → ℤ → Singles
followed p dst others (pos n) = and_then n (others n)
followed p dst others (negsuc n) = record { report = record { number = negsuc n; position = p }; lengths = []; bytes = dst }

-- each into what the destination has left: `at` bytes of it are written, and the order has position p
unfoldable pub singly : OpusRepacketizer → List ℕ → List Order → ℕ → ℕ → List ℕ → Singles
singly rp store [] p at dst = record { report = record { number = pos at; position = 0 }; lengths = []; bytes = dst }
singly rp store (o ∷ os) p at dst =
    let call : Outcome = out_range false false rp store o.begin o.end (drop at dst) in
    followed p dst (λ n. singly rp store os (suc p) (at + n) (take at dst ++ call.bytes)) call.report.number

-- orders that cut n frames into consecutive ranges, none empty, from `begin` on
abbrev pub Consecutive : ℕ → ℕ → List Order → Type 0
Consecutive begin n [] = begin ≡ n
Consecutive begin n (o ∷ os) =
    (o.begin ≡ pos begin) × ((o.end ≡ pos (natural o.end)) × ((begin < natural o.end) × Consecutive (natural o.end) n os))

-- the bytes of the compact packets of such ranges
abbrev pub cut_bytes : ℕ → List (List ℕ) → ℕ → List Order → ℕ
cut_bytes six frames begin [] = 0
cut_bytes six frames begin (o ∷ os) =
    length (compact false six (range begin (natural o.end) frames)) + cut_bytes six frames (natural o.end) os

-- the packets in the destination, by the lengths in the list, each to be added, strictly or not as `strict` says of its place in the list
abbrev pub packets_by : (ℕ → Bool) → ℕ → List Order → List ℕ → List Arrival
packets_by strict i [] bytes = []
packets_by strict i (o ∷ os) bytes =
    record { strict = strict i; sd = false; packet = take o.length bytes } ∷ packets_by strict (suc i) os (drop o.length bytes)
