-- Lists of orders by computation, on a collector that held nothing and has accepted 00 AA, 00 BB CC and 01 DD EE (document 02, M-106).
--     collected               its frames
--     the_call                the call is what these frames and the orders come to, whatever else the collector's fields say
--     done-ones               lists that are done
--     refused-ones            lists that are refused, and by which order
--     most_orders_lem, too_many   48 and 49 orders
-- Assumes nothing.
use Prim.Native.Nat.{ℕ, ◌≤◌}
use native.Mathlib.Omega.{arith}
use mathlib.Core.Path.{◌≡◌, refl, subst}
use mathlib.Core.List.{List, [], ◌∷◌, map}
use mathlib.Core.Bool.{false}
use lib.IntN.{pos, negsuc}
use lib.ListN.{length, replicate}
use Rattle.laws.proofs.Bytes.{bytes_nil, bytes_cons}
use Rattle.opus_size.specs.Size.{length_field}
use Rattle.opus_toc.specs.Toc.{duration}
use Rattle.opus_header.specs.Header.{header}
use Rattle.opus_header.specs.Compact.{compact}
use Rattle.repacketizer.specs.Runs.{State, Ready, Empty, Holds, Arrival, after_adds}
use Rattle.repacketizer.proofs.Runs.{empty_ready, empty-held}
use Rattle.repacketizer_out.specs.Output.{output}
use Rattle.repacketizer_out.specs.Pieces.{Piece, packed}
use Rattle.repacketizer_out.proofs.Again.{pieces-held}
use Rattle.cut_orders.specs.declared.Order.{Order}
use Rattle.cut_orders.specs.declared.OrderReport.{OrderReport}
use Rattle.cut_orders.specs.Orders.{cut_into, each, with_lengths, ManyOutcome, leaves_many, out_many}
use Rattle.cut_orders.proofs.Many.{many_sound}
use Rattle.cut_orders.proofs.Promises.{orders_then_count}

-- ---- the collector
abbrev frames : List (List ℕ)
frames = (0xaa ∷ []) ∷ (0xbb ∷ 0xcc ∷ []) ∷ (0xdd ∷ []) ∷ (0xee ∷ []) ∷ []

abbrev arrival : List ℕ → Arrival
arrival p = record { strict = false; sd = false; packet = p }

abbrev arrivals : List Arrival
arrivals = arrival (0x00 ∷ 0xaa ∷ []) ∷ arrival (0x00 ∷ 0xbb ∷ 0xcc ∷ []) ∷ arrival (0x01 ∷ 0xdd ∷ 0xee ∷ []) ∷ []

abbrev piece : List (List ℕ) → Piece
piece fs = record { strict = false; frames = fs }

abbrev pieces : List Piece
pieces = piece ((0xaa ∷ []) ∷ []) ∷ piece ((0xbb ∷ 0xcc ∷ []) ∷ []) ∷ piece ((0xdd ∷ []) ∷ (0xee ∷ []) ∷ []) ∷ []

as_packets : map (packed false 0) pieces ≡ arrivals
unfolding compact header length_field
as_packets = refl

pub collected : (e : State) → Empty e → Holds 0 (after_adds e arrivals) frames
unfolding duration
collected e z =
    let none : Holds 0 e [] = record { ready = empty_ready e z; frames = empty-held e z; same = λ m. absurd (omega arith) } in
    subst (λ (l : List Arrival). Holds 0 (after_adds e l) frames) as_packets
    (pieces-held false 0 (omega arith) none pieces (omega arith, (omega arith, (omega arith, tt)))
    (record { some = omega arith; short = omega arith })
    (record {
      small = omega arith;
      bytes = bytes_cons (omega arith) (bytes_cons (omega arith) (bytes_cons (omega arith) (bytes_cons (omega arith) (bytes_cons (omega arith) bytes_nil))));
    })).1

-- ---- the call
abbrev outcome : List Order → List ℕ → ManyOutcome
outcome orders dst = leaves_many orders dst (each 0 frames (length dst) orders (cut_into [] []))

pub the_call : (s : State) → Holds 0 s frames → (orders : List Order) → length orders ≤ 48 → (dst : List ℕ) → length dst ≤ 65535
    → out_many s.rp s.store orders dst ≡ outcome orders dst
the_call s h orders few dst most =
    rw (many_sound s.rp s.store orders dst h.ready.soundly h.ready.roomy most few, h.same (omega arith), h.frames)

-- an order as it is lent, whatever stands in its length, and as it comes back
abbrev order : ℕ → ℕ → Order
order b e = record { begin = pos b; end = pos e; length = 7 }

abbrev cut_to : ℕ → ℕ → ℕ → Order
cut_to b e n = record { begin = pos b; end = pos e; length = n }

abbrev gives : ℕ → List Order → List ℕ → ManyOutcome
gives n orders bytes = record { report = record { number = pos n; position = 0 }; orders = orders; bytes = bytes }

-- two ranges into 5 bytes; the same into 7: the last two stay; all frames twice and one of them again, into 22; no order
pub done-ones :
    outcome (order 0 1 ∷ order 1 2 ∷ []) (replicate 5 0x55)
    ∷ outcome (order 0 1 ∷ order 1 2 ∷ []) (replicate 7 0x55)
    ∷ outcome (order 0 4 ∷ order 0 4 ∷ order 2 3 ∷ []) (replicate 22 0x55)
    ∷ outcome [] (replicate 2 0x55)
    ∷ []
    ≡ gives 5 (cut_to 0 1 2 ∷ cut_to 1 2 3 ∷ []) (0x00 ∷ 0xaa ∷ 0x00 ∷ 0xbb ∷ 0xcc ∷ [])
    ∷ gives 5 (cut_to 0 1 2 ∷ cut_to 1 2 3 ∷ []) (0x00 ∷ 0xaa ∷ 0x00 ∷ 0xbb ∷ 0xcc ∷ 0x55 ∷ 0x55 ∷ [])
    ∷ gives 22 (cut_to 0 4 10 ∷ cut_to 0 4 10 ∷ cut_to 2 3 2 ∷ [])
    (0x03 ∷ 0x84 ∷ 0x01 ∷ 0x02 ∷ 0x01 ∷ 0xaa ∷ 0xbb ∷ 0xcc ∷ 0xdd ∷ 0xee
    ∷ 0x03 ∷ 0x84 ∷ 0x01 ∷ 0x02 ∷ 0x01 ∷ 0xaa ∷ 0xbb ∷ 0xcc ∷ 0xdd ∷ 0xee ∷ 0x00 ∷ 0xdd ∷ [])
    ∷ gives 0 [] (0x55 ∷ 0x55 ∷ [])
    ∷ []
unfolding each output with_lengths compact header length_field
done-ones = refl

abbrev reports : List Order → ℕ → OrderReport
reports orders room = (outcome orders (replicate room 0x55)).report

abbrev refused_by : ℕ → ℕ → OrderReport
refused_by n p = record { number = negsuc n; position = p }

-- two ranges into 4 bytes; an empty range; a long range before one that is none of these frames, into 6; a range that begins before the first frame, one
-- that ends behind the last, and one that ends before it begins, each alone
pub refused-ones :
    reports (order 0 1 ∷ order 1 2 ∷ []) 4
    ∷ reports (order 0 1 ∷ order 1 1 ∷ []) 5
    ∷ reports (order 0 1 ∷ order 0 4 ∷ order 9 9 ∷ []) 6
    ∷ reports (record { begin = negsuc 0; end = pos 1; length = 7 } ∷ []) 6
    ∷ reports (order 3 5 ∷ []) 6
    ∷ reports (order 2 1 ∷ []) 6
    ∷ []
    ≡ refused_by 1 2 ∷ refused_by 0 2 ∷ refused_by 1 2 ∷ refused_by 0 1 ∷ refused_by 0 1 ∷ refused_by 0 1 ∷ []
unfolding each output with_lengths compact header length_field
refused-ones = refl

-- 48 orders of the first frame, into 96 bytes
pub most_orders_lem : reports (replicate 48 (order 0 1)) 96 ≡ record { number = pos 96; position = 0 }
unfolding each output with_lengths compact header length_field
most_orders_lem = refl

-- and 49
pub too_many : (s : State) → Ready s → (dst : List ℕ) → length dst ≤ 65535
    → (out_many s.rp s.store (replicate 49 (order 0 1)) dst).report ≡ refused_by 0 0
too_many s r dst most = orders_then_count s.rp s.store (replicate 49 (order 0 1)) dst r.soundly r.roomy most (omega arith)
