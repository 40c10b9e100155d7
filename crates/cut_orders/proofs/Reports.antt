-- What the first pass answers, by its tests.
--     report_is         the report of an answer
--     turns-..          how many orders are gone through
--     begun-..          what is refused before the orders
-- Assumes nothing.
use Prim.Native.Nat.{ℕ, ◌≤◌, ◌<◌}
use mathlib.Core.Path.{◌≡◌, refl}
use mathlib.Core.List.{[]}
use mathlib.Core.Bool.{true, false}
use lib.IntN.{ℤ, pos, negsuc}
use borrow.Author.Tests.{lt-ltb, le-ltb}
use Rattle.laws.proofs.Never.{never}
use Rattle.opus_defines.specs.Bounds.{most_packet}
use Rattle.opus_defines.specs.Numbers.{number_of, count_of}
use Rattle.opus_defines.specs.declared.Refusal.{Refusal}
use Rattle.std.specs.Prelude.{None, Result, Some}
use Rattle.opus_defines.specs.declared.Refusal.TheVariants.{BadArg, InvalidState}
use Rattle.collector.specs.declared.OpusRepacketizer.{OpusRepacketizer}
use Rattle.collector.specs.Collector.{least_store, sound}
use Rattle.cut_orders.specs.declared.OrderReport.{OrderReport}
use Rattle.cut_orders.specs.Orders.{refused_at, cut_into, begun, most_orders, turns}

-- ---- the report of an answer
abbrev pub reported : Result ℕ Refusal → ℕ → OrderReport
reported a p = record { number = number_of a; position = p }

pub report_is : {n : ℤ} (a : Result ℕ Refusal) (p : ℕ) → n ≡ number_of a → record { number = n; position = p } ≡ reported a p
report_is a p e = λ i. record { number = e i; position = p }

-- ---- how many orders are gone through
pub turns-none : (z : ℤ) (n : ℕ) → count_of z ≡ None → 0 ≡ turns z n
turns-none (pos t) n e = never (cc)
turns-none (negsuc t) n e = refl

pub turns-all : (z : ℤ) (n t : ℕ) → count_of z ≡ Some t → n ≡ turns z n
turns-all (pos t) n u e = refl
turns-all (negsuc t) n u e = never (cc)

-- ---- what is refused before the orders
module _ (rp : OpusRepacketizer) (store room orders : ℕ) where
  pub begun_unsound : sound rp ≡ false → begun rp store room orders ≡ refused_at 0 InvalidState
  unfolding begun
  begun_unsound s = rw s

  module _ (s : sound rp ≡ true) where
    pub begun_tight : store < least_store → begun rp store room orders ≡ refused_at 0 BadArg
    unfolding begun
    begun_tight h = rw (s, lt-ltb store least_store h)

    module _ (h : least_store ≤ store) where
      pub begun_long : most_packet < room → begun rp store room orders ≡ refused_at 0 BadArg
      unfolding begun
      begun_long k = rw (s, le-ltb store least_store h, lt-ltb most_packet room k)

      module _ (k : room ≤ most_packet) where
        pub begun_crowded : most_orders < orders → begun rp store room orders ≡ refused_at 0 BadArg
        unfolding begun
        begun_crowded m = rw (s, le-ltb store least_store h, le-ltb most_packet room k, lt-ltb most_orders orders m)

        pub begun_ready : orders ≤ most_orders → begun rp store room orders ≡ cut_into [] []
        unfolding begun
        begun_ready m = rw (s, le-ltb store least_store h, le-ltb most_packet room k, le-ltb most_orders orders m)
