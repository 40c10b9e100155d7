-- Rule and place in the answer of an add (document 02, M-100).
-- Assumes nothing.
use mathlib.Core.Path.{◌≡◌, refl}
use Prim.Native.Nat.{ℕ}
use mathlib.Core.List.{List}
use mathlib.Core.Bool.{Bool}
use lib.Dec.{ltb}
use lib.ListN.{length}
use Rattle.laws.proofs.Never.{by_test}
use Rattle.opus_format.specs.Reading.{Reading, refused, accepted, read}
use Rattle.opus.specs.Named.{Named, unnamed}
use Rattle.opus.proofs.Naming.{front_named}
use Rattle.collector.specs.declared.OpusRepacketizer.{OpusRepacketizer}
use Rattle.collector.specs.Collector.{least_store, sound}
use Rattle.repacketizer.specs.Adding.{added_report, leaves_add, stays_out, read_adds, added}

pub add_named : (sd : Bool) (rp : OpusRepacketizer) (p store : List ℕ) → Named p (added_report (added sd rp p store).answer)
unfolding added
add_named sd rp p store =
    by_test (sound rp)
    (λ s. by_test (ltb (length store) least_store) (λ h. rw (s, h) (unnamed refl refl))
    (λ h. by_test (ltb 65535 (length p)) (λ k. rw (s, h, k) (unnamed refl refl))
    (λ k. by_test (stays_out rp p) (λ o. rw (s, h, k, o) (unnamed refl refl)) (λ o. rw (s, h, k, o) (go (read sd p) refl)))))
    (λ s. rw s (unnamed refl refl))
  where
    go : (x : Reading) → read sd p ≡ x → Named p (added_report (leaves_add rp p store (read_adds x)).answer)
    go (refused rule place) r = front_named p sd rule place r
    go (accepted toc ns first taken) r = unnamed refl refl
