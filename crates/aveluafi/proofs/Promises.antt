-- What C sees beside a refusal of `aveluafi_compact` (document 02, M-103).
-- Assumes nothing.
use Prim.Native.Nat.{ℕ}
use mathlib.Core.Path.{◌≡◌, refl}
use mathlib.Core.List.{List}
use Rattle.opus_defines.specs.Numbers.{refusal_number}
use Rattle.opus_defines.specs.declared.Refusal.{Refusal}
use Rattle.compaction.specs.Share.{refuses, night, share}
use Rattle.aveluafi.specs.Records.{share_record}

-- A share that is refused has the refusal's number, and zeros stand beside it.
pub refused_share_is_zeros : (s : List ℕ) (start room budget : ℕ) (e : Refusal) → night s start room budget ≡ refuses e
    → share_record (share s (night s start room budget))
    ≡ record { number = refusal_number e; resume = 0; records = 0; written = 0; reclaimed = 0; passed = 0 }
refused_share_is_zeros s start room budget e q = rw q refl
