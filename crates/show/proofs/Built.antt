-- A text under construction: n bytes stand at the front of a buffer, and s is put behind them.
-- Assumes nothing.
use Prim.Native.Nat.{ℕ, ◌+◌, ◌≤◌}
use native.Mathlib.Omega.{arith}
use mathlib.Core.Path.{◌≡◌, ap, ◌∙◌}
use mathlib.Core.List.{List, ◌++◌, append_assoc}
use lib.ListN.{length, take}
use lib.Seq.{length-take-le}
use Rattle.blocks.proofs.Sets.{take-sets_at}
use Rattle.blocks.specs.Blocks.{copied}
use Rattle.show.proofs.Laid.{copied_whole}

pub text_more : (b : List ℕ) (n : ℕ) (t s : List ℕ) (most : ℕ) {d : List ℕ} → length b ≡ most → n ≤ most → take n b ≡ t → length t + length s ≤ most
    → d ≡ copied b n s 0 (length s) → take (n + length s) d ≡ t ++ s
text_more b n t s most long inside is room e =
    let count : length t ≡ n = omega (arith, ap length is, length-take-le n b (omega arith)) in
    rw (copied_whole b n s e) (take-sets_at b n s (omega arith) ∙ ap (λ (x : List ℕ). x ++ s) is)

-- three texts, put one behind another
pub three_put : (t a b c : List ℕ) {u v w : List ℕ} → u ≡ t ++ a → v ≡ u ++ b → w ≡ v ++ c → w ≡ t ++ (a ++ (b ++ c))
three_put t a b c e f g = rw (g, f, e) (simp append_assoc)
