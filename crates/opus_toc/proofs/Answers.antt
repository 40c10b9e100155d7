-- What `samples_per_frame` and `nb_frames` answer, by the tests on the way.
-- Assumes nothing.
use Prim.Native.Nat.{ℕ, zero, suc, ◌/◌, ◌%◌, ◌≤◌, ◌<◌}
use native.Mathlib.Omega.{arith}
use mathlib.Core.Path.{◌≡◌, refl, ◌∙◌}
use mathlib.Core.List.{List, [], ◌∷◌}
use mathlib.Core.Bool.{Bool, true, false}
use lib.IntN.{ℤ, pos, negsuc}
use lib.ListN.{length, get_or}
use Rattle.laws.proofs.Never.{never, by_test}
use Rattle.opus_defines.specs.Numbers.{refusal_number, number_of, count_of}
use Rattle.std.specs.Prelude.{Err, None, Ok, Some}
use Rattle.opus_defines.proofs.Counts.{is_natural}
use Rattle.opus_defines.specs.declared.Refusal.TheVariants.{BadArg, InvalidPacket}
use Rattle.opus_toc.specs.Toc.{configuration, samples}
use Rattle.opus_toc.specs.Answers.{is_rate, divisor_of, samples_at, samples_per_frame, nb_frames, frames_by_code}
use Rattle.opus_toc.proofs.Rates.{each_rate}
use Rattle.opus_toc.proofs.Samples.{scaled}

-- a divisor is 0 just for what is no rate
divisor_rate : (rate : ℕ) (t : Bool) → is_rate rate ≡ t → (divisor_of rate ≡ 0 → ⊥) → is_rate rate ≡ true
divisor_rate rate true e h = e
divisor_rate rate false e h = absurd (h (rw e))

divisor_none : (rate : ℕ) → divisor_of rate ≡ 0 → is_rate rate ≡ false
divisor_none rate z =
    by_test (is_rate rate)
    (λ e.
    let some = each_rate (λ r. 48000 / r ≡ 0 → ⊥) (λ h. omega arith) (λ h. omega arith) (λ h. omega arith) (λ h. omega arith) (λ h. omega arith) in
    absurd (some rate e (rw e at z)))
    (λ e. e)

pub samples-empty : (s : List ℕ) (rate : ℕ) → length s ≡ 0 → Err BadArg ≡ samples_at s rate
unfolding samples_at
samples-empty [] rate h = refl
samples-empty (toc ∷ s) rate h = absurd (omega arith)

pub samples-none : (s : List ℕ) (rate : ℕ) → (length s ≡ 0 → ⊥) → divisor_of rate ≡ 0 → Err BadArg ≡ samples_at s rate
unfolding samples_at
samples-none [] rate h z = absurd (h refl)
samples-none (toc ∷ s) rate h z = rw (divisor_none rate z)

pub samples_some : (s : List ℕ) (rate d n : ℕ) → get_or s 0 0 < 256 → (length s ≡ 0 → ⊥) → d ≡ divisor_of rate → (d ≡ 0 → ⊥)
    → n ≡ samples 48000 (configuration (get_or s 0 0)) → Ok (n / d) ≡ samples_at s rate
unfolding samples_at
samples_some [] rate d n b h e k m = absurd (h refl)
samples_some (toc ∷ s) rate d n b h e k m =
    let t = divisor_rate rate (is_rate rate) refl (λ z. k (e ∙ z)) in
    let f : d ≡ 48000 / rate = e ∙ rw t in
    rw (m, f, t, scaled rate t toc b)

-- ---- the frame count
pub frames_empty : (s : List ℕ) → length s ≡ 0 → Err BadArg ≡ nb_frames s
unfolding nb_frames
frames_empty [] h = refl
frames_empty (toc ∷ s) h = absurd (omega arith)

pub frames_one : (s : List ℕ) → (length s ≡ 0 → ⊥) → get_or s 0 0 % 4 ≡ 0 → Ok 1 ≡ nb_frames s
unfolding nb_frames
frames_one [] h e = absurd (h refl)
frames_one (toc ∷ s) h e = rw e

frames_between : (c : ℕ) (s : List ℕ) → c < 4 → (c ≡ 0 → ⊥) → (c ≡ 3 → ⊥) → Ok 2 ≡ frames_by_code c s
frames_between zero s h e f = absurd (e refl)
frames_between (suc zero) s h e f = refl
frames_between (suc (suc zero)) s h e f = refl
frames_between (suc (suc (suc c))) s h e f = absurd (f (omega arith))

pub frames_two : (s : List ℕ) → (length s ≡ 0 → ⊥) → (get_or s 0 0 % 4 ≡ 0 → ⊥) → (get_or s 0 0 % 4 ≡ 3 → ⊥) → Ok 2 ≡ nb_frames s
unfolding nb_frames
frames_two [] h e f = absurd (h refl)
frames_two (toc ∷ s) h e f = frames_between (toc % 4) s (omega arith) e f

pub frames_cut : (s : List ℕ) → (length s ≡ 0 → ⊥) → get_or s 0 0 % 4 ≡ 3 → length s < 2 → Err InvalidPacket ≡ nb_frames s
unfolding nb_frames
frames_cut [] h e l = absurd (h refl)
frames_cut (toc ∷ []) h e l = rw e
frames_cut (toc ∷ b ∷ s) h e l = absurd (omega arith)

pub frames_count : (s : List ℕ) → get_or s 0 0 % 4 ≡ 3 → 2 ≤ length s → Ok (get_or s 1 0 % 64) ≡ nb_frames s
unfolding nb_frames
frames_count [] e l = absurd (omega arith)
frames_count (toc ∷ []) e l = absurd (omega arith)
frames_count (toc ∷ b ∷ s) e l = rw e

-- ---- a rate by its sign
pub rate_negative : (s : List ℕ) (rate : ℤ) → count_of rate ≡ None → refusal_number BadArg ≡ samples_per_frame s rate
rate_negative s (pos n) e = never (cc)
rate_negative s (negsuc n) e = refl

pub rate_natural : (s : List ℕ) (rate : ℤ) (n : ℕ) → count_of rate ≡ Some n → number_of (samples_at s n) ≡ samples_per_frame s rate
rate_natural s rate n e = rw (is_natural rate n e)
