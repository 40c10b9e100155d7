-- The crate's own formula for samples per frame (`opus_packet_get_samples_per_frame` of opus.rs), bit by bit as it stands there:
-- `x & 0x80 != 0` is x / 128 % 2 ≡ 1, `x & 0x60 == 0x60` is x / 32 % 4 ≡ 3, `x & 0x8 != 0` is x / 8 % 2 ≡ 1, `x >> 3 & 0x3` is x / 8 % 4.
use Rattle.std.specs.Prelude.{ℕ, ◌*◌, ◌/◌, ◌%◌, ◌^◌, cond, eqb}

unfoldable pub crate_samples : ℕ → ℕ → ℕ
crate_samples fs toc =
    cond (eqb (toc / 128 % 2) 1) (fs * 2 ^ (toc / 8 % 4) / 400)
    (cond (eqb (toc / 32 % 4) 3) (cond (eqb (toc / 8 % 2) 1) (fs / 50) (fs / 100))
    (cond (eqb (toc / 8 % 4) 3) (fs * 60 / 1000) (fs * 2 ^ (toc / 8 % 4) / 100)))
