-- Numbers of packets by computation (document 02, M-107).
-- Assumes nothing.
use Rattle.std.proofs.Common.{◌≡◌, true, false, [], ◌∷◌, map, refl}
use Rattle.packet_numbers.specs.Numbers.{numbered, number_after, told}

-- none; one packet; one frame each; blocks
pub rising_ones : map numbered ([] ∷ (0 ∷ 0 ∷ []) ∷ (0 ∷ 1 ∷ 2 ∷ []) ∷ (0 ∷ 1 ∷ 2 ∷ 2 ∷ []) ∷ [])
    ≡ true ∷ true ∷ true ∷ true ∷ []
unfolding numbered
rising_ones = refl

-- not from 0; one left out; one that goes down; from 255, whose next in a byte would be 0
pub other_ones : map numbered ((1 ∷ 1 ∷ []) ∷ (0 ∷ 2 ∷ []) ∷ (0 ∷ 1 ∷ 0 ∷ []) ∷ (255 ∷ 0 ∷ []) ∷ [])
    ≡ false ∷ false ∷ false ∷ false ∷ []
unfolding numbered
other_ones = refl

-- behind none, one, two, three and four frames
pub next_ones : map (number_after (0 ∷ 0 ∷ 1 ∷ 2 ∷ 9 ∷ [])) (0 ∷ 1 ∷ 2 ∷ 3 ∷ 4 ∷ []) ≡ 0 ∷ 1 ∷ 1 ∷ 2 ∷ 3 ∷ []
next_ones = refl

-- lengths and numbers of one packet, and of two; the longest that a frame can have
pub sums_told : told (3 ∷ 0 ∷ []) (0 ∷ 0 ∷ []) ∷ told (1275 ∷ 1275 ∷ 1 ∷ []) (0 ∷ 1 ∷ 1 ∷ []) ∷ [] ≡ 3 ∷ 2551 ∷ []
unfolding numbered
sums_told = refl

-- a length that is too long; numbers that do not begin at 0, that leave one out, that go down
pub none_told : told (3 ∷ 1276 ∷ []) (0 ∷ 0 ∷ []) ∷ map (told (3 ∷ 4 ∷ [])) ((1 ∷ 1 ∷ []) ∷ (0 ∷ 2 ∷ []) ∷ (0 ∷ 255 ∷ []) ∷ [])
    ≡ 65535 ∷ 65535 ∷ 65535 ∷ 65535 ∷ []
unfolding numbered
none_told = refl
