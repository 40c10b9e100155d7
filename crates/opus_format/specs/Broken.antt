-- What it means that a packet breaks a rule of RFC 6716, section 3.4, at a place (document 02, M-100): said of its bytes, not of how they are read.
use Rattle.std.specs.Prelude.{ℕ, suc, ◌+◌, ◌*◌, ◌-◌, ◌/◌, ◌%◌, ◌≤◌, ◌<◌, ◌≡◌, List, [], ◌∷◌, ◌++◌, Bool, true, false, length, get_or, take, drop}
use Rattle.std.specs.Prelude.{Ok}
use Rattle.opus_defines.specs.declared.Rule.{Rule}
use Rattle.opus_defines.specs.declared.Rule.TheVariants.{R1, R2, R3, R4, R5, R6, R7, R8}
use Rattle.opus_size.specs.Size.{most_bytes, length_field, length_fields}
use Rattle.opus_toc.specs.Toc.{code, upper_six}
use Rattle.opus_toc.specs.Answers.{nb_frames}
use Rattle.opus_format.specs.Frames.{total}
use Rattle.opus_format.specs.Format.{Lasts, Padding}

-- a length field at the front of u is cut short, or what stands behind it is shorter than its frames, which are `of` its length
abbrev pub Cramped : (ℕ → ℕ) → List ℕ → Type 0
Cramped of u = (n : ℕ) (t : List ℕ) → n ≤ most_bytes → u ≡ length_field n ++ t → length t < of n

-- the padding lengths at the front of s are cut short, or say more padding than stands behind them
abbrev pub Unpaddable : List ℕ → Type 0
Unpaddable s = (chain rest : List ℕ) (pad : ℕ) → Padding 1 chain pad → s ≡ chain ++ rest → length rest < pad

-- what stands in front of the lengths of the packet p, and how many padding bytes it has: in code 3 a count byte and padding lengths
pub data Start (p : List ℕ) : List ℕ → ℕ → Type 0 where
  plain : (toc : ℕ) (s : List ℕ) → p ≡ toc ∷ s → (code toc ≡ 3 → ⊥) → Start p (toc ∷ []) 0
  counted : (toc c : ℕ) (chain rest : List ℕ) (pad : ℕ) → p ≡ toc ∷ c ∷ (chain ++ rest) → code toc ≡ 3 → Padding (c / 64 % 2) chain pad
      → pad ≤ length rest → Start p (toc ∷ c ∷ chain) pad

-- each of these lengths is at most what stands behind its own field, where u stands behind all of them
abbrev pub EachFits : List ℕ → List ℕ → Type 0
EachFits [] u = Unit {0}
EachFits (n ∷ ns) u = (n ≤ length (length_fields ns ++ u)) × EachFits ns u

-- behind the length fields of ns, each of which fits, u stands at a place of the packet; its padding is no part of u
pub record Place (p ns : List ℕ) (place : ℕ) (u : List ℕ) : Type 0 where
  pub start : List ℕ
  pub pad : ℕ
  pub starts : Start p start pad
  pub whole : take (length p - pad) p ≡ start ++ (length_fields ns ++ u)
  pub fits : EachFits ns u
  pub at : length (start ++ length_fields ns) ≡ place

-- which rule is broken at which place
pub data Breaks (sd : Bool) (p : List ℕ) : Rule → ℕ → Type 0 where
  -- no TOC byte
  empty : p ≡ [] → Breaks sd p R1 0
  -- a frame longer than 1275 bytes: the last one, which takes the rest, or each of those that share it
  implied : (ns u : List ℕ) (place : ℕ) → sd ≡ false → Place p ns place u → nb_frames p ≡ Ok (suc (length ns))
      → most_bytes < length u - total ns
      → Breaks sd p R2 place
  shared : (count : ℕ) (u : List ℕ) (place : ℕ) → sd ≡ false → Place p [] place u → nb_frames p ≡ Ok count → most_bytes < length u / count
      → Breaks sd p R2 place
  -- two equal frames in an odd rest
  odd : sd ≡ false → code (get_or p 0 0) ≡ 1 → ((length p - 1) % 2 ≡ 0 → ⊥) → Breaks sd p R3 0
  -- the one length of code 2
  first : code (get_or p 0 0) ≡ 2 → Cramped (λ n. n) (drop 1 p) → Breaks sd p R4 1
  -- no count byte; a count of 0, or frames that last longer than 120 ms
  uncounted : code (get_or p 0 0) ≡ 3 → length p ≡ 1 → Breaks sd p R5 1
  long : code (get_or p 0 0) ≡ 3 → (Lasts (upper_six (get_or p 0 0)) (get_or p 1 0 % 64) → ⊥) → Breaks sd p R5 1
  -- code 3 with equal lengths: padding that does not fit, or a rest that does not divide
  equal_padding : code (get_or p 0 0) ≡ 3 → get_or p 1 0 / 128 % 2 ≡ 0 → Unpaddable (drop 2 p) → Breaks sd p R6 2
  undivided : (u : List ℕ) (place : ℕ) → sd ≡ false → code (get_or p 0 0) ≡ 3 → get_or p 1 0 / 128 % 2 ≡ 0 → Place p [] place u
      → (length u % (get_or p 1 0 % 64) ≡ 0 → ⊥) → Breaks sd p R6 place
  -- code 3 with unequal lengths: padding that does not fit; a length of those before the last frame's; or all of them, only together
  unequal_padding : code (get_or p 0 0) ≡ 3 → (get_or p 1 0 / 128 % 2 ≡ 0 → ⊥) → Unpaddable (drop 2 p) → Breaks sd p R7 2
  one : (ns u : List ℕ) (place : ℕ) → code (get_or p 0 0) ≡ 3 → (get_or p 1 0 / 128 % 2 ≡ 0 → ⊥) → Place p ns place u
      → suc (length ns) < get_or p 1 0 % 64 → Cramped (λ n. n) u → Breaks sd p R7 place
  together : (ns u : List ℕ) (place : ℕ) → code (get_or p 0 0) ≡ 3 → (get_or p 1 0 / 128 % 2 ≡ 0 → ⊥) → Place p ns place u
      → suc (length ns) ≡ get_or p 1 0 % 64 → length u < total ns → Breaks sd p R7 place
  -- appendix B: the last length, with those of the frames before it, or the one of all frames
  last : (ns u : List ℕ) (place : ℕ) → sd ≡ true → Place p ns place u → nb_frames p ≡ Ok (suc (length ns)) → Cramped (λ n. total ns + n) u
      → Breaks sd p R8 place
  each : (count : ℕ) (u : List ℕ) (place : ℕ) → sd ≡ true → Place p [] place u → nb_frames p ≡ Ok count → Cramped (λ n. count * n) u
      → Breaks sd p R8 place
