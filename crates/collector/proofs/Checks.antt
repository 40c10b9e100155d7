-- A collector as one pass over its lengths and numbers finds it.
--     headed                               a collector is its head, its lengths and its numbers
--     some_sound, none_unsound, ..         what was found
--     held_wrong, held_right, told-..      the lengths and numbers of frames, by one pass and by words
--     fits-.., front-..                    the tests of a head, and what it says alone
--     known_checked, Look, look            what is known by the head, and what is left to look at
-- Assumes nothing.
use Rattle.std.proofs.Common.{◌≡◌, ℕ, ◌*◌, ◌%◌, ◌<◌, ◌≤◌, Bool, true, false, eqb, leb, List, length, take, sym, ◌∙◌, arith, length-take, eq-eqb, ne_eqb}
use Rattle.std.proofs.Common.{eqb-true, le-leb, leb-true}
use borrow.Author.Tests.{lt-leb, eqb-false}
use Rattle.laws.proofs.Never.{never, by_test}
use Rattle.laws.proofs.Every.{both_left}
use Rattle.opus_size.specs.Size.{most_bytes}
use Rattle.opus_toc.specs.Toc.{configuration, samples}
use Rattle.opus_format.specs.Frames.{total, longest}
use Rattle.opus_format.proofs.Counts.{lasts_few}
use Rattle.opus_format.proofs.Lengths.{total_most}
use Rattle.packet_numbers.specs.Numbers.{numbered, kept_well, told}
use Rattle.collector.specs.declared.OpusRepacketizer.{OpusRepacketizer}
use Rattle.collector.specs.declared.Head.{Head}
use Rattle.std.specs.Prelude.{Option, Some, None, is_some}
use Rattle.collector.specs.declared.Front.TheVariants.{Known, Held}
use Rattle.collector.specs.Collector.{held_lengths, sound}
use Rattle.collector.specs.Parts.{head_of, collector_of, head_fits, front_of, checked_held, checked}
use Rattle.collector.proofs.Counts.{sum_small}
use Rattle.collector.proofs.Sound.{timed_lasts, none-sound, unfit_unsound, fit_kept, fit_timed}

pub headed : (rp : OpusRepacketizer) (h : Head) → h ≡ head_of rp → collector_of h rp.len rp.packet ≡ rp
headed rp h e = rw e

-- ---- what was found
module _ (rp : OpusRepacketizer) (c : Option ℕ) (e : c ≡ checked rp) where
  pub some_sound : {t : ℕ} → c ≡ Some t → (sound rp ≡ true) × (t ≡ total (held_lengths rp))
  unfolding checked
  some_sound {t} v =
      by_test (sound rp) (λ s. let w : Some t ≡ Some (total (held_lengths rp)) = rw s at (sym v ∙ e) in (s, cc))
      (λ s. never (let w : Some t ≡ None = rw s at (sym v ∙ e) in cc))

  pub none_unsound : c ≡ None → sound rp ≡ false
  unfolding checked
  none_unsound v = by_test (sound rp) (λ s. never (let w : None ≡ Some (total (held_lengths rp)) = rw s at (sym v ∙ e) in cc)) (λ s. s)

  pub is_some-sound : is_some c ≡ sound rp
  unfolding checked
  is_some-sound = by_test (sound rp) (λ s. rw (e, s)) (λ s. rw (e, s))

-- ---- the lengths and numbers of frames
module _ (ns ks : List ℕ) (wrong : ℕ) (w : leb wrong 1 ≡ kept_well ns ks) where
  pub held_wrong : 1 < wrong → None ≡ checked_held ns ks
  held_wrong h = rw (sym w ∙ lt-leb wrong 1 h)

  pub held_right : wrong ≤ 1 → length ns ≤ 48 → {sum k : ℕ} → sum ≡ total ns % 65536 → k ≡ sum
      → Some k ≡ checked_held ns ks
  held_right h few s q =
      let well : kept_well ns ks ≡ true = sym w ∙ le-leb wrong 1 h in
      let small = leb-true (longest ns) most_bytes (both_left (leb (longest ns) most_bytes) (numbered ks) well) in
      rw (well, q ∙ (s ∙ sum_small ns few small))

-- those of n frames, told by words
module _ (n : ℕ) (few : n ≤ 48) (len packet : List ℕ) (t : ℕ) (e : t ≡ told (take n len) (take n packet)) where
  abbrev well : Bool
  well = kept_well (take n len) (take n packet)

  sum_told : well ≡ true → total (take n len) < 65535
  sum_told w =
      let small = leb-true (longest (take n len)) most_bytes (both_left (leb (longest (take n len)) most_bytes) (numbered (take n packet)) w) in
      omega (arith, total_most (take n len) small, length-take n len)

  pub told_unsound : t ≡ 65535 → None ≡ checked_held (take n len) (take n packet)
  told_unsound q =
      by_test well (λ w. let is : t ≡ total (take n len) = rw w at e in absurd (omega (arith, is, q, sum_told w))) (λ w. rw w)

  pub told-sound : (t ≡ 65535 → ⊥) → Some t ≡ checked_held (take n len) (take n packet)
  told-sound m =
      by_test well (λ w. let is : t ≡ total (take n len) = rw w at e in rw (w, is)) (λ w. let is : t ≡ 65535 = rw w at e in absurd (m is))

-- ---- whether a head fits
module _ (h : Head) (each : ℕ) (e : each ≡ samples 8000 (configuration h.toc)) where
  pub fits_other : (h.framesize.0 ≡ each → ⊥) → false ≡ head_fits h
  fits_other n = rw (← e, ne_eqb h.framesize.0 each n)

  pub fits-time : h.framesize.0 ≡ each → {b : Bool} → b ≡ leb (h.nb_frames * each) 960 → b ≡ head_fits h
  fits-time f q = rw (← e, eq-eqb h.framesize.0 each f, f) q

-- ---- a head and what it says alone
module _ (h : Head) (n : ℕ) (e : n ≡ h.nb_frames) where
  pub front-none : n ≡ 0 → Known (Some 0) ≡ front_of h
  front-none z = rw (eq-eqb h.nb_frames 0 (sym e ∙ z))

  module _ (z : n ≡ 0 → ⊥) where
    pub front_unfit : head_fits h ≡ false → Known None ≡ front_of h
    front_unfit f = rw (ne_eqb h.nb_frames 0 (λ y. z (e ∙ y)), f)

    pub front-held : head_fits h ≡ true → Held n ≡ front_of h
    front-held f = rw (ne_eqb h.nb_frames 0 (λ y. z (e ∙ y)), f, e)

-- ---- the collector by its head
module _ (h : Head) (len packet : List ℕ) where
  abbrev rp : OpusRepacketizer
  rp = collector_of h len packet

  none-checked : h.nb_frames ≡ 0 → Some 0 ≡ checked rp
  unfolding checked
  none-checked z = rw (none-sound rp z, z)

  unfit_checked : (h.nb_frames ≡ 0 → ⊥) → head_fits h ≡ false → None ≡ checked rp
  unfolding checked
  unfit_checked z w = rw (unfit_unsound rp z w)

  pub known_checked : {c : Option ℕ} → Known c ≡ front_of h → c ≡ checked rp
  known_checked {c} q =
      by_test (eqb h.nb_frames 0)
      (λ t. let g = rw t at q in let is : c ≡ Some 0 = cc in is ∙ none-checked (eqb-true h.nb_frames 0 t))
      (λ t. by_test (head_fits h) (λ f. never (let g = rw (t, f) at q in cc))
      (λ f. let g = rw (t, f) at q in let is : c ≡ None = cc in is ∙ unfit_checked (eqb-false h.nb_frames 0 t) f))

  -- what is left to look at: the lengths and numbers of n frames, which are within the arrays
  pub record Look (n : ℕ) : Type 0 where
    pub some : 1 ≤ n
    pub few : h.toc < 256 → n ≤ 48
    pub all : {c : Option ℕ} → c ≡ checked_held (take n len) (take n packet) → c ≡ checked rp

  fits_look : (h.nb_frames ≡ 0 → ⊥) → head_fits h ≡ true → Look h.nb_frames
  unfolding checked
  fits_look z t =
      record { some = omega arith; few = λ b. lasts_few (timed_lasts b (omega arith) (fit_timed h t)); all = λ q. q ∙ rw (fit_kept rp z t) }

  pub look : (n : ℕ) → Held n ≡ front_of h → Look n
  look n q =
      by_test (eqb h.nb_frames 0) (λ t. never (let g = rw t at q in cc))
      (λ t. by_test (head_fits h)
      (λ f. let g = rw (t, f) at q in let is : n ≡ h.nb_frames = cc in rw is (fits_look (eqb-false h.nb_frames 0 t) f))
      (λ f. never (let g = rw (t, f) at q in cc)))
