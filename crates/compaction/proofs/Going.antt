-- A share on its way: what is done up to a place, and that the share from there on, with what is left of the budget, is the rest of it.
--     same_long          the destination is as long as it was
--     begun              nothing is done
--     taken              the next record is done
--     ended              the next answer is not done, and the share stops there
-- Assumes nothing.
use Prim.Native.Nat.{ℕ, ◌+◌, ◌-◌, ◌≤◌}
use native.Mathlib.Nat.{add-zero, sub-zero}
use native.Mathlib.Omega.{arith}
use mathlib.Core.Path.{◌≡◌, refl, sym, ap, ◌∙◌}
use mathlib.Core.List.{List, [], ◌∷◌, ◌++◌, append-nil, append_assoc, map}
use mathlib.Core.Bool.{false}
use lib.ListN.{length, length-append}
use lib.Seq.{sets, length-sets}
use Rattle.blocks.proofs.Sets.{sets-append}
use Rattle.capture.specs.Records.{written}
use Rattle.capture.specs.Finding.{next_record}
use Rattle.capture.specs.Reading.{behind, readings, entry_of, entries}
use Rattle.capture.specs.declared.NextRecord.{NextRecord}
use Rattle.capture.proofs.Files.{file_none, file_one}
use Rattle.capture.proofs.Answers.{found, next_place, next_passed, next-within, next_moves}
use Rattle.compaction.specs.Account.{rewritten, size, output, Account, counting, account}
use Rattle.compaction.specs.Share.{fits, done, stop, accounted}
use Rattle.compaction.specs.Parts.{stops_at}
use Rattle.compaction.proofs.Entries.{size-written, next-size}
use Rattle.compaction.proofs.Steps.{stops, goes}

-- ---- accounts
-- with so much more in front
abbrev pub adding : ℕ → ℕ → ℕ → ℕ → Account → Account
adding r w c p k =
    record { records = r + k.records; written = w + k.written; reclaimed = c + k.reclaimed; passed = p + k.passed }

pub same-account : {r w c p r' w' c' p' : ℕ} → r ≡ r' → w ≡ w' → c ≡ c' → p ≡ p'
    → ◌≡◌ {A = Account} (record { records = r; written = w; reclaimed = c; passed = p })
    (record { records = r'; written = w'; reclaimed = c'; passed = p' })
same-account a b c d = rw (a, b, c, d)

adding-none : (k : Account) → k ≡ adding 0 0 0 0 k
adding-none k = same-account (omega arith) (omega arith) (omega arith) (omega arith)

adding_one : (s : List ℕ) (a : NextRecord) (r w c p : ℕ) (k : Account)
    → adding r w c p (counting s a k) ≡ adding (r + 1) (w + size s a) (c + (5 + a.length - size s a)) (p + a.passed) k
adding_one s a r w c p k = same-account (omega arith) (omega arith) (omega arith) (omega arith)

-- ---- the bytes of records done
pub output-none : (s : List ℕ) → output s [] ≡ []
output-none s = file_none

pub output_one : (s : List ℕ) (a : NextRecord) (ds : List NextRecord) → output s (a ∷ ds) ≡ written (rewritten (entry_of s a)) ++ output s ds
output_one s a ds = file_one (rewritten (entry_of s a)) (map rewritten (entries s ds))

-- ---- d was in the destination at first, and x is now; the records that end by `at` are done
pub record Going (s : List ℕ) (start budget : ℕ) (d x : List ℕ) (at records put passed : ℕ) : Type 0 where
  pub bytes : List ℕ
  pub reclaimed : ℕ
  pub inside : at ≤ length s
  pub few : records ≤ at
  pub room : put ≤ budget
  pub long : length bytes ≡ put
  pub spans : at ≡ start + (put + reclaimed + passed)
  pub same_stop : stop s budget (readings s start) ≡ stop s (budget - put) (readings s at)
  pub counts : (a : NextRecord) → account s a (done s budget (readings s start))
      ≡ adding records put reclaimed passed (account s a (done s (budget - put) (readings s at)))
  pub outputs : output s (done s budget (readings s start)) ≡ bytes ++ output s (done s (budget - put) (readings s at))
  pub lies : x ≡ sets d 0 bytes

pub same_long : {s : List ℕ} {start budget : ℕ} {d x : List ℕ} {at records put passed : ℕ} → Going s start budget d x at records put passed
    → length x ≡ length d
same_long {d = d} g = ap length g.lies ∙ length-sets d 0 g.bytes

pub begun : (s : List ℕ) (start budget : ℕ) (d : List ℕ) → start ≤ length s → Going s start budget d d start 0 0 0
begun s start budget d h =
    record {
      bytes = [];
      reclaimed = 0;
      inside = h;
      few = omega arith;
      room = omega arith;
      long = refl;
      spans = omega arith;
      same_stop = rw sub-zero;
      counts = λ a. rw sub-zero (adding-none (account s a (done s budget (readings s start))));
      outputs = rw sub-zero;
      lies = refl;
    }

module _ {s : List ℕ} {start budget : ℕ} {d x : List ℕ} {at records put passed : ℕ} (g : Going s start budget d x at records put passed) where
  abbrev a : NextRecord
  a = next_record s at

  abbrev one : List ℕ
  one = written (rewritten (entry_of s a))

  module _ (f : a.length ≡ 0 → ⊥) (fit : size s a ≤ budget - put) where
    more : List NextRecord
    more = done s (budget - (put + size s a)) (readings s (behind a))

    left_is : budget - put - size s a ≡ budget - (put + size s a)
    left_is = omega arith

    done_is : done s (budget - put) (readings s at) ≡ a ∷ more
    unfolding more
    done_is = rw left_is at (goes s at (budget - put) g.inside f fit).0

    pub taken : {y : List ℕ} → y ≡ sets x put one → Going s start budget d y (behind a) (records + 1) (put + size s a) (passed + a.passed)
    unfolding more account
    taken e =
        let h = g.inside in
        let place : 0 + length g.bytes ≡ put = omega (arith, g.long) in
        record {
          bytes = g.bytes ++ one;
          reclaimed = g.reclaimed + (5 + a.length - size s a);
          inside = next-within s at h f;
          few = omega (arith, g.few, next_moves s at h f);
          room = omega (arith, g.room);
          long = omega (arith, length-append g.bytes one, g.long, size-written (entry_of s a));
          spans = omega (arith, g.spans, (found s at f).next, next_place s at h, next_passed s at h, next-size s at h f);
          same_stop = g.same_stop ∙ rw left_is at (goes s at (budget - put) h f fit).1;
          counts = λ b. g.counts b ∙ rw done_is (adding_one s a records put g.reclaimed passed (account s b more));
          outputs = g.outputs ∙ rw (done_is, output_one s a more) (sym (append_assoc g.bytes one (output s more)));
          lies = e ∙ rw (g.lies, sets-append d 0 g.bytes one, place);
        }

  module _ (no : fits s (budget - put) a ≡ false) where
    none_done : done s (budget - put) (readings s at) ≡ []
    none_done = (stops s at (budget - put) g.inside no).0

    stop_is : stop s budget (readings s start) ≡ a
    stop_is = g.same_stop ∙ (stops s at (budget - put) g.inside no).1

    pub ended : let b = stop s budget (readings s start) in
        (stops_at start a.place records put (passed + a.passed) ≡ accounted b (account s b (done s budget (readings s start))))
        × (x ≡ sets d 0 (output s (done s budget (readings s start))))
    unfolding account
    ended =
        let back : g.reclaimed ≡ a.place - start - put - (passed + a.passed) =
        omega (arith, g.spans, next_place s at g.inside, next_passed s at g.inside) in
        let all : output s (done s budget (readings s start)) ≡ g.bytes = g.outputs ∙ rw (none_done, output-none s, append-nil) in
        (rw (stop_is, g.counts a, none_done, add-zero records, add-zero put, add-zero g.reclaimed, ← back), rw all g.lies)
