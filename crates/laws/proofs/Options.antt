-- What is known of an option or a result: behind a `?` at an option that was given an error by `ok_or`, and of one that is `Ok`.
-- Assumes nothing.
use mathlib.Core.Path.{◌≡◌, refl}
use Rattle.std.specs.Prelude.{Option, Some, None, Result, Ok, Err, IsOk}
use Rattle.std.specs.Option.{ok_or}
use Rattle.laws.proofs.Never.{never}

pub was_some : {A E : Type 0} (o : Option A) (e : E) {x : A} → ok_or o e ≡ Ok x → o ≡ Some x
was_some (Some y) e is = cc
was_some None e is = never (cc)

pub was_none : {A E : Type 0} (o : Option A) (e : E) {f : E} → ok_or o e ≡ Err f → (o ≡ None) × (e ≡ f)
was_none None e is = (refl, cc)
was_none (Some y) e is = never (cc)

pub is_ok-value : {A E : Type 0} (r : Result A E) → IsOk r → (x : A) × (r ≡ Ok x)
is_ok-value (Ok x) is = (x, refl)
is_ok-value (Err e) is = never (cc)
