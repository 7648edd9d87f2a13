-- What a `?` returns.
--   passed_on          the error of the call, as it is
use mathlib.Core.Path.{◌≡◌, ap}
use Rattle.std.specs.Prelude.{Result, Ok, Err, IsErrAnd}

pub passed_on : {A E : Type 0} (r : Result A E) {e : E} → IsErrAnd r (λ x. x ≡ e) → r ≡ Err e
passed_on (Ok x) q = absurd q
passed_on (Err x) q = ap Err q
