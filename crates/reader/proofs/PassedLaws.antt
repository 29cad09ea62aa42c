-- An error that a `?` passes on.
--   passed-on              what is handed out is the error that was met, as the error type of the function has it
use mathlib.Core.Path.{◌≡◌, ap, ◌∙◌}
use Rattle.std.specs.Prelude.{Result, Err}
use Rattle.std.specs.Result.{IsErrAnd}
use Rattle.std.proofs.lemmas.Result.{err_from_is_err_and}

pub passed-on : {T E : Type 0} (r : Result T E) (e : E) → IsErrAnd r (λ y. y ≡ e) → r ≡ Err e
passed-on r e h =
    let p = err_from_is_err_and r h in
    p.1 ∙ ap Err p.2
