-- A fault that `?` hands on is the callee's.
use Rattle.std.proofs.Common.{◌≡◌, Result, Ok, Err, IfErr, IsErrAnd, sym, subst}
use Rattle.std.proofs.lemmas.Result.{IfErr-at_err}

pub handed_on : {T U E : Type 0} (P : E → Type 0) (result : Result T E) (own : E) (returned : Result U E) → IfErr result P → result ≡ Err own
    → IsErrAnd returned (λ given. given ≡ own) → IfErr returned P
handed_on P result own (Ok value) holds was same = tt
handed_on P result own (Err given) holds was same = subst P (sym same) (IfErr-at_err P was holds)
