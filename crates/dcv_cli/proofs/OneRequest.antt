-- Words ask for one thing.
use Rattle.dcv_cli.proofs.Common.{◌≡◌, ℕ, List, Some, sym, ◌∙◌, Request, AsksFor}

some_same : (r s : Request) → Some r ≡ Some s → r ≡ s
some_same r s e = cc

pub one_request : (words : List (List ℕ)) (r s : Request) → AsksFor words r → AsksFor words s → r ≡ s
one_request words r s asks asks' = some_same r s (sym asks.asked ∙ asks'.asked)
