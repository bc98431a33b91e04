-- Searches over lists of truths.
--     each_track n p      each list of n truths has p
--     least_track n p     the least that has p in the letters' order, where some has
use Rattle.std.specs.Prelude.{ℕ, zero, suc, Bool, true, false, ◌&&◌, if◌then◌else◌, List, [], ◌∷◌}
use Rattle.dcv_language.specs.Operations.{some_track}

abbrev pub each_track : ℕ → (List Bool → Bool) → Bool
each_track zero p = p []
each_track (suc n) p = each_track n (λ track. p (false ∷ track)) && each_track n (λ track. p (true ∷ track))

-- where none has p, all are true
abbrev pub least_track : ℕ → (List Bool → Bool) → List Bool
least_track zero p = []
least_track (suc n) p =
    if some_track n (λ track. p (false ∷ track)) then false ∷ least_track n (λ track. p (false ∷ track))
    else true ∷ least_track n (λ track. p (true ∷ track))
