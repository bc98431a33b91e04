-- Names that were asked for in turn.
use Rattle.std.proofs.Common.{ℕ, ◌+◌, List, [], ◌++◌, length, take, Option, Some, None, ap, sym, ◌∙◌, subst, append_assoc}
use Rattle.std.proofs.lemmas.List.{append-nil}
use Rattle.std.proofs.Math.Seq.{take-append-add}
use Rattle.dcv_io.specs.Asked.{Asks, AsksPrefix}

-- none
pub asks_none : (told : Option (List (List ℕ))) → Asks [] told told
asks_none None = tt
asks_none (Some names) = sym (append-nil names)

-- the first ones, and then the second
pub asks_in_turn : (old mid new : Option (List (List ℕ))) (first second : List (List ℕ)) → Asks first old mid → Asks second mid new → Asks (first ++ second) old new
asks_in_turn old mid None first second before now = tt
asks_in_turn old None (Some after) first second before now = absurd now
asks_in_turn None (Some middle) (Some after) first second before now = absurd before
asks_in_turn (Some start) (Some middle) (Some after) first second before now =
    now ∙ ap (λ names. names ++ second) before ∙ append_assoc start first second

-- no name yet
pub asks_no_prefix : (told : Option (List (List ℕ))) (names : List (List ℕ)) → AsksPrefix names told told
asks_no_prefix told names = (0, asks_none told)

-- the first ones, and then some of the second
pub asks_further : (old mid new : Option (List (List ℕ))) (first second : List (List ℕ)) → Asks first old mid → AsksPrefix second mid new → AsksPrefix (first ++ second) old new
asks_further old mid new first second before now = (
  length first + now.0,
  subst (λ (names : List (List ℕ)). Asks names old new) (sym (take-append-add first second now.0))
      (asks_in_turn old mid new first (take now.0 second) before now.1),
)
