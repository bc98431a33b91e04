-- Which macro a name stands for where several have it: the last, which sees those before it.
use Rattle.std.specs.Prelude.{◌≡◌, ◌≢◌, ℕ, List, ◌∷◌, ◌++◌}
use Rattle.std.specs.List.{AllByRecursion}
use Rattle.dcv_syntax.specs.declared.files.Macro.{Macro}

-- the last macro of this name, and those before it
pub record IsNewest (macros : List Macro) (sought : List ℕ) (last : Macro) (earlier : List Macro) : Type 0 where
  pub name : last.name.text ≡ sought
  pub later : (after : List Macro) × (macros ≡ earlier ++ last ∷ after)
      × AllByRecursion (λ (m : Macro). m.name.text ≢ sought) after
