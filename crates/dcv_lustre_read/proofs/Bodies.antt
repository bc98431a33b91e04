-- Bodies in steps.
use Rattle.std.proofs.Common.{◌≡◌, List, [], ◌∷◌, Option, refl}
use Rattle.dcv_lexer.specs.Cuts.{Token}
use Rattle.dcv_lustre.specs.Actions.{Part, AToken, Compared, Choice, choice_part, right_part}
use Rattle.dcv_lustre_read.specs.Taken.{behind_condition, chosen}

pub choice_in_steps : (name : Token) (number : Option Token) (parts : List Part) → choice_part (Compared name number ∷ parts) ≡ behind_condition name number parts
choice_in_steps name number (AToken item ∷ Choice arms otherwise ∷ []) = refl
choice_in_steps name number _ = refl

pub right_in_steps : (name : Token) (number : Option Token) (parts : List Part) → right_part (Compared name number ∷ parts) ≡ chosen (behind_condition name number parts)
right_in_steps name number (AToken item ∷ Choice arms otherwise ∷ []) = refl
right_in_steps name number _ = refl
