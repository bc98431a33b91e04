-- Of which kind a part is, and what a choice stands for after its condition.
use Rattle.std.specs.Prelude.{List, [], ◌∷◌, Option}
use Rattle.dcv_lexer.specs.Cuts.{Token}
use Rattle.dcv_lustre.specs.Placed.{PlacedChosen}
use Rattle.dcv_lustre.specs.Actions.{Part, AToken, Tokens, ALocal, Locals, Equations, ARight, Maybe, Compared, Choice, ATest, Tests, Nothing, arm}

-- what owns nothing in code
abbrev pub AreWords : Part → Type 0
AreWords (AToken token) = Unit {0}
AreWords (ALocal local) = Unit {0}
AreWords (Maybe token) = Unit {0}
AreWords (Compared name number) = Unit {0}
AreWords (ATest test) = Unit {0}
AreWords _ = ⊥

abbrev pub IsToken : Part → Type 0
IsToken (AToken token) = Unit {0}
IsToken _ = ⊥

abbrev pub AreTokens : Part → Type 0
AreTokens (Tokens tokens) = Unit {0}
AreTokens _ = ⊥

abbrev pub AreLocals : Part → Type 0
AreLocals (Locals locals) = Unit {0}
AreLocals _ = ⊥

abbrev pub AreEquations : Part → Type 0
AreEquations (Equations equations) = Unit {0}
AreEquations _ = ⊥

abbrev pub AreTests : Part → Type 0
AreTests (Tests tests) = Unit {0}
AreTests _ = ⊥

-- ---- item, choice

abbrev pub behind_condition : Token → Option Token → List Part → Part
behind_condition name number (AToken item ∷ Choice arms otherwise ∷ []) = Choice (arm name number item ∷ arms) otherwise
behind_condition name number _ = Nothing

-- the right side that is such a choice
abbrev pub chosen : Part → Part
chosen (Choice arms otherwise) = ARight (PlacedChosen arms otherwise)
chosen _ = Nothing
