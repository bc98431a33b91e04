-- Of which kind a part is.
use Rattle.dcv_c.specs.Actions.{Part, AToken, Tokens, AnAssignment, Assignments, AReset, Statements, ARight, Maybe, Compared, AReturned, ATest, Tests, AStep}

-- what owns nothing in code
abbrev pub AreWords : Part → Type 0
AreWords (AToken token) = Unit {0}
AreWords (AnAssignment assignment) = Unit {0}
AreWords (Maybe number) = Unit {0}
AreWords (Compared name number) = Unit {0}
AreWords (ATest test) = Unit {0}
AreWords _ = ⊥

abbrev pub IsToken : Part → Type 0
IsToken (AToken token) = Unit {0}
IsToken _ = ⊥

abbrev pub AreTokens : Part → Type 0
AreTokens (Tokens tokens) = Unit {0}
AreTokens _ = ⊥

abbrev pub AreAssignments : Part → Type 0
AreAssignments (Assignments assignments) = Unit {0}
AreAssignments _ = ⊥

abbrev pub AreStatements : Part → Type 0
AreStatements (Statements statements) = Unit {0}
AreStatements _ = ⊥

abbrev pub AreTests : Part → Type 0
AreTests (Tests tests) = Unit {0}
AreTests _ = ⊥

abbrev pub IsReset : Part → Type 0
IsReset (AReset name assignments end) = Unit {0}
IsReset _ = ⊥

abbrev pub IsRight : Part → Type 0
IsRight (ARight right) = Unit {0}
IsRight _ = ⊥

abbrev pub IsReturned : Part → Type 0
IsReturned (AReturned returned) = Unit {0}
IsReturned _ = ⊥

abbrev pub IsStep : Part → Type 0
IsStep (AStep name parameters locals statements returned) = Unit {0}
IsStep _ = ⊥
