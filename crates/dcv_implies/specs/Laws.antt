-- The laws that `src/laws.rt` proves.
use Rattle.std.specs.Prelude.{◌↔◌, ℕ, None}
use Rattle.dcv_language.specs.Language.{Language, HaveSameBehaviours}
use Rattle.dcv_language.specs.Verdict.{IsLeastOf}
use Rattle.dcv_dfa.specs.Raw.{RawValue, raw_accepts}
use Rattle.dcv_dfa.specs.Auto.{IsAuto}
use Rattle.dcv_explore.specs.declared.explorer.Limits.{Limits}
use Rattle.dcv_build.specs.Budget.{IsAutomatonOf}
use Rattle.dcv_implies.specs.Comparison.{difference, IsIncluded, Answer, IsAnswer, AreAlike}

-- ---- sets in the place of automata

-- the answer depends on the behaviours of the sets alone
abbrev pub AnswerOfSameBehaviours : Type 0
AnswerOfSameBehaviours = (limits : Limits) (k : ℕ) (L M L' M' : Language) (answer : Answer)
    → HaveSameBehaviours k L L' → HaveSameBehaviours k M M' → IsAnswer limits k L M answer → IsAnswer limits k L' M' answer

-- what is answered of automata is answered of the sets that they are canonical for
abbrev pub AnswerOfAutomata : Type 0
AnswerOfAutomata = (limits : Limits) (k : ℕ) (L M : Language) (first second : RawValue) (answer : Answer)
    → IsAuto first → IsAuto second → IsAutomatonOf k L first → IsAutomatonOf k M second
    → IsAnswer limits first.arena.slots (raw_accepts first) (raw_accepts second) answer → IsAnswer limits k L M answer

-- ---- one answer

abbrev pub OneAnswer : Type 0
OneAnswer = (limits : Limits) (k : ℕ) (L M : Language) (one other : Answer)
    → IsAnswer limits k L M one → IsAnswer limits k L M other → AreAlike one other

-- ---- inclusion

abbrev pub NoneWhereIncluded : Type 0
NoneWhereIncluded = (k : ℕ) (L M : Language) → (IsLeastOf k (difference L M) None) ↔ (IsIncluded k L M)

abbrev pub IncludedBothWays : Type 0
IncludedBothWays = (k : ℕ) (L M : Language) → IsIncluded k L M → IsIncluded k M L → HaveSameBehaviours k L M
