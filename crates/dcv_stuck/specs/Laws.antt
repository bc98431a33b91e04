-- The laws that `src/laws.rt` proves.
use Rattle.std.specs.Prelude.{◌≡◌, ◌↔◌, ℕ, List, Option}
use Rattle.dcv_word.specs.Behaviour.{Word}
use Rattle.dcv_language.specs.Canonical.{IsCanonical}
use Rattle.dcv_language.specs.Language.{Language, HaveSameBehaviours}
use Rattle.dcv_language.specs.Table.{Table}
use Rattle.dcv_stuck.specs.Stuck.{KeepsTo, IsNeverStuck, IsLeastStuckOf, GoesOnForEver}

-- a set with a canonical table has an answer
abbrev pub SomeLeastStuck : Type 0
SomeLeastStuck = (k : ℕ) (L : Language) (table : Table) (access : List Word) → IsCanonical k L table access
    → (least : Option Word) × IsLeastStuckOf k L least

-- and no set has two
abbrev pub OneLeastStuck : Type 0
OneLeastStuck = (k : ℕ) (L : Language) (one other : Option Word) → IsLeastStuckOf k L one → IsLeastStuckOf k L other → one ≡ other

-- it depends on the behaviours of the set alone
abbrev pub LeastStuckOfSameBehaviours : Type 0
LeastStuckOfSameBehaviours = (k : ℕ) (L M : Language) (least : Option Word) → HaveSameBehaviours k L M
    → IsLeastStuckOf k L least → IsLeastStuckOf k M least

-- no word is stuck exactly where each word that keeps to the set can go on for ever, the empty word too
abbrev pub NeverStuckGoesOn : Type 0
NeverStuckGoesOn = (k : ℕ) (L : Language) → (IsNeverStuck k L) ↔ ((word : Word) → KeepsTo k L word → GoesOnForEver k L word)
