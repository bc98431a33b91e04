-- The working machines of shifts: what each remembers, and its row.
use Rattle.std.specs.Prelude.{ℕ, Bool, true, false, List, if◌then◌else◌}
use Rattle.dcv_language.specs.Automaton.{WorkingMachine}

-- ---- T is what P was one instant before

-- before the first letter, after one without P, after one with P, and once T was something else
pub data BackState : Type 0 where
  BackStart : BackState
  BackZero : BackState
  BackOne : BackState
  BackDead : BackState

abbrev pub back_after : Bool → BackState
back_after holds = if holds then BackOne else BackZero

abbrev pub back_next : (P T : List Bool → Bool) → BackState → List Bool → BackState
back_next P T BackStart letter = if T letter then BackDead else back_after (P letter)
back_next P T BackZero letter = if T letter then BackDead else back_after (P letter)
back_next P T BackOne letter = if T letter then back_after (P letter) else BackDead
back_next P T BackDead letter = BackDead

abbrev pub back_accepting : BackState → Bool
back_accepting BackStart = false
back_accepting BackZero = true
back_accepting BackOne = true
back_accepting BackDead = false

abbrev pub back_machine : ℕ → (P T : List Bool → Bool) → WorkingMachine BackState
back_machine slots P T = record {
  slots = slots;
  automaton = record { start = BackStart; next = back_next P T; accepting = back_accepting };
}

-- ---- T is what P is one instant later

-- before the first letter, after one with T, which P at the next is owed to, after one without T, and once P was something else
pub data ForeState : Type 0 where
  ForeStart : ForeState
  ForeOwe : ForeState
  ForeFree : ForeState
  ForeDead : ForeState

abbrev pub fore_after : Bool → ForeState
fore_after holds = if holds then ForeOwe else ForeFree

abbrev pub fore_next : (P T : List Bool → Bool) → ForeState → List Bool → ForeState
fore_next P T ForeStart letter = fore_after (T letter)
fore_next P T ForeOwe letter = if P letter then fore_after (T letter) else ForeDead
fore_next P T ForeFree letter = if P letter then ForeDead else fore_after (T letter)
fore_next P T ForeDead letter = ForeDead

abbrev pub fore_accepting : ForeState → Bool
fore_accepting ForeStart = false
fore_accepting ForeOwe = false
fore_accepting ForeFree = true
fore_accepting ForeDead = false

abbrev pub fore_machine : ℕ → (P T : List Bool → Bool) → WorkingMachine ForeState
fore_machine slots P T = record {
  slots = slots;
  automaton = record { start = ForeStart; next = fore_next P T; accepting = fore_accepting };
}
