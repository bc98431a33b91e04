-- The behaviours that model a file.
use Rattle.std.specs.Prelude.{ℕ, ◌+◌, Bool, false, List, [], ◌∷◌, length, map}
use Rattle.dcv_syntax.specs.declared.names.Name.{Name}
use Rattle.dcv_syntax.specs.Plain.{PlainMacroBody, FormulaBody, PropBody, PlainMacro, PlainFile}
use Rattle.dcv_word.specs.Behaviour.{Word}
use Rattle.dcv_logic.specs.Track.{Track, slot_track}
use Rattle.dcv_logic.specs.Environment.{Environment, Meaning, PropMeaning, FormulaMeaning, bind_all}
use Rattle.dcv_logic.specs.Value.{value}
use Rattle.dcv_logic.specs.Satisfaction.{satisfies}

-- the declared variables from a slot on, with their tracks
abbrev pub declared_from : ℕ → List Name → Word → List (List ℕ × Track)
declared_from slot [] word = []
declared_from slot (name ∷ names) word = (name.text, slot_track word slot) ∷ declared_from (slot + 1) names word

-- what a body means where it sees this environment and its parameters
abbrev pub body_meaning : Environment → List (List ℕ) → PlainMacroBody → Meaning
-- define f(a, b) as D;
body_meaning env parameters (FormulaBody d) = FormulaMeaning (λ arguments b e. satisfies (bind_all env parameters arguments) d.kind b e)
-- prop m(a, b) as P;
body_meaning env parameters (PropBody p) = PropMeaning (λ arguments i. value (bind_all env parameters arguments) p.kind i)

-- A macro sees the declared variables, its own parameters and the macros before it.
abbrev pub macro_meaning : Environment → PlainMacro → Meaning
macro_meaning env m = body_meaning env (map (λ (p : Name). p.text) m.parameters) m.body

-- the environment with these macros, in order
abbrev pub with_macros : Environment → List PlainMacro → Environment
with_macros env [] = env
with_macros env (m ∷ macros) = with_macros (record env { macros = (m.name.text, macro_meaning env m) ∷ env.macros }) macros

-- what the goal sees over a word
abbrev pub goal_environment : PlainFile → Word → Environment
goal_environment file word =
    with_macros (record { instants = length word; tracks = declared_from 0 file.variables word; macros = [] }) file.macros

-- The goal holds on the whole of the word. The empty word is no behaviour.
abbrev pub models : PlainFile → Word → Bool
models file [] = false
models file (letter ∷ letters) =
    satisfies (goal_environment file (letter ∷ letters)) file.goal.formula.kind 0 (length letters)
