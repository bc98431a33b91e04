-- The laws that `src/laws.rt` proves, of the form of an automaton's text.
use Rattle.std.specs.Prelude.{◌≡◌, ℕ, List, ◌⊎◌}
use Rattle.dcv_automaton_text.specs.File.{AutomatonFile}
use Rattle.dcv_automaton_text.specs.Form.{HasForm, IsSyntaxFault}

-- each text has the form, or a syntax fault
abbrev pub FormOrFault : Type 0
FormOrFault = (text : List ℕ) → ((at : ℕ) × IsSyntaxFault text at) ⊎ ((file : AutomatonFile) × HasForm text file)

-- and not both
abbrev pub NoFaultOfForm : Type 0
NoFaultOfForm = (text : List ℕ) (file : AutomatonFile) (at : ℕ) → HasForm text file → IsSyntaxFault text at → ⊥

-- and one fault at most
abbrev pub OneSyntaxFault : Type 0
OneSyntaxFault = (text : List ℕ) (at other : ℕ) → IsSyntaxFault text at → IsSyntaxFault text other → at ≡ other
