-- Grammars that the test passes or refuses.
use Rattle.std.specs.Prelude.{ℕ, zero, suc, ◌+◌, ◌%◌, ◌^◌, ◌==◌, max, if◌then◌else◌, List, [], ◌∷◌}
use Rattle.dcv_grammar.specs.declared.grammar.Symbol.{Symbol}
use Rattle.dcv_grammar.specs.declared.grammar.Symbol.TheVariants.{Class, Rule}
use Rattle.dcv_grammar.specs.Grammar.{Alternative, Production, ContextFree}

-- a body, and the one class that picks it
abbrev pub after : ℕ → List Symbol → Alternative
after class body = record { classes = class ∷ []; body = body }

-- Nested lists, with `(` as 0, `)` as 1, `,` as 2 and a name as 3:
-- item = "(" items ")" | name
abbrev pub item : Production
item = record { alternatives = after 0 (Class 0 ∷ Rule 1 ∷ Class 1 ∷ []) ∷ []; otherwise = Class 3 ∷ [] }

-- items = item more
abbrev pub items : Production
items = record { alternatives = []; otherwise = Rule 0 ∷ Rule 2 ∷ [] }

-- more = "," item more | nothing
abbrev pub more : Production
more = record { alternatives = after 2 (Class 2 ∷ Rule 0 ∷ Rule 2 ∷ []) ∷ []; otherwise = [] }

unfoldable pub lists : ContextFree
lists = record { start = 0; productions = item ∷ items ∷ more ∷ [] }

-- with a dangling else: statement = "if" statement rest | "other", rest = "else" statement | nothing
abbrev pub dangling_else : ContextFree
dangling_else =
    record {
      start = 0;
      productions =
          record { alternatives = after 0 (Class 0 ∷ Rule 0 ∷ Rule 1 ∷ []) ∷ []; otherwise = Class 2 ∷ [] }
          ∷ record { alternatives = after 1 (Class 1 ∷ Rule 0 ∷ []) ∷ []; otherwise = [] }
          ∷ [];
    }

-- with left recursion: sum = sum "+" name | name
abbrev pub left_recursion : ContextFree
left_recursion =
    record {
      start = 0;
      productions = record { alternatives = after 1 (Rule 0 ∷ Class 0 ∷ Class 1 ∷ []) ∷ []; otherwise = Class 1 ∷ [] } ∷ [];
    }

-- with two bodies that begin alike: call = name "(" ")" | name
abbrev pub common_beginning : ContextFree
common_beginning =
    record {
      start = 0;
      productions = record { alternatives = after 0 (Class 0 ∷ Class 1 ∷ Class 2 ∷ []) ∷ []; otherwise = Class 0 ∷ [] } ∷ [];
    }

-- with a rule that derives nothing at all: endless = name endless
abbrev pub endless : ContextFree
endless =
    record { start = 0; productions = record { alternatives = []; otherwise = Class 0 ∷ Rule 0 ∷ [] } ∷ [] }

-- with a rule that the table does not have
abbrev pub unknown_rule : ContextFree
unknown_rule =
    record { start = 0; productions = record { alternatives = []; otherwise = Class 0 ∷ Rule 1 ∷ [] } ∷ [] }

-- Levels of operators from a rule's number on, of which each binds closer than the one before; the last is a name or a group.
abbrev pub levels : ℕ → ℕ → List Production
levels zero first = record { alternatives = after 0 (Class 0 ∷ Rule 0 ∷ Class 1 ∷ []) ∷ []; otherwise = Class 2 ∷ [] } ∷ []
levels (suc count) first =
    record { alternatives = []; otherwise = Rule (first + 2) ∷ Rule (first + 1) ∷ [] }
    ∷ record { alternatives = after (first + 3) (Class (first + 3) ∷ Rule (first + 2) ∷ Rule (first + 1) ∷ []) ∷ []; otherwise = [] }
    ∷ levels count (first + 2)

abbrev pub thirty_levels : ContextFree
thirty_levels = record { start = 0; productions = levels 30 0 }
