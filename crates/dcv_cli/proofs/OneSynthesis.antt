-- One controller, or one strategy, is right for a file.
use Rattle.dcv_cli.proofs.Common.{◌≡◌, ℕ, ◌+◌, ◌-◌, List, ◌++◌, codes, length, sym, ap, ◌∙◌, subst, take, decimal, flat_map, PlainFile}
use Rattle.dcv_cli.proofs.Common.{models, Language, Table, automaton_of, line, text_of, IsUnrealisable, Outcome}
use Rattle.dcv_cli.proofs.Common.{controller_text, move_line, strategy_text, SaysController, SaysStrategy, IsSynthesis, Realisable}
use Rattle.dcv_cli.proofs.Common.{Unrealisable, IsSynthesisOf}
use Rattle.dcv_language.specs.Laws.{OneCanonicalTable}
use Rattle.dcv_automaton_file.specs.File.{texts_of}
use Rattle.dcv_synth.specs.Laws.{LeastLinesAreOne, NotBothAreRight, OneStrategyIsRight}
use Rattle.dcv_synth.specs.Least.{AreLeastLines}
use Rattle.dcv_synth.specs.Units.{ControlLines, unit_of_lines}
use Rattle.dcv_cli.proofs.OneCertificate.{same_outcome}

module _ (one_table : OneCanonicalTable) (one_list : LeastLinesAreOne) (one_strategy : OneStrategyIsRight) (not_both : NotBothAreRight) where
  module _ (n m : ℕ) (L : Language) (names : List (List ℕ)) where
    -- which controller is right, or which strategy, is a question of the one canonical table
    one_controller : (text other : List ℕ) → SaysController n m L names text → SaysController n m L names other → text ≡ other
    one_controller text other x y =
        let table = (one_table (n + m) L x.table y.table x.access y.access x.canonical y.canonical).0 in
        let least = subst (λ (table : Table). AreLeastLines n m (automaton_of table) names x.lines) table x.least in
        let lines = one_list names n m (automaton_of y.table) x.lines y.lines least y.least in
        x.says ∙ ap (λ (lines : ControlLines). controller_text (text_of (unit_of_lines lines))) lines ∙ sym y.says

    one_list_of_moves : (text other : List ℕ) → SaysStrategy n m L text → SaysStrategy n m L other → text ≡ other
    one_list_of_moves text other x y =
        let table = (one_table (n + m) L x.table y.table x.access y.access x.canonical y.canonical).0 in
        let least = subst (λ (table : Table). IsUnrealisable n m (automaton_of table) x.strategy) table x.least in
        let same = one_strategy n m (automaton_of y.table) x.strategy y.strategy least y.least in
        let says : strategy_text x.strategy ≡ strategy_text y.strategy =
        λ i. line (codes "unrealisable") ++ line (codes "bound " ++ decimal (same.0 i)) ++ flat_map move_line (same.1 i) ++ line (codes "end") in
        x.says ∙ says ∙ sym y.says

    not_both_are_said : (text other : List ℕ) → SaysController n m L names text → SaysStrategy n m L other → ⊥
    not_both_are_said text other x y =
        let table = (one_table (n + m) L x.table y.table x.access y.access x.canonical y.canonical).0 in
        not_both n m (automaton_of y.table) y.strategy (subst (λ (table : Table). AreLeastLines n m (automaton_of table) names x.lines) table x.least).realisable y.least

    one_synthesis : (a b : Outcome) → IsSynthesis n m L names a → IsSynthesis n m L names b → a ≡ b
    one_synthesis a b (Realisable x status message) (Realisable y status' message') =
        same_outcome a b (status ∙ sym status') (one_controller a.out b.out x y) (message ∙ sym message')
    one_synthesis a b (Realisable x status message) (Unrealisable y status' message') = absurd (not_both_are_said a.out b.out x y)
    one_synthesis a b (Unrealisable x status message) (Realisable y status' message') = absurd (not_both_are_said b.out a.out y x)
    one_synthesis a b (Unrealisable x status message) (Unrealisable y status' message') =
        same_outcome a b (status ∙ sym status') (one_list_of_moves a.out b.out x y) (message ∙ sym message')

  pub one_synthesis_of : (inputs : ℕ) (file : PlainFile) (a b : Outcome) → IsSynthesisOf inputs file a → IsSynthesisOf inputs file b → a ≡ b
  one_synthesis_of inputs file a b x y = one_synthesis inputs (length file.variables - inputs) (models file) (take inputs (texts_of file.variables)) a b x y
