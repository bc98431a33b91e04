-- Worked examples, by computing. Over the input a and the output b: a table for `[[a <=> b]]`, and one for b saying what a will be.
use Rattle.std.proofs.Common.{◌≡◌, ℕ, zero, suc, Bool, true, false, List, [], ◌∷◌, refl}
use Rattle.dcv_language.specs.Table.{Table, automaton_of}
use Rattle.dcv_synth.specs.Game.{joined}
use Rattle.dcv_synth.specs.Winning.{is_held, is_beaten, move_of, output_of}
use Rattle.dcv_synth.specs.Play.{answer_of, controller_of}

abbrev O : List Bool
O = false ∷ []

abbrev I : List Bool
I = true ∷ []

copies : Table
copies = record { accepting = true; row = 0 ∷ 1 ∷ 1 ∷ 0 ∷ [] } ∷ record { accepting = false; row = 1 ∷ 1 ∷ 1 ∷ 1 ∷ [] } ∷ []

abbrev start_alone : ℕ → Bool
start_alone zero = true
start_alone (suc state) = false

-- the start is held by itself, and is never beaten; the output is the input
copies_is_won : (is_held 1 1 (automaton_of copies) start_alone 0 ≡ true) × (is_beaten 1 1 (automaton_of copies) 5 0 ≡ false) × (is_beaten 1 1 (automaton_of copies) 1 1 ≡ true)
    × (output_of 1 (automaton_of copies) start_alone 0 O ≡ O) × (output_of 1 (automaton_of copies) start_alone 0 I ≡ I)
unfolding copies
copies_is_won = (refl, refl, refl, refl, refl)

copies_joined : joined (controller_of 0 (answer_of 1 (automaton_of copies) start_alone)) (O ∷ I ∷ I ∷ []) ≡ (false ∷ false ∷ []) ∷ (true ∷ true ∷ []) ∷ (true ∷ true ∷ []) ∷ []
unfolding copies
copies_joined = refl

-- the output says what the input will be at the next instant: within two letters the environment shows it wrong
foretells : Table
foretells =
    record { accepting = false; row = 1 ∷ 2 ∷ 1 ∷ 2 ∷ [] }
    ∷ record { accepting = true; row = 1 ∷ 2 ∷ 3 ∷ 3 ∷ [] }
    ∷ record { accepting = false; row = 3 ∷ 3 ∷ 1 ∷ 2 ∷ [] }
    ∷ record { accepting = false; row = 3 ∷ 3 ∷ 3 ∷ 3 ∷ [] } ∷ []

foretells_is_lost : (is_beaten 1 1 (automaton_of foretells) 1 0 ≡ false) × (is_beaten 1 1 (automaton_of foretells) 2 0 ≡ true) × (is_beaten 1 1 (automaton_of foretells) 1 1 ≡ true)
    × (move_of 1 1 (automaton_of foretells) 2 0 ≡ O) × (move_of 1 1 (automaton_of foretells) 1 1 ≡ I)
unfolding foretells
foretells_is_lost = (refl, refl, refl, refl, refl)
