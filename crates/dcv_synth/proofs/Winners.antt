-- No environment beats a controller that wins: their play is the word that it makes of the inputs that are played.
use Rattle.std.proofs.Common.{◌≡◌, ℕ, zero, suc, ◌<◌, Bool, List, [], ◌∷◌, ◌++◌, length, refl, ap, sym, ◌∙◌, arith}
use Rattle.std.proofs.lemmas.Bool.{true≢false}
use Rattle.dcv_word.specs.Behaviour.{Word, IsBehaviour}
use Rattle.dcv_language.proofs.Behaviours.{Widths, Widths-cons}
use Rattle.dcv_synth.specs.Game.{Controller, Environment, joined_after, play_after}
use Rattle.dcv_synth.specs.Laws.{WinnersAreNotBeaten}

abbrev inputs_after : Environment → Controller → List (List Bool) → Word → ℕ → List (List Bool)
inputs_after environment controller before letters zero = []
inputs_after environment controller before letters (suc count) =
    let so_far = before ++ environment letters ∷ [] in
    environment letters ∷ inputs_after environment controller so_far (letters ++ (environment letters ++ controller so_far) ∷ []) count

play_is_joined : (environment : Environment) (controller : Controller) (before : List (List Bool)) (letters : Word) (count : ℕ)
    → play_after environment controller before letters count ≡ joined_after controller before (inputs_after environment controller before letters count)
play_is_joined environment controller before letters zero = refl
play_is_joined environment controller before letters (suc count) =
    let so_far = before ++ environment letters ∷ [] in
    let letter = environment letters ++ controller so_far in
    ap (λ rest. letter ∷ rest) (play_is_joined environment controller so_far (letters ++ letter ∷ []) count)

inputs-widths : (n : ℕ) (environment : Environment) (controller : Controller) (before : List (List Bool)) (letters : Word) (count : ℕ)
    → ((word : Word) → length (environment word) ≡ n) → Widths n (inputs_after environment controller before letters count)
inputs-widths n environment controller before letters zero w = λ i d h. absurd (omega (arith, h))
inputs-widths n environment controller before letters (suc count) w =
    let so_far = before ++ environment letters ∷ [] in
    let letter = environment letters ++ controller so_far in
    Widths-cons n (environment letters) (inputs_after environment controller so_far (letters ++ letter ∷ []) count) (w letters)
    (inputs-widths n environment controller so_far (letters ++ letter ∷ []) count w)

inputs-behave : (n : ℕ) (environment : Environment) (controller : Controller) (count : ℕ)
    → ((word : Word) → length (environment word) ≡ n) → 0 < count → IsBehaviour n (inputs_after environment controller [] [] count)
inputs-behave n environment controller zero w some = absurd (omega arith)
inputs-behave n environment controller (suc count) w some = record { nonempty = omega arith; widths = inputs-widths n environment controller [] [] (suc count) w }

pub winners_are_not_beaten : WinnersAreNotBeaten
winners_are_not_beaten n m L controller environment bound wins beats =
    let beaten = beats.beats controller wins.width in
    let inputs = inputs_after environment controller [] [] beaten.count in
    true≢false (sym (wins.wins inputs (inputs-behave n environment controller beaten.count beats.width beaten.some))
    ∙ sym (ap L (play_is_joined environment controller [] [] beaten.count)) ∙ beaten.outside)
