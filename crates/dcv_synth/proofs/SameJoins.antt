-- A controller that answers as another one does wins where that one wins.
use Rattle.std.proofs.Common.{◌≡◌, ℕ, Bool, List, [], ◌∷◌, ◌++◌, length, refl, ap, ◌∙◌, arith}
use Rattle.std.specs.List.{AllByRecursion}
use Rattle.std.proofs.lemmas.List.{length_push}
use Rattle.std.proofs.lemmas.List.Elements.{recursion_from_All, All-from_recursion}
use Rattle.dcv_word.specs.Behaviour.{Word, IsBehaviour}
use Rattle.dcv_language.specs.Language.{Language}
use Rattle.dcv_synth.specs.Game.{Controller, joined_after, Wins}

module _ (n m : ℕ) (one other : Controller) (agree : (inputs : Word) → IsBehaviour n inputs → one inputs ≡ other inputs) where
  abbrev Wide : List Bool → Type 0
  Wide letter = length letter ≡ n

  widths_more : (before : Word) (input : List Bool) → AllByRecursion Wide before → Wide input → AllByRecursion Wide (before ++ input ∷ [])
  widths_more [] input widths width = (width, tt)
  widths_more (letter ∷ before) input widths width = (widths.0, widths_more before input widths.1 width)

  joined_so : (before inputs : Word) → AllByRecursion Wide before → AllByRecursion Wide inputs → joined_after one before inputs ≡ joined_after other before inputs
  joined_so before [] widths wide = refl
  joined_so before (input ∷ inputs) widths wide =
      let so_far = before ++ input ∷ [] in
      let more = widths_more before input widths wide.0 in
      let same = agree so_far (record { nonempty = omega (arith, length_push before input); widths = All-from_recursion Wide so_far more }) in
      λ i. (input ++ same i) ∷ joined_so so_far inputs more wide.1 i

  pub wins_so : (L : Language) → Wins n m L other → Wins n m L one
  wins_so L wins =
      record {
        width = λ inputs behaviour. ap length (agree inputs behaviour) ∙ wins.width inputs behaviour;
        wins = λ inputs behaviour. ap L (joined_so [] inputs tt (recursion_from_All Wide inputs behaviour.widths)) ∙ wins.wins inputs behaviour;
      }
