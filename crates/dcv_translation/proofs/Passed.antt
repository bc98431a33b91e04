-- The tokens that a machine has taken, one after another.
use Rattle.std.proofs.Common.{◌≡◌, ℕ, List, [], ◌∷◌, ◌++◌, map, Option, Some, None, refl, sym, ap, ◌∙◌, subst, append_assoc, append-nil}
use Rattle.std.specs.Prelude.{option_map, IfSome, Bool, true, false}
use Rattle.std.proofs.lemmas.List.{map-append}
use Rattle.dcv_grammar.specs.Grammar.{IsSentence, IsViable}
use Rattle.dcv_grammar.specs.Machine.{Follows}
use Rattle.dcv_grammar.specs.Predictive.{IsPredictive}
use Rattle.dcv_grammar.specs.Trees.{IsTree}
use Rattle.dcv_grammar.proofs.Steps.{follows_nothing, viable_so_far}
use Rattle.dcv_grammar.proofs.TreeLaws.{trees_derived}
use Rattle.dcv_lexer.specs.Cuts.{Token}
use Rattle.dcv_translation.specs.declared.machine.Step.{Step}
use Rattle.dcv_translation.specs.declared.machine.Step.TheVariants.{Rule}
use Rattle.dcv_translation.specs.Scheme.{Scheme, StandFor}
use Rattle.dcv_translation.specs.UnderWay.{symbols_of, IsUnderWay, Fits, IsReady, Takes}
use Rattle.dcv_translation.proofs.Running.{start_under_way, start_fits, one_part}

-- It has passed these tokens, with which a sentence may begin, and has made of them what their trees stand for.
pub record HasPassed {Part : Type 0} (scheme : Scheme Part) (steps : List Step) (parts : List Part) (passed : List Token) : Type 0 where
  pub follows : Follows scheme.grammar (map scheme.class passed) (symbols_of steps)
  pub fits : Fits scheme steps parts
  pub goes : (more : List Token) (all : List Part) → IsUnderWay scheme (Rule scheme.grammar.start ∷ []) [] (passed ++ more) all → IsUnderWay scheme steps parts more all

module _ {Part : Type 0} (scheme : Scheme Part) where
  pub none_passed : (steps : List Step) (parts : List Part) → steps ≡ Rule scheme.grammar.start ∷ [] → parts ≡ [] → HasPassed scheme steps parts []
  none_passed steps parts start none =
      subst (λ (at : List Step × List Part). HasPassed scheme at.0 at.1 []) (λ i. (sym start i, sym none i)) (record {
        follows = follows_nothing scheme.grammar;
        fits = start_fits scheme scheme.grammar.start;
        goes = λ more all under. under;
      })

  module _ (steps : List Step) (parts : List Part) (passed : List Token) (has : HasPassed scheme steps parts passed) where
    pub ready : IsReady scheme steps parts
    ready = record { reached = has.follows.reached; fits = has.fits }

    pub some_begin : IsPredictive scheme.grammar → IsViable scheme.grammar (map scheme.class passed)
    some_begin p = viable_so_far scheme.grammar p (map scheme.class passed) (symbols_of steps) has.follows

    module _ (token : Token) (taken : Bool) (new_steps : List Step) (new_parts : List Part) (told : Takes scheme token taken steps parts new_steps new_parts) where
      pub refused : taken ≡ false → ¬ IsViable scheme.grammar (map scheme.class passed ++ scheme.class token ∷ [])
      refused is =
          let stuck = subst (λ b. Takes scheme token b steps parts new_steps new_parts) is told in
          stuck.none (map scheme.class passed) has.follows

      pub one_more : taken ≡ true → HasPassed scheme new_steps new_parts (passed ++ token ∷ [])
      one_more is =
          let past = subst (λ b. Takes scheme token b steps parts new_steps new_parts) is told in
          let one = token ∷ [] in
          record {
            follows = subst (λ l. Follows scheme.grammar l (symbols_of new_steps)) (sym (map-append scheme.class passed one))
                (past.follows (map scheme.class passed) has.follows);
            fits = past.fits;
            goes = λ more all under. past.goes more all
                (has.goes (token ∷ more) all (subst (λ l. IsUnderWay scheme (Rule scheme.grammar.start ∷ []) [] l all) (append_assoc passed one more) under));
          }

    -- what a sentence stands for
    record IsWhole : Type 0 where
      whole : Part
      stands : StandFor scheme passed whole
      under : IsUnderWay scheme steps parts [] (whole ∷ [])

    whole_of : IsSentence scheme.grammar (map scheme.class passed) → IsWhole
    whole_of sentence =
        let (tree, are, leaves_are) = trees_derived scheme.grammar scheme.class sentence passed refl in
        let is : IsTree scheme.grammar scheme.class passed tree = record { derived = are; whole = leaves_are } in
        let (whole, stands) = one_part scheme tree are in
        let under = start_under_way scheme passed tree is in
        record {
          whole = whole;
          stands = record { tree = tree; is = is; stands = stands };
          under = has.goes [] (whole ∷ []) (subst (λ (at : List Token × List Part). IsUnderWay scheme (Rule scheme.grammar.start ∷ []) [] at.0 at.1)
              (λ i. (sym (append-nil passed) i, stands i)) under);
        }

    module _ {Code : Type 0} (meaning : Code → Part) (found : Option Code)
        (tells : (whole : Part) → IsUnderWay scheme steps parts [] (whole ∷ []) → option_map meaning found ≡ Some whole) where
      part_of_sentence : (part : Code) → found ≡ Some part → IsSentence scheme.grammar (map scheme.class passed) → StandFor scheme passed (meaning part)
      part_of_sentence part is sentence =
          let one = whole_of sentence in
          let both : Some (meaning part) ≡ Some one.whole = sym (ap (option_map meaning) is) ∙ tells one.whole one.under in
          let same : meaning part ≡ one.whole = cc in
          subst (StandFor scheme passed) (sym same) one.stands

      pub part_found : (part : Code) → found ≡ Some part
          → IfSome found (λ _. (passed : List ℕ) → Follows scheme.grammar passed (symbols_of steps) → IsSentence scheme.grammar passed)
          → StandFor scheme passed (meaning part)
      part_found part is ended =
          let sentence : (passed : List ℕ) → Follows scheme.grammar passed (symbols_of steps) → IsSentence scheme.grammar passed =
          subst (λ o. IfSome o (λ _. (passed : List ℕ) → Follows scheme.grammar passed (symbols_of steps) → IsSentence scheme.grammar passed)) is ended in
          part_of_sentence part is (sentence (map scheme.class passed) has.follows)

      pub no_sentence : found ≡ None → ¬ IsSentence scheme.grammar (map scheme.class passed)
      no_sentence is sentence =
          let one = whole_of sentence in
          let both : None ≡ Some one.whole = sym (ap (option_map meaning) is) ∙ tells one.whole one.under in
          cc
