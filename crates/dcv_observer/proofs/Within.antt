-- The loop over the items of a text.
use Rattle.std.proofs.Common.{◌≡◌, ℕ, List, [], ◌∷◌, ◌++◌, map, Option, Some, None, sym, ap, ◌∙◌, subst, append_assoc, append-nil}
use Rattle.std.specs.Prelude.{option_map, IfSome, Bool, true, false, length, Result, Ok, Err, IfErr}
use Rattle.std.specs.Result.{IsErrAnd}
use Rattle.dcv_grammar.specs.Grammar.{IsSentence, IsViable}
use Rattle.dcv_grammar.specs.Machine.{Follows}
use Rattle.dcv_grammar.specs.Predictive.{IsPredictive}
use Rattle.dcv_lexer.specs.Lexicon.{Lexicon}
use Rattle.dcv_lexer.specs.Cuts.{Token}
use Rattle.dcv_observer.specs.declared.fault.ObsFault.{ObsFault}
use Rattle.dcv_observer.specs.declared.items.Item.{Item}
use Rattle.dcv_observer.specs.declared.items.Items.{Items}
use Rattle.dcv_observer.specs.Classes.{class_of}
use Rattle.dcv_observer.specs.Items.{HasItems, IsSyntaxFault, token_class}
use Rattle.dcv_observer.specs.Left.{seen, left, lexicon_in, GivesOne}
use Rattle.dcv_observer.specs.Scheme.{Scheme, over, written, StandsFor}
use Rattle.dcv_observer.proofs.Faults.{fault_at_item, fault_at_end}
use Rattle.dcv_translation.specs.declared.machine.Step.{Step}
use Rattle.dcv_translation.specs.declared.machine.Step.TheVariants.{Rule}
use Rattle.dcv_translation.specs.Scheme as tokens
use Rattle.dcv_translation.specs.UnderWay.{symbols_of, IsUnderWay, IsReady, Takes}
use Rattle.dcv_translation.proofs.Passed as machine

-- It has passed these items, with which a sentence may begin, and has made of them what their trees stand for.
pub record IsWithin {Part : Type 0} (own : tokens.Scheme Part) (lexicon : Lexicon) (text : List ℕ) (steps : List Step) (parts : List Part) (items : Items) : Type 0 where
  pub same_lexicon : lexicon_in items ≡ lexicon
  pub passed : List Token
  pub has : HasItems lexicon text (passed ++ left items)
  pub machine : machine.HasPassed own steps parts passed

module _ {Part : Type 0} (own : tokens.Scheme Part) (lexicon : Lexicon) (classes : own.class ≡ token_class lexicon) (text : List ℕ) where
  abbrev scheme : Scheme Part
  scheme = written lexicon own

  same : own ≡ over scheme
  same = ap (λ (class : Token → ℕ). record own { class = class }) classes

  pub begun : (steps : List Step) (parts : List Part) (items : Items) → steps ≡ Rule own.grammar.start ∷ [] → parts ≡ []
      → lexicon_in items ≡ lexicon → HasItems lexicon text (left items) → IsWithin own lexicon text steps parts items
  begun steps parts items start none same_lexicon all = record {
    same_lexicon = same_lexicon;
    passed = [];
    has = all;
    machine = machine.none_passed own steps parts start none;
  }

  module _ (steps : List Step) (parts : List Part) (items : Items) (within : IsWithin own scheme.lexicon text steps parts items) where
    pub ready : IsReady own steps parts
    ready = machine.ready own steps parts within.passed within.machine

    some_begin : IsPredictive own.grammar → IsViable scheme.grammar (map (over scheme).class within.passed)
    some_begin p =
        subst (λ (s : tokens.Scheme Part). IsViable s.grammar (map s.class within.passed)) same (machine.some_begin own steps parts within.passed within.machine p)

    module _ (item : Item) (next : Items) (gives : GivesOne items item next) where
      pub class_is : item.class ≡ own.class (seen item)
      class_is =
          gives.class ∙ ap (λ l. class_of l item.bytes.now) within.same_lexicon ∙ ap (λ (s : tokens.Scheme Part). s.class (seen item)) (sym same)

      has_more : HasItems scheme.lexicon text (within.passed ++ seen item ∷ left next)
      has_more = subst (λ l. HasItems scheme.lexicon text (within.passed ++ l)) gives.gives within.has

      module _ (taken : Bool) (new_steps : List Step) (new_parts : List Part) (told : Takes own (seen item) taken steps parts new_steps new_parts) where
        pub item_refused : IsPredictive own.grammar → taken ≡ false → IsSyntaxFault scheme.lexicon scheme.grammar text item.start
        item_refused p refused =
            fault_at_item scheme.lexicon scheme.grammar text within.passed (seen item) (left next) has_more (some_begin p)
            (subst (λ (s : tokens.Scheme Part). ¬ IsViable s.grammar (map s.class within.passed ++ s.class (seen item) ∷ [])) same
            (machine.refused own steps parts within.passed within.machine (seen item) taken new_steps new_parts told refused))

        pub item_taken : taken ≡ true → IsWithin own scheme.lexicon text new_steps new_parts next
        item_taken kept = record {
          same_lexicon = gives.lexicon ∙ within.same_lexicon;
          passed = within.passed ++ seen item ∷ [];
          has = subst (HasItems scheme.lexicon text) (sym (append_assoc within.passed (seen item ∷ []) (left next))) has_more;
          machine = machine.one_more own steps parts within.passed within.machine (seen item) taken new_steps new_parts told kept;
        }

    -- no item is left
    module _ (none : left items ≡ []) where
      has_all : HasItems scheme.lexicon text within.passed
      has_all = subst (HasItems scheme.lexicon text) (ap (λ l. within.passed ++ l) none ∙ append-nil within.passed) within.has

      module _ {Code : Type 0} (meaning : Code → Part) (found : Option Code)
          (tells : (whole : Part) → IsUnderWay own steps parts [] (whole ∷ []) → option_map meaning found ≡ Some whole) where
        pub part_found : (part : Code) → found ≡ Some part
            → IfSome found (λ _. (passed : List ℕ) → Follows own.grammar passed (symbols_of steps) → IsSentence own.grammar passed)
            → StandsFor scheme text (meaning part)
        part_found part is ended =
            let one = subst (λ (s : tokens.Scheme Part). tokens.StandFor s within.passed (meaning part)) same
            (machine.part_found own steps parts within.passed within.machine meaning found tells part is ended) in
            record { items = within.passed; has = has_all; tree = one.tree; is = one.is; stands = one.stands }

        pub end_refused : IsPredictive own.grammar → found ≡ None → IsSyntaxFault scheme.lexicon scheme.grammar text (length text)
        end_refused p is =
            fault_at_end scheme.lexicon scheme.grammar text within.passed has_all (some_begin p)
            (subst (λ (s : tokens.Scheme Part). ¬ IsSentence s.grammar (map s.class within.passed)) same
            (machine.no_sentence own steps parts within.passed within.machine meaning found tells is))

-- a fault is handed on, told of the same lexicon by another name
pub handed_on : {U : Type 0} (P : Lexicon → ObsFault → Type 0) (own lexicon : Lexicon) → own ≡ lexicon → (fault : ObsFault) (returned : Result U ObsFault)
    → P own fault → IsErrAnd returned (λ given. given ≡ fault) → IfErr returned (P lexicon)
handed_on P own lexicon named fault (Ok value) is same = tt
handed_on P own lexicon named fault (Err given) is same = subst (P lexicon) (sym same) (subst (λ l. P l fault) named is)
