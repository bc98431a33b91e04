-- The walk over listed words: each operand at its place, with all names of a list, and then each option by its name.
use Rattle.dcv_command.proofs.Common.{◌≡◌, ◌<◌, refl, sym, ap, ◌∙◌, subst, Bool, true, false, ℕ, List, [], ◌∷◌, ◌++◌, Some, arith}
use Rattle.dcv_command.proofs.Common.{length, map, not, ◌+◌, if◌then◌else◌}
use Rattle.dcv_command.proofs.Common.{AllByRecursion, bytes_eq, false_from_ne_true, bytes_eq-Decides, true≢false}
use Rattle.dcv_command.proofs.Common.{Row, Shape, Text, accepts}
use Rattle.dcv_command.proofs.Common.{Held, Walk, idle, is_false, both, append-nil}
use Rattle.dcv_command.proofs.Common.{IsOption, has_name, Argument, Form, Operand, Required, WithDefault, Of}
use Rattle.dcv_command.proofs.Common.{Value, FileName, FileNames, Number, Waiting, codes, has_row, positional}
use Rattle.std.proofs.ByRecursion.{All-weaker}
use Rattle.std.proofs.lemmas.Bool.{ltb-true, or_from, or_parts}
use Rattle.std.specs.Fmt.{decimal}
use Rattle.std.proofs.lemmas.List.{append_assoc, map-append}
use Rattle.std.proofs.lemmas.List.Folds.{list_any-append}
use Rattle.dcv_command.specs.Listed.{CanBeGiven, IsFileName, Values, are_distinct, if_operand, operand_words, option_words, words_of}
use Rattle.dcv_command.proofs.Arguments.{IfList, IfOperand, IsLookedUp, ListsAreLast, Numbered, built_shape, is_operand}
use Rattle.dcv_command.proofs.Arguments.{is_list, is_small, next_place, of_option, numbered, operands, parser}
use Rattle.dcv_command.proofs.NumberTexts.{HasNoDash, decimal_is_one, has_no_dash}
use Rattle.dcv_command.proofs.Rows.{given_row, one_is_read, read_of}
use Rattle.dcv_command.proofs.Walks.{Goes, Holds, Runs, at_end, flag_goes, given_by, going, has_given_row, holding, holds_more, holds_one, more}
use Rattle.dcv_command.proofs.Walks.{next_to, operand_goes, resting, value_goes}

-- ---- lists of arguments with different names

distinct_before : (done rest : List Argument) (one : Argument) → are_distinct (done ++ one ∷ rest) ≡ true → has_name one.id done ≡ false
distinct_before [] rest one apart = refl
distinct_before (first ∷ done) rest one apart =
    let parts = both (not (has_name first.id (done ++ one ∷ rest))) _ apart in
    let other : bytes_eq one.id first.id ≡ false =
    (or_parts (bytes_eq one.id first.id) _ (or_parts (has_name first.id done) _
    (sym (list_any-append (λ (other : Argument). bytes_eq other.id first.id) done (one ∷ rest)) ∙ is_false _ parts.0)).1).0 in
    or_from (bytes_eq first.id one.id) (has_name one.id done)
    (false_from_ne_true (bytes_eq first.id one.id) (λ same. true≢false
    (sym ((bytes_eq-Decides one.id first.id).1 (sym ((bytes_eq-Decides first.id one.id).0 same))) ∙ other)))
    (distinct_before done rest one parts.1)

-- ---- words that are given

-- a word that the walk takes for this value
abbrev Fits : Value → Text → Type 0
Fits value word = HasNoDash word × (accepts false (parser value) word ≡ true)

-- one word, or one at least for a list
abbrev AllFit : Value → Bool → List Text → Type 0
AllFit value list [] = ⊥
AllFit value true (word ∷ words) = Fits value word × AllByRecursion (Fits value) words
AllFit value false (word ∷ []) = Fits value word
AllFit value false (word ∷ other ∷ words) = ⊥

-- they are taken for the value, and stand for it
pub words_are : (value : Value) (given : Of value) → is_small value ≡ true → CanBeGiven value given
    → AllFit value (is_list value) (words_of value given) × (read_of value (words_of value given) ≡ Some given)
words_are FileName name small is = ((has_no_dash name is, refl), refl)
words_are FileNames [] small none = absurd none
words_are FileNames (name ∷ names) small (is, are) =
    (((has_no_dash name is, refl), All-weaker IsFileName (Fits FileNames) (λ name is. (has_no_dash name is, refl)) names are), refl)
words_are (Number least most) number small is =
    let text = decimal_is_one least most number (omega (arith, ltb-true most 18446744073709551616 small)) is in
    ((text.no_dash, text.fits), one_is_read (Number least most) (decimal number) text.fits ∙ ap Some text.value)

abbrev pub IsOperand : Form → Type 0
IsOperand form = IsOption form → ⊥

-- what is known of an argument whose value is given
pub record IsItem (arguments : List Argument) (values : Values) (at : Numbered) : Type 0 where
  pub is : IsLookedUp arguments at
  pub can : CanBeGiven at.1.value (values at.1)

module _ (name : Text) (arguments given : List Argument) (values : Values) where
  abbrev pub all : List Argument
  all = operands arguments ++ given

  abbrev shape : Shape
  shape = built_shape name arguments

  abbrev pub IsGivenOption : Argument → Type 0
  IsGivenOption one = (place : ℕ) × (IsItem arguments values (place, one) × IsOption one.form)

  pub record Ended (from : Walk) (words : List Text) : Type 0 where
    pub held : Held
    pub waiting : Waiting
    pub place : ℕ
    pub holds : Holds arguments held (map (given_by values) all)
    pub runs : Runs shape (going held waiting place) from words

  goes_on : {w next : Walk} {word : Text} {words : List Text} → Goes shape w word next → Ended next words → Ended w (word ∷ words)
  goes_on goes ended = record { held = ended.held; waiting = ended.waiting; place = ended.place; holds = ended.holds; runs = more goes ended.runs }

  -- once these rows are held, the words end
  abbrev Later : List Row → Waiting → ℕ → List Text → Type 0
  Later rows waiting place words = (held : Held) → Holds arguments held rows → Ended (going held waiting place) words

  module _ (at : Numbered) (is : IsLookedUp arguments at) (rows : List Row) (none : has_row at.1.id rows ≡ false) where
    abbrev with_texts : List Text → List Row
    with_texts texts = rows ++ given_row at.1 texts ∷ []

    -- the further names of a list
    names_end : IsOperand at.1.form → is_list at.1.value ≡ true → at.0 < 2000 → (words left texts : List Text) → AllByRecursion (Fits at.1.value) left
        → (held : Held) → Holds arguments held (with_texts texts) → Later (with_texts (texts ++ left)) positional at.0 words
        → Ended (going held positional at.0) (left ++ words)
    names_end operand list few words [] texts fit held holds later =
        later held (subst (λ texts. Holds arguments held (with_texts texts)) (sym (append-nil texts)) holds)
    names_end operand list few words (text ∷ left) texts ((no_dash, accepted), fit) held holds later =
        goes_on (operand_goes arguments held (with_texts texts) holds at is text name no_dash positional refl operand few true list)
        (names_end operand list few words left (texts ++ text ∷ []) fit (holding (with_texts texts) at.1.id text)
        (holds_more arguments rows at texts held holds is list none text accepted)
        (subst (λ texts. Later (with_texts texts) positional at.0 words) (sym (append_assoc texts (text ∷ []) left)) later))

    -- all words of an operand
    operand_ends : IsOperand at.1.form → at.0 < 2000 → (held : Held) → Holds arguments held rows → (words own : List Text) (list : Bool)
        → is_list at.1.value ≡ list → AllFit at.1.value list own → Later (with_texts own) (resting list) (next_to list at.0) words
        → Ended (going held idle at.0) (own ++ words)
    operand_ends operand few held holds words [] list same fit later = absurd fit
    operand_ends operand few held holds words (text ∷ other ∷ left) false same fit later = absurd fit
    operand_ends operand few held holds words (text ∷ []) false same (no_dash, accepted) later =
        goes_on (operand_goes arguments held rows holds at is text name no_dash idle refl operand few false same)
        (later (holding rows at.1.id text) (holds_one arguments held rows holds at is text none accepted))
    operand_ends operand few held holds words (text ∷ left) true same ((no_dash, accepted), fit) later =
        goes_on (operand_goes arguments held rows holds at is text name no_dash idle refl operand few true same)
        (names_end operand same few words left (text ∷ []) fit (holding rows at.1.id text) (holds_one arguments held rows holds at is text none accepted) later)

    -- an option with its word
    option_ends : IsOption at.1.form → (held : Held) (waiting : Waiting) (place : ℕ) → Holds arguments held rows → (words own : List Text)
        → AllFit at.1.value false own → Later (with_texts own) idle place words → Ended (going held waiting place) ((codes "--" ++ at.1.id) ∷ own ++ words)
    option_ends option held waiting place holds words [] fit later = absurd fit
    option_ends option held waiting place holds words (text ∷ other ∷ own) fit later = absurd fit
    option_ends option held waiting place holds words (text ∷ []) (no_dash, accepted) later =
        goes_on (flag_goes arguments held rows holds at is text name no_dash waiting place option)
        (goes_on (value_goes arguments held rows holds at is text name no_dash place)
        (later (holding rows at.1.id text) (holds_one arguments held rows holds at is text none accepted)))

  none_left : (left : List Argument) → operands left ≡ [] → operand_words values left ≡ []
  none_left [] none = refl
  none_left (one ∷ left) none = by one.form (none_left left) none
    where
      by : (form : Form) → (operands left ≡ [] → operand_words values left ≡ []) → (if is_operand form then one ∷ operands left else operands left) ≡ []
          → if_operand form (words_of one.value (values one)) (operand_words values left) ≡ []
      by Operand later none = let wrong : one ∷ operands left ≡ [] = none in cc
      by Required later none = later none
      by (WithDefault text) later none = later none

  module _ (apart : are_distinct all ≡ true) where
    fresh : (one : Argument) (done rest : List Argument) → done ++ one ∷ rest ≡ all → has_row one.id (map (given_by values) done) ≡ false
    fresh one done rest e = has_given_row values one.id done ∙ distinct_before done rest one (subst (λ all. are_distinct all ≡ true) (sym e) apart)

    with_one : (one : Argument) (done : List Argument) (held : Held) → Holds arguments held (map (given_by values) done ++ given_by values one ∷ [])
        → Holds arguments held (map (given_by values) (done ++ one ∷ []))
    with_one one done held = subst (Holds arguments held) (sym (map-append (given_by values) done (one ∷ [])))

    options_end : (left done : List Argument) → done ++ left ≡ all → (held : Held) (waiting : Waiting) (place : ℕ)
        → Holds arguments held (map (given_by values) done) → AllByRecursion IsGivenOption left
        → Ended (going held waiting place) (option_words values left)
    options_end [] done e held waiting place holds each =
        record {
          held = held;
          waiting = waiting;
          place = place;
          holds = subst (λ done. Holds arguments held (map (given_by values) done)) (sym (append-nil done) ∙ e) holds;
          runs = at_end;
        }
    options_end (one ∷ rest) done e held waiting place holds ((number, (is, option)), each) =
        option_ends (number, one) is.is (map (given_by values) done) (fresh one done rest e) option held waiting place holds (option_words values rest)
        (words_of one.value (values one))
        (subst (λ list. AllFit one.value list (words_of one.value (values one))) (of_option _ one.form option is.is.single)
        (words_are one.value (values one) is.is.small is.can).0)
        (λ held holds. options_end rest (done ++ one ∷ []) (append_assoc done (one ∷ []) rest ∙ e) held idle place (with_one one done held holds) each)

    abbrev pub OperandsEnd : List Argument → Type 0
    OperandsEnd left = (done : List Argument) (place : ℕ) → done ++ (operands left ++ given) ≡ all → (held : Held)
        → Holds arguments held (map (given_by values) done)
        → AllByRecursion (λ at. IsOperand at.1.form → IsItem arguments values at) (numbered left place) → place + length left < 2000
        → Ended (going held idle place) (operand_words values left ++ option_words values given)

    pub operands_end : AllByRecursion IsGivenOption given → (left : List Argument) → ListsAreLast left → OperandsEnd left
    operands_end options [] last done place e held holds each few = options_end given done e held idle place holds options
    operands_end options (one ∷ rest) (last, lasts) done place e held holds (can, each) few =
        by one.form (λ operand. operand) last e each (operands_end options rest lasts)
      where
        own : List Text
        own = words_of one.value (values one)

        by : (form : Form) → (IsOperand form → IsOperand one.form) → IfOperand form (IfList (is_list one.value) (operands rest ≡ []))
            → done ++ ((if is_operand form then one ∷ operands rest else operands rest) ++ given) ≡ all
            → AllByRecursion (λ at. IsOperand at.1.form → IsItem arguments values at) (numbered rest (next_place form place)) → OperandsEnd rest
            → Ended (going held idle place) (if_operand form own (operand_words values rest) ++ option_words values given)
        by Operand operand last e each later =
            let item = can (operand (λ option. option)) in
            subst (Ended (going held idle place)) (sym (append_assoc own (operand_words values rest) (option_words values given)))
            (operand_ends (place, one) item.is (map (given_by values) done) (fresh one done (operands rest ++ given) e) (operand (λ option. option))
            (omega (arith, few)) held holds (operand_words values rest ++ option_words values given) own (is_list one.value) refl
            (words_are one.value (values one) item.is.small item.can).0
            (after (is_list one.value) last))
          where
            there : done ++ one ∷ (operands rest ++ given) ≡ all
            there = e

            after : (list : Bool) → IfList list (operands rest ≡ [])
                → Later (map (given_by values) done ++ given_by values one ∷ []) (resting list) (next_to list place) (operand_words values rest ++ option_words values given)
            after false last held holds =
                later (done ++ one ∷ []) (place + 1) (append_assoc done (one ∷ []) (operands rest ++ given) ∙ there) held
                (with_one one done held holds) each (omega (arith, few))
            after true none held holds =
                subst (λ words. Ended (going held positional place) (words ++ option_words values given)) (sym (none_left rest none))
                (options_end given (done ++ one ∷ []) (append_assoc done (one ∷ []) given
                ∙ ap (λ left. done ++ one ∷ (left ++ given)) (sym none) ∙ there) held positional place (with_one one done held holds) options)
        by _ operand last e each later = later done place e held holds each (omega (arith, few))
