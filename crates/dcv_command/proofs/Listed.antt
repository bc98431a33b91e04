-- Listed words are taken, and ask for what they say: after the walk over them each argument has its row, and nothing is left out.
use Rattle.dcv_command.proofs.Common.{◌≡◌, refl, sym, ap, ◌∙◌, subst, Bool, true, false, ℕ, List, [], ◌∷◌, ◌++◌, Option, None, Some, arith}
use Rattle.dcv_command.proofs.Common.{length, find, fold, map, not, ◌&&◌, ◌||◌, is_some, option_and_then, option_map}
use Rattle.dcv_command.proofs.Common.{option_map_or, AllByRecursion, list_all, list_any, bytes_eq, bytes_eq-Decides, true≢false}
use Rattle.dcv_command.proofs.Common.{Kinds, Row, Rule, Text, check_fault, check_kinds, or_else, default_passes, is_given}
use Rattle.dcv_command.proofs.Common.{explicit_source, Held, nothing_held, settled, walk_from, with_default, is_false, both}
use Rattle.dcv_command.proofs.Common.{IsOption, has_name, asked_in, asked_of, Argument, Asks, Command, Form, Operand, Required, WithDefault, Of}
use Rattle.dcv_command.proofs.Common.{Value, value_of}
use Rattle.std.specs.Prelude.{Contains, IfSome}
use Rattle.std.specs.Option.{option_or}
use Rattle.std.proofs.ByRecursion.{All-append, All-get_or, All-map, All-weaker, all_kept_by, kept_by_passes}
use Rattle.std.proofs.lemmas.Bool.{and_from, ltb-true, or_from, or_left, or_right, or_parts}
use Rattle.std.proofs.lemmas.List.Folds.{list_any-append}
use Rattle.clap.specs.Faults.{defaults_fault}
use Rattle.clap.specs.declared.parser.matches.ValueSource.TheVariants.{CommandLine}
use Rattle.clap.proofs.WalkLemmas.{find-map}
use Rattle.dcv_command.specs.Laws.{ListedWordsAreTaken}
use Rattle.dcv_command.specs.Listed.{AreGiven, AskFor, CanBeGiven, IsChosen, Values, are_distinct, asked_with, operand_words, option_words, words_of}
use Rattle.dcv_command.proofs.Arguments.{AreLookedUp, IfOperand, IsLookedUp, Numbered, built_rule, built_rules, built_shape, help, is_operand, is_required}
use Rattle.dcv_command.proofs.Arguments.{numbered, of_numbered, operands, to_numbered}
use Rattle.dcv_command.proofs.Commands.{IsCommand, is_among}
use Rattle.dcv_command.proofs.Lists.{all_both, any_is_found, if_found, none_passes}
use Rattle.dcv_command.proofs.Parses.{defaults_agree, no_kind}
use Rattle.dcv_command.proofs.Rows.{IsRead, IsReadable, OfDefault, default_of, found_after, is_read, one_is_read, read_of, readable, row_named}
use Rattle.dcv_command.proofs.TakenWords.{default_is}
use Rattle.dcv_command.proofs.Walks.{ask_for, given_by, going, has_given_row}
use Rattle.dcv_command.proofs.Walks.{nothing_holds}
use Rattle.dcv_command.proofs.ListedWalk.{Ended, IsGivenOption, IsItem, IsOperand, all, operands_end, words_are}

distinct_append : (first others : List Argument) → are_distinct first ≡ true → are_distinct others ≡ true
    → AllByRecursion (λ one. has_name one.id others ≡ false) first
    → are_distinct (first ++ others) ≡ true
distinct_append [] others apart more_apart unnamed = more_apart
distinct_append (one ∷ first) others apart more_apart (unnamed, more_unnamed) =
    let parts = both (not (has_name one.id first)) _ apart in
    and_from (not (has_name one.id (first ++ others))) _
    (ap not (list_any-append (λ (other : Argument). bytes_eq other.id one.id) first others
    ∙ or_from (has_name one.id first) (has_name one.id others) (is_false _ parts.0) unnamed))
    (distinct_append first others parts.1 more_apart more_unnamed)

-- the texts stand for what is given for the argument
abbrev Means : Values → Argument → List Text → Type 0
Means values one texts = read_of one.value texts ≡ Some (values one)

-- ---- what is chosen

chosen_is : (form : Form) (value : Value) (given : Of value) (named : Bool) → named ≡ true → IsChosen form value given named → CanBeGiven value given
chosen_is Operand value given named same is = is
chosen_is Required value given named same is = is.1
chosen_is (WithDefault text) value given true same is = is
chosen_is (WithDefault text) value given false same is = absurd (true≢false (sym same))

operand_can : (form : Form) (value : Value) (given : Of value) (named : Bool) → IsOperand form → IsChosen form value given named → CanBeGiven value given
operand_can Operand value given named operand is = is
operand_can _ value given named operand is = absurd (operand tt)

operand_is : (form : Form) → is_operand form ≡ true → IsOperand form
operand_is Operand is option = option
operand_is _ is option = true≢false (sym is)

required_named : (form : Form) (value : Value) (given : Of value) (operand named : Bool) → IfOperand form (operand ≡ true)
    → IsChosen form value given named → is_required form ≡ true → (operand || named) ≡ true
required_named Operand value given operand named there is required = or_left operand named there
required_named Required value given operand named there is required = or_right operand named is.0
required_named (WithDefault text) value given operand named there is required = absurd (true≢false (sym required))

default_means : (form : Form) (value : Value) (given : Of value) (named : Bool) → IsChosen form value given named → named ≡ false
    → OfDefault (λ text. read_of value (text ∷ []) ≡ Some (value_of value text)) form
    → OfDefault (λ text. read_of value (text ∷ []) ≡ Some given) form
default_means (WithDefault text) value given true chosen is reads = absurd (true≢false is)
default_means (WithDefault text) value given false chosen is reads = reads ∙ ap Some (sym chosen)
default_means _ value given named chosen is reads = tt

none_lacks : (required given : Bool) → (required ≡ true → given ≡ true) → (required && not given) ≡ false
none_lacks true given is = ap not (is refl)
none_lacks false given is = refl

values_asked : (values : Values) (left : List Argument) (asks : Asks left) (rows : List Row) → AllByRecursion (IsRead (Means values) rows) left
    → asked_in left asks rows ≡ Some (asked_with left asks values)
values_asked values [] request rows each = refl
values_asked values (one ∷ rest) asks rows (is, others) =
    ap (option_and_then (λ given. asked_in rest (asks given) rows)) (is.value ∙ is.is) ∙ values_asked values rest (asks (values one)) rows others

-- ---- a command of the table

module _ (command : Command) (is : IsCommand command) (values : Values) (given : List Argument) (are : AreGiven values command.arguments given) where
  abbrev arguments : List Argument
  arguments = command.arguments

  abbrev every : List Argument
  every = all command.name arguments given values

  looked_up : AreLookedUp arguments
  looked_up = is.looked_up

  abbrev IsKnown : Numbered → Type 0
  IsKnown at = IsLookedUp arguments at × IsChosen at.1.form at.1.value (values at.1) (has_name at.1.id given)

  known : AllByRecursion IsKnown (numbered arguments 1)
  known =
      all_both (IsLookedUp arguments) (λ at. IsChosen at.1.form at.1.value (values at.1) (has_name at.1.id given)) IsKnown (λ at is chosen. (is, chosen))
      (numbered arguments 1) looked_up.each (to_numbered (λ one. IsChosen one.form one.value (values one) (has_name one.id given)) arguments 1 are.chosen)

  abbrev HasPlace : (Numbered → Type 0) → Argument → Type 0
  HasPlace P one = (place : ℕ) × P (place, one)

  placed : (P : Numbered → Type 0) → ((at : Numbered) → IsKnown at → P at) → AllByRecursion (HasPlace P) arguments
  placed P so = of_numbered (HasPlace P) arguments 1 (All-weaker IsKnown (λ at. HasPlace P at.1) (λ at known. (at.0, so at known)) (numbered arguments 1) known)

  options_given : (left : List Argument) → AllByRecursion (λ one. Contains arguments one × IsOption one.form) left
      → ((id : Text) → has_name id left ≡ true → has_name id given ≡ true) → AllByRecursion (IsGivenOption command.name arguments given values) left
  options_given [] options named = tt
  options_given (one ∷ rest) ((has, option), others) named =
      let at : HasPlace IsKnown one = subst (HasPlace IsKnown) has.2
      (All-get_or (HasPlace IsKnown) arguments has.0 one has.1 (placed IsKnown (λ at known. known))) in
      let own = named one.id (or_left (bytes_eq one.id one.id) (has_name one.id rest) ((bytes_eq-Decides one.id one.id).1 refl)) in (
        (at.0, (record { is = at.1.0; can = chosen_is one.form one.value (values one) (has_name one.id given) own at.1.1 }, option)),
        options_given rest others (λ id is. named id (or_right (bytes_eq one.id id) (has_name id rest) is)),
      )

  options : AllByRecursion (IsGivenOption command.name arguments given values) given
  options = options_given given are.options (λ id is. is)

  operand_item : (at : Numbered) → IsKnown at → IsOperand at.1.form → IsItem arguments values at
  operand_item at known operand = record { is = known.0; can = operand_can at.1.form at.1.value (values at.1) (has_name at.1.id given) operand known.1 }

  abbrev IsOperandItem : Argument → Type 0
  IsOperandItem one = IsOperand one.form × HasPlace (IsItem arguments values) one

  operand_items : AllByRecursion IsOperandItem (operands arguments)
  operand_items =
      all_both (HasPlace (λ at. IsOperand at.1.form → IsItem arguments values at)) (λ one. is_operand one.form ≡ true) IsOperandItem
      (λ one item is. (operand_is one.form is, (item.0, item.1 (operand_is one.form is)))) (operands arguments)
      (all_kept_by (λ one. is_operand one.form) (HasPlace (λ at. IsOperand at.1.form → IsItem arguments values at)) arguments
      (placed (λ at. IsOperand at.1.form → IsItem arguments values at) operand_item)) (kept_by_passes (λ one. is_operand one.form) arguments)

  -- an option bears no operand's name
  unnamed : (one : Argument) → IsOperandItem one → has_name one.id given ≡ false
  unnamed one (operand, item) = any_is_found (λ other. bytes_eq other.id one.id) given
      ∙ by (find (λ other. bytes_eq other.id one.id) given) (if_found (IsGivenOption command.name arguments given values)
      (λ other. bytes_eq other.id one.id) given options)
    where
      by : (found : Option Argument) → IfSome found (λ other. IsGivenOption command.name arguments given values other × (bytes_eq other.id one.id ≡ true))
          → is_some found ≡ false
      by None is = refl
      by (Some other) ((number, (other_item, option)), same) =
          absurd (operand (subst (λ found. IfSome found (λ (at : Numbered). IsOption at.1.form))
          (sym other_item.is.argument ∙ ap (λ id. find (λ (at : Numbered). bytes_eq at.1.id id) (numbered arguments 1))
          ((bytes_eq-Decides other.id one.id).0 same)
          ∙ item.1.is.argument) option))

  ended : Ended command.name arguments given values (walk_from nothing_held) (operand_words values arguments ++ option_words values given)
  ended =
      operands_end command.name arguments given values
      (distinct_append (operands arguments) given looked_up.distinct are.once
      (All-weaker IsOperandItem (λ one. has_name one.id given ≡ false) unnamed (operands arguments) operand_items))
      options arguments looked_up.last [] 1 refl nothing_held (nothing_holds arguments)
      (All-weaker IsKnown (λ at. IsOperand at.1.form → IsItem arguments values at) operand_item (numbered arguments 1) known)
      (omega (arith, ltb-true (length arguments) 1000 looked_up.few))

  -- ---- after the words

  abbrev rows : List Row
  rows = map (given_by values) every

  abbrev at_last : List Row
  at_last = fold with_default rows (built_rules arguments)

  each_readable : AllByRecursion (IsReadable (Means values) arguments) rows
  each_readable =
      All-map (IsReadable (Means values) arguments) (given_by values) every
      (All-append (λ one. IsReadable (Means values) arguments (given_by values one)) (operands arguments) given
      (All-weaker IsOperandItem (λ one. IsReadable (Means values) arguments (given_by values one))
      (λ one item. of_item one item.1.0 item.1.1) (operands arguments) operand_items)
      (All-weaker (IsGivenOption command.name arguments given values) (λ one. IsReadable (Means values) arguments (given_by values one))
      (λ one item. of_item one item.0 item.1.0) given options))
    where
      of_item : (one : Argument) (place : ℕ) → IsItem arguments values (place, one) → IsReadable (Means values) arguments (given_by values one)
      of_item one place item =
          readable (Means values) arguments (place, one) item.is (words_of one.value (values one)) CommandLine
          (words_are one.value (values one) item.is.small item.can).1

  -- what has been given is there
  given_last : (at : Numbered) → IsLookedUp arguments at → has_name at.1.id every ≡ true → is_given at.1.id at_last ≡ true
  given_last at is named =
      ap (λ found. option_map_or (λ (row : Row). explicit_source row.source) found false)
      (found_after (built_rules arguments) rows at.1.id looked_up.rules_apart ∙ ap (λ found. option_or (row_named at.1.id rows) (default_of found)) is.by_id
      ∙ ap (λ found. option_or found (default_of (Some (built_rule at)))) (sym (find-map (λ (row : Row). bytes_eq row.id at.1.id) (given_by values) every)))
      ∙ by (find (λ (one : Argument). bytes_eq one.id at.1.id) every) (sym (any_is_found (λ (one : Argument). bytes_eq one.id at.1.id) every) ∙ named)
    where
      by : (found : Option Argument) → is_some found ≡ true
          → option_map_or (λ (row : Row). explicit_source row.source)
          (option_or (option_map (given_by values) found) (default_of (Some (built_rule at)))) false ≡ true
      by None some = absurd (true≢false (sym some))
      by (Some one) some = refl

  abbrev lacks : Rule → Bool
  lacks rule = rule.required && not (is_given rule.id at_last)

  nothing_lacks : list_any lacks (built_rules arguments) ≡ false
  nothing_lacks =
      none_passes lacks (built_rules arguments)
      (All-append (λ rule. lacks rule ≡ false) (map built_rule (numbered arguments 1)) (help ∷ [])
      (All-map (λ rule. lacks rule ≡ false) built_rule (numbered arguments 1)
      (All-weaker IsKnown (λ at. lacks (built_rule at) ≡ false)
      (λ at known. none_lacks (is_required at.1.form) (is_given at.1.id at_last)
      (λ required. given_last at known.0 (list_any-append (λ (one : Argument). bytes_eq one.id at.1.id) (operands arguments) given
      ∙ required_named at.1.form at.1.value (values at.1) (has_name at.1.id (operands arguments)) (has_name at.1.id given) known.0.named known.1 required)))
      (numbered arguments 1) known))
      (refl, tt))

  each_read : AllByRecursion (IsRead (Means values) at_last) arguments
  each_read =
      of_numbered (IsRead (Means values) at_last) arguments 1
      (All-weaker IsKnown (λ at. IsRead (Means values) at_last at.1)
      (λ at known. is_read (Means values) arguments looked_up rows each_readable (ap (check_kinds false false) nothing_lacks) at known.0
      (λ none. default_means at.1.form at.1.value (values at.1) (has_name at.1.id given) known.1 (left_out at none)
      (default_is (λ text. read_of at.1.value (text ∷ []) ≡ Some (value_of at.1.value text)) at.1.form at.1.value _ (one_is_read at.1.value)
      known.0.default)))
      (numbered arguments 1) known)
    where
      left_out : (at : Numbered) → row_named at.1.id rows ≡ None → has_name at.1.id given ≡ false
      left_out at none =
          (or_parts (has_name at.1.id (operands arguments)) (has_name at.1.id given)
          (sym (list_any-append (λ (one : Argument). bytes_eq one.id at.1.id) (operands arguments) given) ∙ sym (has_given_row values at.1.id every)
          ∙ any_is_found (λ (row : Row). bytes_eq row.id at.1.id) rows ∙ ap is_some none)).1

  abbrev behind : Held → Kinds
  behind held =
      or_else (defaults_fault held.rows (built_rules arguments))
      (check_fault (built_shape command.name arguments) (fold with_default held.rows (built_rules arguments)) false)

  listed : AskFor (command.name ∷ operand_words values arguments ++ option_words values given) (asked_with arguments command.asks values)
  listed =
      ask_for command is (operand_words values arguments ++ option_words values given) (going ended.held ended.waiting ended.place)
      (asked_with arguments command.asks values)
      ended.runs
      (ap (λ kinds. or_else kinds (behind (settled (built_rules arguments) ended.held))) ended.holds.no_fault ∙ ap behind ended.holds.settles
      ∙ ap (λ kinds. or_else kinds (check_fault (built_shape command.name arguments) at_last false))
      (no_kind (defaults_fault rows (built_rules arguments))
      (defaults_agree {P = Unit {0}} (built_rules arguments) rows (both (list_all default_passes (built_rules arguments)) _ looked_up.checked).0).same)
      ∙ ap (check_kinds false false) nothing_lacks)
      (ap (λ (held : Held). asked_of command (fold with_default held.rows (built_rules arguments))) ended.holds.settles
      ∙ values_asked values arguments command.asks at_last each_read)

pub listed_words_are_taken : ListedWordsAreTaken
listed_words_are_taken command values given among are = listed command (is_among command among) values given are
