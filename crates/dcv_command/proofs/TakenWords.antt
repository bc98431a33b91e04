-- Words in which no fault is found are a command's name and words of the command, and these ask for something.
use Rattle.dcv_command.proofs.Common.{◌≡◌, App, ℕ, suc, Bool, true, false, List, [], ◌∷◌, Option, None, Some, refl, sym, subst, codes, ap, ◌∙◌, find}
use Rattle.dcv_command.proofs.Common.{is_some, map, length, ◌||◌, ◌&&◌, if◌then◌else◌, option_and_then, option_map, bytes_eq, ◌==◌, AllByRecursion}
use Rattle.dcv_command.proofs.Common.{list_all, true≢false, both, arith, bytes_eq-Decides, Text, Row, Rule, Held, idle, fault_of, takes, accepts}
use Rattle.dcv_command.proofs.Common.{has_row, is_false, short_of, long_of, finished, settled, nothing_held, walk, walk_from, rows_after}
use Rattle.dcv_command.proofs.Common.{subcommand_met, after_flag, long_or_other, subcommand_or_other, trailing, check_fault, level_fault}
use Rattle.dcv_command.proofs.Common.{settle_fault, step_passes, other_passes, turn_passes, program, request_of_subcommand, asked_in, asked_of}
use Rattle.dcv_command.proofs.Common.{value_of, Command, commands, Argument, Asks, Form, WithDefault, Value, FileNames, Of, ◌++◌, reading_of}
use Rattle.std.proofs.Common.{zero}
use Rattle.std.specs.Prelude.{Contains, IfSome, IsSome, nat_le, slice_get, not}
use Rattle.std.specs.Option.{option_or}
use Rattle.std.specs.Str.{chars}
use Rattle.std.proofs.ByRecursion.{All-append, All-map, All-push, All-weaker}
use Rattle.std.proofs.Math.Bool.{or-false}
use Rattle.std.proofs.lemmas.List.Folds.{find-append}
use Rattle.std.proofs.lemmas.Bool.{and_left, leb-true}
use Rattle.clap.specs.Words.{built, subcommand_of}
use Rattle.clap.specs.Walk.{answers_to, bundle_met, is_empty, more_values, plain, used, used_as}
use Rattle.clap.specs.Simple.{built_leaf, help_shape, label_of, names_of}
use Rattle.clap.specs.Faults.{defaults_fault, walk_fault}
use Rattle.clap.specs.Takes.{action_passes, entered_passes, flag_word_passes, flags_pass, long_passes, short_passes, use_passes, walk_passes}
use Rattle.clap.specs.declared.parser.matches.ValueSource.TheVariants.{CommandLine}
use Rattle.clap.proofs.OnLiterals.{clap_on_literals}
use Rattle.clap.proofs.WalkLemmas.{find-map}
use Rattle.dcv_command.specs.Request.{IsTaken, request_of}
use Rattle.dcv_command.specs.Laws.{IsCommandLine, TakenWordsAreCommandLines, TakenWordsAsk}
use Rattle.dcv_command.proofs.Arguments.{AreLookedUp, IsLookedUp, Numbered, action_for, built_rule, built_rules, built_shape, defaults_of, help, numbered, of_numbered}
use Rattle.dcv_command.proofs.Arguments.{is_list, parser}
use Rattle.dcv_command.proofs.Commands.{IsCommand, asked_below, built_command, each_among, fault_alone, faults_below, found_below, is_among, names, top}
use Rattle.dcv_command.proofs.Lists.{if_found}
use Rattle.dcv_command.proofs.Parses.{Keeps, is_none, no_kind, last_is_empty, level_keeps, program_agrees, use_same}
use Rattle.dcv_command.proofs.Rows.{IsRead, IsReadable, OfDefault, all_at_row, given_row, is_read, one_is_read, read_of, readable, used_behind}

-- ---- a first word that is no command's name is refused

abbrev help_if : Bool → Option Rule
help_if named = if named then Some help else None

long_refused : (named : Bool) (attached : Option Text) → long_passes top.rules false (help_if named) attached nothing_held ≡ false
long_refused true None = refl
long_refused true (Some text) = refl
long_refused false attached = refl

short_refused : (named : Bool) (rest : Text) (passes : Held → Bool) → short_passes top.rules false (help_if named) rest nothing_held passes ≡ false
short_refused true rest passes = refl
short_refused false rest passes = refl

flags_refused : (most : ℕ) (flags word : Text) (character : Option ℕ) → slice_get (chars flags) 0 ≡ character
    → (flags_pass top.rules false most flags 0 nothing_held
    && step_passes top 1 (after_flag top.rules idle word (bundle_met top.rules most flags 0 plain nothing_held).0
    (bundle_met top.rules most flags 0 plain nothing_held).1).0
    (after_flag top.rules idle word (bundle_met top.rules most flags 0 plain nothing_held).0
    (bundle_met top.rules most flags 0 plain nothing_held).1).1) ≡ false
unfolding bundle_met flags_pass
flags_refused zero flags word character is = refl
flags_refused (suc most) flags word None is = rw is refl
flags_refused (suc most) flags word (Some x) is = rw is (and_left _ _ (short_refused ((104 == x) || false) _ _))

word_refused : (word : Text) (long : Option (Text × Option Text)) (short : Option Text) → short_of word ≡ short
    → (flag_word_passes top.rules false long word nothing_held
    && step_passes top 1 (long_or_other top.rules idle word long nothing_held).0 (long_or_other top.rules idle word long nothing_held).1) ≡ false
word_refused word (Some parts) short is = and_left _ _ (long_refused (bytes_eq (codes "help") parts.0 || false) parts.1)
word_refused word None (Some flags) is = rw is (flags_refused _ flags word _ refl)
word_refused word None None is = rw is refl

-- whether a first word passes, by the subcommand that it names and whether it is `--`
abbrev first_passes : Text → Option Text → Bool → Bool
first_passes word None dashes =
    (dashes || flag_word_passes top.rules false (long_of word) word nothing_held)
    && step_passes top 1 (if dashes then (nothing_held, trailing 1) else long_or_other top.rules idle word (long_of word) nothing_held).0
    (if dashes then (nothing_held, trailing 1) else long_or_other top.rules idle word (long_of word) nothing_held).1
first_passes word (Some name) dashes = true

walk_taken : (words : List Text) → takes program words ≡ true → walk_passes top names (walk_from nothing_held) words ≡ true
walk_taken words taken = (both _ _ (both (entered_passes (built program) (walk top.rules names nothing_held words).stopped) _ taken).1).0

help_refused : (rest : List Text) → takes program (codes "help" ∷ rest) ≡ true → ⊥
unfolding clap_on_literals
help_refused rest taken = true≢false (sym (walk_taken (codes "help" ∷ rest) taken))

dashes_refused : (rest : List Text) → takes program (codes "--" ∷ rest) ≡ true → ⊥
unfolding clap_on_literals
dashes_refused [] taken = true≢false (sym taken)
dashes_refused (next ∷ rest) taken = true≢false (sym (walk_taken (codes "--" ∷ next ∷ rest) taken))

-- ---- and so words that are taken begin with one

pub record Begins (words : List Text) : Type 0 where
  pub command : Command
  pub among : Contains commands command
  pub is : IsCommand command
  pub rest : List Text
  pub same : words ≡ command.name ∷ rest

module _ (word : Text) (rest : List Text) (taken : takes program (word ∷ rest) ≡ true) where
  abbrev is_named : Command → Bool
  is_named command = answers_to word (label_of (built_command command))

  met_by : (found : Option Command) → find is_named commands ≡ found
      → subcommand_met names idle word
      ≡ option_map (λ label. label.0) (option_map label_of (option_or (option_map built_command found)
      (if bytes_eq (codes "help") word || false then Some (built_leaf help_shape) else None)))
  met_by found is =
      ap (option_map (λ label. label.0))
      (sym (find-map (answers_to word) label_of (built program).subs)
      ∙ ap (option_map label_of) (find-append (λ shape. answers_to word (label_of shape)) (map built_command commands) (built_leaf help_shape ∷ [])
      ∙ ap (λ found. option_or found (if bytes_eq (codes "help") word || false then Some (built_leaf help_shape) else None))
      (sym (find-map (λ shape. answers_to word (label_of shape)) built_command commands) ∙ ap (option_map built_command) is)))

  no_other : (is_help dashes : Bool) → find is_named commands ≡ None → (bytes_eq (codes "help") word || false) ≡ is_help
      → bytes_eq word (codes "--") ≡ dashes → ⊥
  unfolding walk_passes
  no_other true dashes none named is =
      help_refused rest (subst (λ word. takes program (word ∷ rest) ≡ true) (sym ((bytes_eq-Decides (codes "help") word).0 (sym (or-false _) ∙ named))) taken)
  no_other false true none named is =
      dashes_refused rest (subst (λ word. takes program (word ∷ rest) ≡ true) ((bytes_eq-Decides word (codes "--")).0 is) taken)
  no_other false false none named is =
      let met : subcommand_met names idle word ≡ None = met_by None none
      ∙ ap (λ named. option_map (λ (label : Text × List Text). label.0) (option_map label_of (if named then Some (built_leaf help_shape) else None))) named in
      let passes : first_passes word None (bytes_eq word (codes "--")) ≡ true = subst (λ met. (other_passes top met word nothing_held
      && step_passes top 1 (subcommand_or_other top.rules met idle 1 word nothing_held).0
      (subcommand_or_other top.rules met idle 1 word nothing_held).1) ≡ true) met
      (both (turn_passes top names (walk_from nothing_held) word) _ (walk_taken (word ∷ rest) taken)).0 in
      true≢false (sym passes ∙ ap (first_passes word None) is ∙ word_refused word (long_of word) (short_of word) refl)

  begins_with : Begins (word ∷ rest)
  begins_with = by (find is_named commands) refl (if_found (Contains commands) is_named commands each_among)
    where
      by : (found : Option Command) → find is_named commands ≡ found
          → IfSome found (λ command. Contains commands command × (is_named command ≡ true)) → Begins (word ∷ rest)
      by (Some command) is named =
          let same = (bytes_eq-Decides command.name word).0 (sym (or-false (bytes_eq command.name word)) ∙ named.1) in
          record { command = command; among = named.0; is = is_among command named.0; rest = rest; same = ap (λ word. word ∷ rest) (sym same) }
      by None is named = absurd (no_other _ _ is refl refl)

pub begins : (words : List Text) → takes program words ≡ true → Begins words
unfolding clap_on_literals
begins [] taken = absurd (true≢false (sym taken))
begins (word ∷ rest) taken = begins_with word rest taken

-- ---- what a command's words ask for

-- the texts stand for something
abbrev Stands : Argument → List Text → Type 0
Stands one texts = (given : Of one.value) × (read_of one.value texts ≡ Some given)

one_stands : (one : Argument) (text : Text) → accepts false (parser one.value) text ≡ true → Stands one (text ∷ [])
one_stands one text accepted = (value_of one.value text, one_is_read one.value text accepted)

pub default_is : (P : Text → Type 0) (form : Form) (value : Value) (other : Bool) → ((text : Text) → accepts false (parser value) text ≡ true → P text)
    → (is_empty (defaults_of form) || (other && list_all (accepts false (parser value)) (defaults_of form))) ≡ true → OfDefault P form
default_is P (WithDefault text) value other so passes = so text (both (accepts false (parser value) text) true (both other _ passes).1).0
default_is P _ value other so passes = tt

some_request : (left : List Argument) (asks : Asks left) (rows : List Row) → AllByRecursion (IsRead Stands rows) left → IsSome (asked_in left asks rows)
some_request [] request rows all = refl
some_request (one ∷ rest) asks rows (is, others) =
    subst IsSome (sym (ap (option_and_then (λ given. asked_in rest (asks given) rows)) (is.value ∙ is.is.1)))
    (some_request rest (asks is.is.0) rows others)

module _ (arguments : List Argument) (looked_up : AreLookedUp arguments) where
  abbrev Kept : List Row → Type 0
  Kept rows = AllByRecursion (IsReadable Stands arguments) rows

  -- names that are added to a list stand for it
  stands_with_more : (value : Value) → is_list value ≡ true → (texts : List Text) (text : Text)
      → (given : Of value) × (read_of value (texts ++ text ∷ []) ≡ Some given)
  stands_with_more FileNames list [] text = (text ∷ [], refl)
  stands_with_more FileNames list (first ∷ texts) text = (first ∷ texts ++ text ∷ [], refl)
  stands_with_more _ list texts text = absurd (true≢false (sym list))

  use_keeps : (at : Numbered) → IsLookedUp arguments at → Keeps false Kept (built_rule at)
  use_keeps at is values rows none kept = by values (sym (use_same false (built_rule at) values rows) ∙ ap is_none none)
    where
      by : (values : List Text) → use_passes false (built_rule at) values rows ≡ true → Kept (used (built_rule at) values rows)
      by [] passes = absurd (true≢false (sym passes))
      by (text ∷ []) passes = by_use (is_list at.1.value) refl passes
        where
          accepted : Bool
          accepted = accepts false (parser at.1.value) text

          is_new : accepted ≡ true → IsReadable Stands arguments (given_row at.1 (text ∷ []))
          is_new fits = readable Stands arguments at is (text ∷ []) CommandLine (one_stands at.1 text fits)

          with_more : is_list at.1.value ≡ true → (row : Row) → bytes_eq row.id at.1.id ≡ true → IsReadable Stands arguments row
              → Kept (more_values CommandLine (text ∷ []) row)
          with_more list row same old = (
            record {
              as_written = old.as_written;
              says = subst (λ found. IfSome found (λ (other : Numbered). Stands other.1 (row.values ++ text ∷ [])))
                  (sym (ap (λ id. find (λ (other : Numbered). bytes_eq other.1.id id) (numbered arguments 1)) ((bytes_eq-Decides row.id at.1.id).0 same)
                  ∙ is.argument)) (stands_with_more at.1.value list row.values text);
            },
            tt,
          )

          by_use : (list : Bool) → is_list at.1.value ≡ list → action_passes (action_for list) false (built_rule at) (text ∷ []) rows ≡ true
              → Kept (used (built_rule at) (text ∷ []) rows)
          by_use true list passes =
              subst (λ list. Kept (used_as (action_for list) at.1.id (reading_of (parser at.1.value)) (text ∷ []) rows)) (sym list)
              (all_at_row (IsReadable Stands arguments) at.1.id (more_values CommandLine (text ∷ [])) (given_row at.1 (text ∷ []) ∷ []) rows (with_more list)
              (is_new (both accepted true passes).0, tt) kept)
          by_use false list passes =
              let fits = both (not (has_row at.1.id rows) || false) (accepted && true) passes in
              subst Kept (sym (used_behind at text rows (is_false (has_row at.1.id rows) (sym (or-false _) ∙ fits.0))))
              (All-push (IsReadable Stands arguments) rows _ kept (is_new (both accepted true fits.1).0))
      by (text ∷ other ∷ more) passes =
          let few = both (nat_le (suc (suc (length more))) 1) _ (both (nat_le 1 (suc (suc (length more)))) _ passes).1 in
          absurd (omega (arith, leb-true (suc (suc (length more))) 1 few.0))

  each_keeps : AllByRecursion (Keeps false Kept) (built_rules arguments)
  each_keeps =
      All-append (Keeps false Kept) (map built_rule (numbered arguments 1)) (help ∷ [])
      (All-map (Keeps false Kept) built_rule (numbered arguments 1)
      (All-weaker (IsLookedUp arguments) (λ at. Keeps false Kept (built_rule at)) use_keeps (numbered arguments 1) looked_up.each))
      (λ values rows none kept. kept, tt)

  pub words_ask : (name : Text) (asks : Asks arguments) (words : List Text) → level_fault (built_shape name arguments) [] nothing_held words false [] ≡ []
      → IsSome (asked_in arguments asks (rows_after (built_rules arguments) [] words))
  words_ask name asks words none =
      some_request arguments asks (finished (built_rules arguments) end)
      (of_numbered (IsRead Stands (finished (built_rules arguments) end)) arguments 1
      (All-weaker (IsLookedUp arguments) (λ at. IsRead Stands (finished (built_rules arguments) end) at.1)
      (λ at is. is_read Stands arguments looked_up (settled (built_rules arguments) end).rows all checked at is
      (λ none. default_is (λ text. Stands at.1 (text ∷ [])) at.1.form at.1.value _ (one_stands at.1) is.default))
      (numbered arguments 1) looked_up.each))
    where
      end : Held
      end = (walk (built_rules arguments) [] nothing_held words).held

      all : Kept (settled (built_rules arguments) end).rows
      all = level_keeps (built_shape name arguments) looked_up.checked Kept each_keeps words none tt

      checked : check_fault (built_shape name arguments) (finished (built_rules arguments) end) false ≡ []
      checked =
          last_is_empty (defaults_fault (settled (built_rules arguments) end).rows (built_rules arguments)) _
          (last_is_empty (settle_fault (built_rules arguments) false end) _
          (last_is_empty (walk_fault (built_shape name arguments) [] (walk_from nothing_held) words) _ none))

pub taken_passes : (words : List Text) → IsTaken words → takes program words ≡ true
taken_passes words taken = sym (program_agrees words) ∙ ap is_none taken

pub taken_words_ask : TakenWordsAsk
taken_words_ask words taken =
    let begun = begins words (taken_passes words taken) in
    subst (λ words. IsSome (request_of words)) (sym begun.same)
    (subst IsSome (sym (ap request_of_subcommand (found_below begun.command begun.is begun.rest)
    ∙ asked_below begun.command begun.is begun.rest (rows_after (built_command begun.command).rules [] begun.rest)))
    (words_ask begun.command.arguments begun.is.looked_up begun.command.name begun.command.asks begun.rest
    (sym (faults_below begun.command begun.is begun.rest) ∙ ap (fault_of program) (sym begun.same) ∙ taken)))

pub taken_words_are_command_lines : TakenWordsAreCommandLines
taken_words_are_command_lines words = ((taken_passes words, λ passes. no_kind (fault_of program words) (program_agrees words ∙ passes)), (to, from))
  where
    to : IsTaken words → IsCommandLine words
    to taken =
        let begun = begins words (taken_passes words taken) in
        record {
          command = begun.command;
          among = begun.among;
          rest = begun.rest;
          begin = begun.same;
          taken = sym (fault_alone begun.command begun.is begun.rest) ∙ ap (fault_of program) (sym begun.same) ∙ taken;
          asked = ap request_of begun.same ∙ ap request_of_subcommand (found_below begun.command begun.is begun.rest)
              ∙ asked_below begun.command begun.is begun.rest _
              ∙ ap (λ (app : App). asked_of begun.command (rows_after app.top.rules (names_of app) begun.rest)) (sym begun.is.alone_is);
        }

    from : IsCommandLine words → IsTaken words
    from are = ap (fault_of program) are.begin ∙ fault_alone are.command (is_among are.command are.among) are.rest ∙ are.taken

-- matches of taken words ask for something
pub matches_ask : (words : List Text) (found : Option (Text × List Row)) → IsTaken words → found ≡ subcommand_of program words
    → None ≡ request_of_subcommand found → ⊥
matches_ask words found taken same none = true≢false (sym (taken_words_ask words taken) ∙ ap is_some (sym (none ∙ ap request_of_subcommand same)))
