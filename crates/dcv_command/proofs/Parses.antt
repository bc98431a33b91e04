-- One walk over `clap`'s definition of a parse. Words have no fault where they pass its test, and only there; and words without a fault keep of
-- the rows what each use of an argument keeps.
use Rattle.dcv_command.proofs.Common.{◌≡◌, refl, sym, ap, ◌∙◌, ℕ, suc, Bool, true, false, List, [], ◌∷◌, Option, None, Some, find, fold, is_some, not}
use Rattle.dcv_command.proofs.Common.{◌&&◌, ◌||◌, if◌then◌else◌, codes, AllByRecursion, list_all, list_any, option_map_or, bytes_eq, true≢false, both}
use Rattle.dcv_command.proofs.Common.{Kinds, Row, Rule, Shape, Text, or_else, check_kinds, fault_of, takes, program, long_of, short_of, accepts, is_given}
use Rattle.dcv_command.proofs.Common.{Held, Names, Step, Waiting, Walk, option, value, trailing, nothing_held, after_flag, after_step, arg_by_index}
use Rattle.dcv_command.proofs.Common.{long_or_other, plain_word, settled, finished, subcommand_met, subcommand_or_other, to_positional, word_met, walk}
use Rattle.dcv_command.proofs.Common.{walk_from}
use Rattle.dcv_command.proofs.Common.{check_fault, level_fault, other_fault, settle_fault, step_fault, turn_fault, word_fault}
use Rattle.dcv_command.proofs.Common.{default_passes, is_valid, level_passes, other_passes, settle_passes, step_passes, turn_passes, word_passes}
use Rattle.dcv_command.proofs.Lists.{if_found}
use Rattle.std.proofs.Common.{zero, length, ap₂, arith}
use Rattle.std.specs.Prelude.{IfSome, nat_le, slice_get}
use Rattle.std.specs.Str.{chars}
use Rattle.std.proofs.Math.Bool.{and-false, and_assoc}
use Rattle.std.proofs.lemmas.Bool.Decides.{nat_tests}
use Rattle.clap.specs.Words.{built}
use Rattle.clap.specs.Facts.{explicit_source, parser_of_value, unwrap_or_range}
use Rattle.clap.specs.Values.{is_request, refused_kind}
use Rattle.clap.specs.Simple.{label_of, names_of}
use Rattle.clap.specs.Kinds.{range_kinds, request_kinds, values_kinds}
use Rattle.clap.specs.Faults.{action_fault, set_fault, defaults_fault, entered_fault, flag_word_fault, flags_fault, long_fault, option_fault}
use Rattle.clap.specs.Faults.{positional_fault, react_fault, short_fault, stray_fault, use_fault, walk_fault}
use Rattle.clap.specs.Takes.{action_passes, set_passes, entered_passes, flag_word_passes, flags_pass, long_passes, option_passes, positional_passes, react_passes}
use Rattle.clap.specs.Takes.{short_passes, use_passes, walk_passes}
use Rattle.clap.specs.Walk.{Outcome, done, waits, plain, action_of, answers_to, arg_by_id, arg_by_long, arg_by_short, attached_value, bundle_met}
use Rattle.clap.specs.Walk.{has_row, is_empty, is_pending, long_met, most_values, values_or_missing, option_met, option_word, reacted, settled_rows}
use Rattle.clap.specs.Walk.{short_met, takes_several, takes_values, used, used_by_id, walked, walked_from}
use Rattle.clap.specs.declared.builder.action.ArgAction.{ArgAction}
use Rattle.clap.specs.declared.builder.action.ArgAction.TheVariants as action
use Rattle.clap.specs.declared.builder.value_parser.ValueParser.{ValueParser}
use Rattle.clap.specs.declared.error.kind.ErrorKind.{ErrorKind}
use Rattle.clap.specs.declared.error.kind.ErrorKind.TheVariants as kind

-- ---- lists of faults

abbrev pub is_none : Kinds → Bool
is_none [] = true
is_none (kind ∷ kinds) = false

pub no_kind : (kinds : Kinds) → is_none kinds ≡ true → kinds ≡ []
no_kind [] is = refl
no_kind (kind ∷ kinds) is = absurd (true≢false (sym is))

none_of_both : (first last : Kinds) → is_none (or_else first last) ≡ (is_none first && is_none last)
none_of_both [] last = refl
none_of_both (kind ∷ kinds) last = refl

pub first_is_empty : (first last : Kinds) → or_else first last ≡ [] → first ≡ []
first_is_empty [] last e = refl
first_is_empty (kind ∷ kinds) last e = e

pub last_is_empty : (first last : Kinds) → or_else first last ≡ [] → last ≡ []
last_is_empty [] last e = e
last_is_empty (kind ∷ kinds) last e = let wrong : kind ∷ kinds ≡ [] = e in cc

-- ---- a part of a parse: it has these faults and passes so, and from P without a fault it leads to Q

pub record Agrees (P : Type 0) (kinds : Kinds) (passes : Bool) (Q : Type 0) : Type 0 where
  pub same : is_none kinds ≡ passes
  pub keeps : kinds ≡ [] → P → Q

nothing : {P : Type 0} → Agrees P [] true P
nothing = record { same = refl; keeps = λ none p. p }

refused : {P Q : Type 0} {kind : ErrorKind} {kinds : Kinds} → Agrees P (kind ∷ kinds) false Q
refused {kind = kind} {kinds = kinds} = record { same = refl; keeps = λ none p. let wrong : kind ∷ kinds ≡ [] = none in cc }

in_turn : {P Q R : Type 0} {kinds more : Kinds} {passes others : Bool} → Agrees P kinds passes Q → Agrees Q more others R
    → Agrees P (or_else kinds more) (passes && others) R
in_turn {kinds = kinds} {more = more} one other =
    record {
      same = none_of_both kinds more ∙ ap₂ (λ passes others. passes && others) one.same other.same;
      keeps = λ none p. other.keeps (last_is_empty kinds more none) (one.keeps (first_is_empty kinds more none) p);
    }

and_so : {P Q R : Type 0} {kinds : Kinds} {passes : Bool} → Agrees P kinds passes Q → (Q → R) → Agrees P kinds passes R
and_so one so = record { same = one.same; keeps = λ none p. so (one.keeps none p) }

accepted : {P : Type 0} (test : Bool) (kind : ErrorKind) → Agrees P (if test then [] else kind ∷ []) test P
accepted true kind = nothing
accepted false kind = refused

unless : {P : Type 0} (one other : Bool) (kind : ErrorKind) (kinds : Kinds) → Agrees P (if one && not other then kind ∷ kinds else []) (not one || other) P
unless true true kind kinds = nothing
unless true false kind kinds = refused
unless false other kind kinds = nothing

strays : {P Q : Type 0} (is_leaf : Bool) → Agrees P (if is_leaf then kind.UnknownArgument ∷ [] else kind.UnknownArgument ∷ kind.InvalidSubcommand ∷ []) false Q
strays true = refused
strays false = refused

-- ---- a use of an argument

values_agree : {P : Type 0} (ignore_case : Bool) (parser : ValueParser) (values : List Text)
    → Agrees P (values_kinds ignore_case parser values) (list_all (accepts ignore_case parser) values) P
values_agree ignore_case parser [] = nothing
values_agree ignore_case parser (one ∷ values) = in_turn (accepted (accepts ignore_case parser one) (refused_kind parser))
    (values_agree ignore_case parser values)

range_same : (least most number : ℕ) → is_none (range_kinds least most number) ≡ (nat_le least number && nat_le number most)
range_same least most number = grind (arith, nat_tests)

set_agrees : (again : Bool) (rule : Rule) (values : List Text) (rows : List Row)
    → Agrees (Unit {0}) (set_fault again rule values rows) (set_passes again rule values rows) (Unit {0})
set_agrees again rule values rows =
    in_turn (unless (has_row rule.id rows) again kind.ArgumentConflict []) (values_agree rule.ignore_case (parser_of_value rule.parser) values)

action_agrees : (what : ArgAction) (again : Bool) (rule : Rule) (values : List Text) (rows : List Row)
    → Agrees (Unit {0}) (action_fault what again rule values rows) (action_passes what again rule values rows) (Unit {0})
action_agrees action.Set again rule values rows = set_agrees again rule values rows
action_agrees action.SetTrue again rule values rows = set_agrees again rule values rows
action_agrees action.SetFalse again rule values rows = set_agrees again rule values rows
action_agrees action.Append again rule values rows = values_agree rule.ignore_case (parser_of_value rule.parser) values
action_agrees action.Count again rule [] rows = accepted _ (refused_kind (parser_of_value rule.parser))
action_agrees action.Count again rule (one ∷ values) rows = values_agree rule.ignore_case (parser_of_value rule.parser) (one ∷ values)
action_agrees _ again rule values rows = refused

pub use_same : (again : Bool) (rule : Rule) (values : List Text) (rows : List Row) → is_none (use_fault again rule values rows)
    ≡ use_passes again rule values rows
use_same again rule values rows =
    let least = (unwrap_or_range rule.range).start_inclusive in
    let used = action_agrees (action_of rule) again rule (values_or_missing rule values) rows in
    none_of_both (range_kinds least (most_values rule) (length values)) (action_fault (action_of rule) again rule (values_or_missing rule values) rows)
    ∙ ap₂ (λ some passes. some && passes) (range_same least (most_values rule) (length values)) used.same
    ∙ and_assoc (nat_le least (length values)) (nat_le (length values) (most_values rule))
    (action_passes (action_of rule) again rule (values_or_missing rule values) rows)

-- a use of the argument that has no fault keeps this of the rows
abbrev pub Keeps : Bool → (List Row → Type 0) → Rule → Type 0
Keeps again Kept rule = (values : List Text) (rows : List Row) → use_fault again rule values rows ≡ [] → Kept rows → Kept (used rule values rows)

-- ---- the walk

module _ (shape : Shape) (Kept : List Row → Type 0) (each : AllByRecursion (Keeps shape.args_override_self Kept) shape.rules) where
  abbrev again : Bool
  again = shape.args_override_self

  abbrev rules : List Rule
  rules = shape.rules

  abbrev Leads : Held → Kinds → Bool → Held → Type 0
  Leads held kinds passes there = Agrees (Kept held.rows) kinds passes (Kept there.rows)

  abbrev FoundKeeps : (Rule → Bool) → Option Rule → Type 0
  FoundKeeps test found = IfSome found (λ rule. Keeps again Kept rule × (test rule ≡ true))

  found_keeps : (test : Rule → Bool) → FoundKeeps test (find test rules)
  found_keeps test = if_found (Keeps again Kept) test rules each

  use_agrees : (rule : Rule) → Keeps again Kept rule → (values : List Text) (rows : List Row)
      → Agrees (Kept rows) (use_fault again rule values rows) (use_passes again rule values rows) (Kept (used rule values rows))
  use_agrees rule keeps values rows = record { same = use_same again rule values rows; keeps = keeps values rows }

  by_id_agrees : (found : Option Rule) (test : Rule → Bool) → FoundKeeps test found → (values : List Text) (rows : List Row)
      → Agrees (Kept rows) (option_map_or (λ rule. use_fault again rule values rows) found [])
      (option_map_or (λ rule. use_passes again rule values rows) found true) (Kept (used_by_id found values rows))
  by_id_agrees None test keeps values rows = nothing
  by_id_agrees (Some rule) test keeps values rows = use_agrees rule keeps.0 values rows

  pending_agrees : (pending : Option (Text × List Text)) (rows : List Row) (skip : ℕ)
      → Agrees (Kept rows) (settle_fault rules again (record { rows = rows; pending = pending; skip = skip }))
      (settle_passes rules again (record { rows = rows; pending = pending; skip = skip })) (Kept (settled_rows rules pending rows))
  pending_agrees None rows skip = nothing
  pending_agrees (Some p) rows skip = by_id_agrees (arg_by_id rules p.0) _ (found_keeps (λ rule. bytes_eq rule.id p.0)) p.1 rows

  settled_agrees : (held : Held)
      → Leads held (settle_fault rules again held) (settle_passes rules again held) (settled rules held)
  settled_agrees held = pending_agrees held.pending held.rows held.skip

  reacted_agrees : (rule : Rule) → Keeps again Kept rule → (values : List Text) (held : Held)
      → Leads held (react_fault rules again rule values held) (react_passes rules again rule values held) (reacted rules rule values held)
  reacted_agrees rule keeps values held = in_turn (settled_agrees held) (use_agrees rule keeps values (settled rules held).rows)

  option_agrees : (rule : Rule) → Keeps again Kept rule → (attached : Option Text) (held : Held)
      → Leads held (option_fault rules again rule attached held) (option_passes rules again rule attached held)
      (option_met rules rule attached held).0
  option_agrees rule keeps (Some text) held = reacted_agrees rule keeps (text ∷ []) held
  option_agrees rule keeps None held = settled_agrees held

  -- ---- flags

  long_agrees : (found : Option Rule) (test : Rule → Bool) → FoundKeeps test found → (is_taking : Bool) → option_map_or takes_values found false ≡ is_taking
      → (attached : Option Text) (held : Held)
      → Leads held (long_fault rules again found attached held) (long_passes rules again found attached held) (long_met rules found attached held).0
  long_agrees None test keeps is_taking is attached held = refused
  long_agrees (Some rule) test keeps true is attached held = rw is (option_agrees rule keeps.0 attached held)
  long_agrees (Some rule) test keeps false is None held = rw is (reacted_agrees rule keeps.0 [] held)
  long_agrees (Some rule) test keeps false is (Some text) held = rw is refused

  short_agrees : (found : Option Rule) (test : Rule → Bool) → FoundKeeps test found → (is_taking : Bool) → option_map_or takes_values found false ≡ is_taking
      → (rest : Text) (held : Held) (faults : Held → Kinds) (passes : Held → Bool) (go_on : Held → Held × Outcome)
      → ((there : Held) → Leads there (faults there) (passes there) (go_on there).0)
      → Leads held (short_fault rules again found rest held faults) (short_passes rules again found rest held passes)
      (short_met rules found rest held go_on).0
  short_agrees None test keeps is_taking is rest held faults passes go_on goes = refused
  short_agrees (Some rule) test keeps true is rest held faults passes go_on goes = rw is (option_agrees rule keeps.0 (attached_value rest) held)
  short_agrees (Some rule) test keeps false is rest held faults passes go_on goes =
      rw is (in_turn (reacted_agrees rule keeps.0 [] held) (goes (reacted rules rule [] held)))

  flags_agree : (most : ℕ) (flags : Text) (character : Option ℕ) → slice_get (chars flags) 0 ≡ character → (skip : ℕ) (so_far : Outcome) (held : Held)
      → Leads held (flags_fault rules again most flags skip held) (flags_pass rules again most flags skip held)
      (bundle_met rules most flags skip so_far held).0
  unfolding bundle_met flags_fault flags_pass
  flags_agree zero flags character is skip so_far held = nothing
  flags_agree (suc most) flags None is skip so_far held = rw is nothing
  flags_agree (suc most) flags (Some x) is zero so_far held =
      rw is (short_agrees (arg_by_short rules x) _ (found_keeps _) _ refl _ held _ _ _ (λ there. flags_agree most _ _ refl 0 done there))
  flags_agree (suc most) flags (Some x) is (suc skip) so_far held = rw is (flags_agree most _ _ refl skip so_far held)

  -- ---- words

  option_word_keeps : (found : Option Rule) (id word : Text) (held : Held) → Kept held.rows → Kept (option_word found id word held).0.rows
  option_word_keeps None id word held kept = kept
  option_word_keeps (Some rule) id word held kept = kept

  plain_keeps : (waiting : Waiting) (word : Text) (held : Held) → Kept held.rows → Kept (plain_word rules waiting word held).0.rows
  plain_keeps (option id) word held kept = option_word_keeps (arg_by_id rules id) id word held kept
  plain_keeps _ word held kept = kept

  after_flag_keeps : (waiting : Waiting) (word : Text) (held : Held) (outcome : Outcome) → Kept held.rows
      → Kept (after_flag rules waiting word held outcome).0.rows
  after_flag_keeps waiting word held done kept = kept
  after_flag_keeps waiting word held (waits id) kept = kept
  after_flag_keeps waiting word held _ kept = plain_keeps waiting word held kept

  flag_word_agrees : (waiting : Waiting) (word : Text) (long : Option (Text × Option Text)) (short : Option Text) → short_of word ≡ short → (held : Held)
      → Leads held (flag_word_fault rules again long word held) (flag_word_passes rules again long word held)
      (long_or_other rules waiting word long held).0
  flag_word_agrees waiting word (Some p) short is held =
      and_so (long_agrees (arg_by_long rules p.0) _ (found_keeps _) _ refl p.1 held) (after_flag_keeps waiting word _ _)
  flag_word_agrees waiting word None (Some flags) is held =
      rw is (and_so (flags_agree _ flags _ refl held.skip plain (record held { skip = 0 })) (after_flag_keeps waiting word _ _))
  flag_word_agrees waiting word None None is held = rw is (and_so nothing (plain_keeps waiting word held))

  other_agrees : (met : Option Text) (waiting : Waiting) (position : ℕ) (word : Text) (held : Held)
      → Leads held (other_fault shape met word held) (other_passes shape met word held) (subcommand_or_other rules met waiting position word held).0
  other_agrees (Some name) waiting position word held =
      unless (bytes_eq name (codes "help")) shape.disable_help_subcommand kind.DisplayHelp (kind.InvalidSubcommand ∷ [])
  other_agrees None waiting position word held = by (bytes_eq word (45 ∷ 45 ∷ []))
    where
      by : (dashes : Bool) → Leads held (if dashes then [] else flag_word_fault rules again (long_of word) word held)
          (dashes || flag_word_passes rules again (long_of word) word held)
          (if dashes then (held, trailing position) else long_or_other rules waiting word (long_of word) held).0
      by true = nothing
      by false = flag_word_agrees waiting word (long_of word) (short_of word) refl held

  word_agrees : (names : Names) (is_trailing : Bool) (waiting : Waiting) (position : ℕ) (word : Text) (held : Held)
      → Leads held (word_fault shape names is_trailing waiting word held) (word_passes shape names is_trailing waiting word held)
      (word_met rules names is_trailing waiting position word held).0
  word_agrees names true waiting position word held = nothing
  word_agrees names false waiting position word held = other_agrees (subcommand_met names waiting word) waiting position word held

  positional_agrees : (found : Option Rule) (word : Text) (w : Walk) (held : Held)
      → Leads held (option_map_or (λ rule. positional_fault rules again rule held) found (stray_fault shape))
      (option_map_or (λ rule. positional_passes rules again rule held) found false) (to_positional rules found word w held).held
  positional_agrees None word w held = strays shape.is_leaf
  positional_agrees (Some rule) word w held = by (is_pending rule held.pending && takes_several rule)
    where
      by : (stays : Bool) → Leads held (if stays then [] else settle_fault rules again held) (stays || settle_passes rules again held)
          (if stays then held else settled rules held)
      by true = nothing
      by false = settled_agrees held

  step_agrees : (word : Text) (w : Walk) (held : Held) (step : Step)
      → Leads held (step_fault shape w.position held step) (step_passes shape w.position held step) (after_step rules word w held step).held
  step_agrees word w held value = positional_agrees (arg_by_index rules w.position) word w held
  step_agrees word w held _ = nothing

  turn_agrees : (names : Names) (w : Walk) (word : Text) (stopped : Option (Text × List Text)) → w.stopped ≡ stopped
      → Leads w.held (turn_fault shape names w word) (turn_passes shape names w word) (walked_from rules names stopped w word).held
  turn_agrees names w word (Some stop) is = let ended : is_some w.stopped ≡ true = ap is_some is in rw ended nothing
  turn_agrees names w word None is =
      let going : is_some w.stopped ≡ false = ap is_some is in
      let met = word_met rules names w.is_trailing w.waiting w.position word w.held in
      rw going (in_turn (word_agrees names w.is_trailing w.waiting w.position word w.held) (step_agrees word w met.0 met.1))

  walk_agrees : (names : Names) (words : List Text) (w : Walk)
      → Leads w.held (walk_fault shape names w words) (walk_passes shape names w words) (fold (walked rules names) w words).held
  unfolding walk_fault walk_passes walked
  walk_agrees names [] w = nothing
  walk_agrees names (word ∷ words) w = in_turn (turn_agrees names w word w.stopped refl) (walk_agrees names words (walked rules names w word))

-- ---- after the walk

requests_agree : {P : Type 0} (what : ArgAction) → Agrees P (request_kinds what) (not (is_request what)) P
requests_agree action.Help = refused
requests_agree action.HelpShort = refused
requests_agree action.HelpLong = refused
requests_agree action.Version = refused
requests_agree _ = nothing

default_same : (has empty : Bool) (kinds : Kinds) (passes : Bool) → is_none kinds ≡ passes → (empty || passes) ≡ true
    → is_none (if has || empty then [] else kinds) ≡ true
default_same true empty kinds passes same is = refl
default_same false true kinds passes same is = refl
default_same false false kinds passes same is = same ∙ is

pub defaults_agree : {P : Type 0} (rules : List Rule) (rows : List Row) → list_all default_passes rules ≡ true → Agrees P (defaults_fault rows rules) true P
unfolding defaults_fault
defaults_agree [] rows pass = nothing
defaults_agree {P} (rule ∷ rules) rows pass =
    let given : Agrees P _ _ P = in_turn (requests_agree (action_of rule)) (values_agree rule.ignore_case (parser_of_value rule.parser) rule.defaults) in
    in_turn (record {
      same = default_same (has_row rule.id rows) (is_empty rule.defaults) _ _ given.same (both (default_passes rule) _ pass).0;
      keeps = λ none p. p;
    })
    (defaults_agree rules _ (both (default_passes rule) _ pass).1)

lacks_one : (required given others : Bool) → ((not required || given) && not others) ≡ not ((required && not given) || others)
lacks_one true true others = refl
lacks_one true false others = refl
lacks_one false given others = refl

all_there : (rules : List Rule) (rows : List Row)
    → list_all (λ rule. not rule.required || is_given rule.id rows) rules ≡ not (list_any (λ rule. rule.required && not (is_given rule.id rows)) rules)
all_there [] rows = refl
all_there (rule ∷ rules) rows = ap (λ all. (not rule.required || is_given rule.id rows) && all) (all_there rules rows)
    ∙ lacks_one rule.required (is_given rule.id rows) _

checks_same : (help any needs has negates lacks : Bool)
    → is_none (check_kinds (not has && (help && not any)) (not has && needs) (not (negates && has) && lacks))
    ≡ ((not help || (has || any)) && ((not needs || has) && ((negates && has) || not lacks)))
checks_same help any needs has negates lacks = grind arith

and_turns : (one other rest : Bool) → (one && (other && rest)) ≡ (other && (one && rest))
and_turns true other rest = refl
and_turns false other rest = sym (and-false other)

abbrev pub is_checked : Shape → Bool
is_checked shape = list_all default_passes shape.rules && list_all (λ rule. rule.is_free) shape.rules

module _ (shape : Shape) (checked : is_checked shape ≡ true) where
  check_agrees : {P : Type 0} (rows : List Row) (has : Bool) → Agrees P (check_fault shape rows has) (is_valid shape rows has) P
  check_agrees rows has =
      record {
        same = checks_same shape.arg_required_else_help (list_any (λ (row : Row). explicit_source row.source) rows) shape.subcommand_required has
            shape.subcommand_negates_reqs (list_any (λ rule. rule.required && not (is_given rule.id rows)) shape.rules)
            ∙ ap₂ (λ free there. (not shape.arg_required_else_help || (has || list_any (λ (row : Row). explicit_source row.source) rows))
            && ((not shape.subcommand_required || has) && (free && ((shape.subcommand_negates_reqs && has) || there))))
            (sym (both (list_all default_passes shape.rules) _ checked).1) (sym (all_there shape.rules rows));
        keeps = λ none p. p;
      }

  module _ (Kept : List Row → Type 0) (each : AllByRecursion (Keeps shape.args_override_self Kept) shape.rules) (names : Names) (words : List Text)
      (has : Bool) (below : Kinds) (passes : Bool) (same : is_none below ≡ passes) where
    abbrev end : Held
    end = (walk shape.rules names nothing_held words).held

    level_agrees : Agrees (Kept []) (level_fault shape names nothing_held words has below)
        (walk_passes shape names (walk_from nothing_held) words
        && (passes && (settle_passes shape.rules shape.args_override_self end && is_valid shape (finished shape.rules end) has)))
        (Kept (settled shape.rules end).rows)
    level_agrees =
        let under : Agrees (Kept end.rows) below passes (Kept end.rows) = record { same = same; keeps = λ none kept. kept } in
        in_turn (walk_agrees shape Kept each names words (walk_from nothing_held))
        (in_turn under (in_turn (settled_agrees shape Kept each end)
        (in_turn (defaults_agree shape.rules (settled shape.rules end).rows (both (list_all default_passes shape.rules) _ checked).0)
        (check_agrees (finished shape.rules end) has))))

    level_same : is_none (level_fault shape names nothing_held words has below) ≡ (passes && level_passes shape names nothing_held words has)
    level_same =
        level_agrees.same ∙ and_turns (walk_passes shape names (walk_from nothing_held) words) passes _
        ∙ ap (λ pass. passes && (walk_passes shape names (walk_from nothing_held) words
        && (settle_passes shape.rules shape.args_override_self end && (pass && is_valid shape (finished shape.rules end) has))))
        (sym (both (list_all default_passes shape.rules) _ checked).0)

-- what a level without a fault keeps
pub level_keeps : (shape : Shape) → is_checked shape ≡ true → (Kept : List Row → Type 0) → AllByRecursion (Keeps shape.args_override_self Kept) shape.rules
    → (words : List Text) → level_fault shape [] nothing_held words false [] ≡ [] → Kept []
    → Kept (settled shape.rules (walk shape.rules [] nothing_held words).held).rows
level_keeps shape checked Kept each words none start = (level_agrees shape checked Kept each [] words false [] true refl).keeps none start

-- ---- the program

abbrev Anything : List Row → Type 0
Anything rows = Unit {0}

keep_anything : (override : Bool) (rules : List Rule) → AllByRecursion (Keeps override Anything) rules
keep_anything override [] = tt
keep_anything override (rule ∷ rules) = (λ values rows none kept. tt, keep_anything override rules)

each_checked : AllByRecursion (λ shape. is_checked shape ≡ true) (built program).subs
each_checked = assumption

entered_same : (stop : Option (Text × List Text)) → is_none (entered_fault (built program) stop) ≡ entered_passes (built program) stop
entered_same None = refl
entered_same (Some p) =
    by (find (λ shape. answers_to p.0 (label_of shape)) (built program).subs)
    (if_found (λ shape. is_checked shape ≡ true) (λ shape. answers_to p.0 (label_of shape)) (built program).subs
    each_checked)
  where
    by : (found : Option Shape) → IfSome found (λ shape. (is_checked shape ≡ true) × (answers_to p.0 (label_of shape) ≡ true))
        → is_none (option_map_or (λ shape. level_fault shape [] nothing_held p.1 false []) found [])
        ≡ option_map_or (λ shape. level_passes shape [] nothing_held p.1 false) found true
    by None checked = refl
    by (Some shape) checked = level_same shape checked.0 Anything (keep_anything shape.args_override_self shape.rules) [] p.1 false [] true refl

pub program_agrees : (words : List Text) → is_none (fault_of program words) ≡ takes program words
program_agrees words =
    level_same (built program).top refl Anything (keep_anything false (built program).top.rules) (names_of (built program)) words _ _ _
    (entered_same (walk (built program).top.rules (names_of (built program)) nothing_held words).stopped)
