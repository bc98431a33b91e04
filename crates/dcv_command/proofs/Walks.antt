-- The walk of `clap` over a command's words, word by word: what is held after each operand and option, and what is asked for at the end.
use Rattle.dcv_command.proofs.Common.{◌≡◌, refl, ap, ◌∙◌, List, ℕ, [], ◌∷◌, None, Some, fold, false, bytes_eq, Kinds, Shape, Text, fault_of, program}
use Rattle.dcv_command.proofs.Common.{or_else, Held, Waiting, Walk, finished, idle, long_of, nothing_held, after_step, plain_word, settled, short_of}
use Rattle.dcv_command.proofs.Common.{subcommand_met, walk, walk_from, check_fault, settle_fault, step_fault, turn_fault, asked_of}
use Rattle.dcv_command.proofs.Common.{request_of_subcommand, request_in, Command, ◌<◌, sym, Bool, true, ◌++◌, Option, map, arith, ◌&&◌, ◌+◌}
use Rattle.dcv_command.proofs.Common.{if◌then◌else◌, option_map_or, bytes_eq-Decides, Row, Rule, accepts, has_row, Step, after_flag, long_or_other}
use Rattle.dcv_command.proofs.Common.{not, option, positional, to_positional, trailing, value, IsOption, has_name, Argument}
use Rattle.std.proofs.Common.{ap₂, min}
use Rattle.std.specs.Prelude.{nat_lt}
use Rattle.std.proofs.Math.Bool.{and-false}
use Rattle.std.proofs.Math.Nat.{min-eq_left}
use Rattle.clap.specs.Walk.{walked, is_append, is_pending, long_met, option_word, pushed, used, used_by_id}
use Rattle.clap.specs.Faults.{action_fault, defaults_fault, walk_fault, flag_word_fault, long_fault, positional_fault, stray_fault, use_fault}
use Rattle.clap.specs.Lexer.{usize_max}
use Rattle.clap.specs.Values.{refused_kind}
use Rattle.clap.specs.declared.error.kind.ErrorKind.TheVariants.{ArgumentConflict}
use Rattle.clap.proofs.WalkLemmas.{list_any-map}
use Rattle.dcv_command.specs.Listed.{AskFor, Values, words_of}
use Rattle.dcv_command.specs.Request.{Request}
use Rattle.dcv_command.proofs.Commands.{IsCommand, asked_below, built_command, faults_below, found_below}
use Rattle.dcv_command.proofs.NumberTexts.{HasNoDash}
use Rattle.dcv_command.proofs.TakenWords.{taken_passes}
use Rattle.dcv_command.proofs.Arguments.{IsLookedUp, Numbered, action_for, built_rule, built_rules, built_shape, flag, is_list, of_operand, of_option, parser}
use Rattle.dcv_command.proofs.Rows.{given_row, used_again, used_behind}

-- a walk that is not stopped, and reads flags
abbrev pub going : Held → Waiting → ℕ → Walk
going held waiting position = record { held = held; waiting = waiting; position = position; is_trailing = false; stopped = None }

pub record Goes (shape : Shape) (w : Walk) (word : Text) (next : Walk) : Type 0 where
  pub no_fault : turn_fault shape [] w word ≡ []
  pub goes : walked shape.rules [] w word ≡ next

no_flag : (word : Text) → HasNoDash word → (bytes_eq word (45 ∷ 45 ∷ []) ≡ false) × (long_of word ≡ None) × (short_of word ≡ None)
no_flag [] none = absurd none
no_flag (first ∷ rest) none = (rw none refl, rw none refl, rw none refl)

none_met : (waiting : Waiting) (word : Text) → subcommand_met [] waiting word ≡ None
none_met idle word = refl
none_met _ word = refl

-- a step over a word that does not begin with a dash
pub plain_goes : (shape : Shape) (held : Held) (waiting : Waiting) (position : ℕ) (word : Text) (next : Walk) → HasNoDash word
    → step_fault shape position (plain_word shape.rules waiting word held).0 (plain_word shape.rules waiting word held).1 ≡ []
    → after_step shape.rules word (going held waiting position) (plain_word shape.rules waiting word held).0 (plain_word shape.rules waiting word held).1 ≡ next
    → Goes shape (going held waiting position) word next
unfolding walked
plain_goes shape held waiting position word next none no_fault taken =
    let flag = no_flag word none in
    record { no_fault = rw (none_met waiting word, flag.0, flag.1, flag.2) no_fault; goes = rw (none_met waiting word, flag.0, flag.1, flag.2) taken }

-- word by word from a walk to the end
pub data Runs (shape : Shape) (end : Walk) : Walk → List Text → Type 0 where
  at_end : Runs shape end end []
  more : {w next : Walk} {word : Text} {words : List Text} → Goes shape w word next → Runs shape end next words → Runs shape end w (word ∷ words)

run_ends : (shape : Shape) (end w : Walk) (words : List Text) → Runs shape end w words → fold (walked shape.rules []) w words ≡ end
run_ends shape end w [] at_end = refl
run_ends shape end w (word ∷ words) (more one rest) =
    ap (λ there. fold (walked shape.rules []) there words) one.goes ∙ run_ends shape end _ words rest

no_fault_on : (shape : Shape) (end w : Walk) (words : List Text) → Runs shape end w words → walk_fault shape [] w words ≡ []
unfolding walk_fault
no_fault_on shape end w [] at_end = refl
no_fault_on shape end w (word ∷ words) (more one rest) =
    ap (λ kinds. or_else kinds (walk_fault shape [] (walked shape.rules [] w word) words)) one.no_fault
    ∙ ap (λ there. walk_fault shape [] there words) one.goes ∙ no_fault_on shape end _ words rest

-- ---- what is asked for

-- the faults after the walk
abbrev pub faults_at_end : Shape → Held → Kinds
faults_at_end shape held =
    or_else (settle_fault shape.rules shape.args_override_self held)
    (or_else (defaults_fault (settled shape.rules held).rows shape.rules) (check_fault shape (finished shape.rules held) false))

-- a run without a fault at its end asks for what the rows ask for
pub ask_for : (command : Command) → IsCommand command → (words : List Text) (end : Walk) (request : Request)
    → Runs (built_command command) end (walk_from nothing_held) words → faults_at_end (built_command command) end.held ≡ []
    → asked_of command (finished (built_command command).rules end.held) ≡ Some request → AskFor (command.name ∷ words) request
ask_for command is words end request runs none asked =
    record {
      taken = taken;
      passes = taken_passes (command.name ∷ words) taken;
      asked = ap request_of_subcommand (found_below command is words)
          ∙ ap (λ (w : Walk). request_in command.name (finished shape.rules w.held)) ended
          ∙ asked_below command is words (finished shape.rules end.held) ∙ asked;
    }
  where
    shape : Shape
    shape = built_command command

    ended : walk shape.rules [] nothing_held words ≡ end
    ended = run_ends shape end (walk_from nothing_held) words runs

    taken : fault_of program (command.name ∷ words) ≡ []
    taken =
        faults_below command is words
        ∙ ap (λ kinds. or_else kinds (faults_at_end shape (walk shape.rules [] nothing_held words).held))
        (no_fault_on shape end (walk_from nothing_held) words runs)
        ∙ ap (λ (w : Walk). faults_at_end shape w.held) ended ∙ none

-- ---- operands and options

abbrev pub given_by : Values → Argument → Row
given_by values one = given_row one (words_of one.value (values one))

abbrev pub at_rest : List Row → Held
at_rest rows = record { rows = rows; pending = None; skip = 0 }

-- an argument with its value is pending
abbrev pub holding : List Row → Text → Text → Held
holding rows id text = record { rows = rows; pending = Some (id, text ∷ []); skip = 0 }

abbrev pub waiting_for : List Row → Text → Held
waiting_for rows id = record { rows = rows; pending = Some (id, []); skip = 0 }

-- these rows have been met
pub record Holds (arguments : List Argument) (held : Held) (rows : List Row) : Type 0 where
  pub settles : settled (built_rules arguments) held ≡ at_rest rows
  pub no_fault : settle_fault (built_rules arguments) false held ≡ []

pub nothing_holds : (arguments : List Argument) → Holds arguments nothing_held []
nothing_holds arguments = record { settles = refl; no_fault = refl }

pub has_given_row : (values : Values) (id : Text) (done : List Argument) → has_row id (map (given_by values) done) ≡ has_name id done
has_given_row values id done = sym (list_any-map (λ (row : Row). bytes_eq row.id id) (given_by values) done)

-- after a word for an operand, by whether it is a list
abbrev pub resting : Bool → Waiting
resting list = if list then positional else idle

abbrev pub next_to : Bool → ℕ → ℕ
next_to list place = if list then place else place + 1

module _ (arguments : List Argument) (held : Held) (rows : List Row) (before : Holds arguments held rows) (at : Numbered)
    (is : IsLookedUp arguments at) (text : Text) where
  abbrev rules : List Rule
  rules = built_rules arguments

  -- a use more, whose value has been read
  holds_use : (next : List Row) → used (built_rule at) (text ∷ []) rows ≡ next → (has_row at.1.id rows && not (is_list at.1.value)) ≡ false
      → accepts false (parser at.1.value) text ≡ true → Holds arguments (holding rows at.1.id text) next
  holds_use next used_so free fits =
      record {
        settles = ap (λ found. at_rest (used_by_id found (text ∷ []) rows)) is.by_id ∙ ap at_rest used_so;
        no_fault = ap (λ found. option_map_or (λ rule. use_fault false rule (text ∷ []) rows) found []) is.by_id ∙ by (is_list at.1.value) free;
      }
    where
      by : (list : Bool) → (has_row at.1.id rows && not list) ≡ false → action_fault (action_for list) false (built_rule at) (text ∷ []) rows ≡ []
      by true free = ap (λ fits. or_else (if fits then [] else refused_kind (parser at.1.value) ∷ []) []) fits
      by false free =
          ap₂ (λ has fits. or_else (if has then ArgumentConflict ∷ [] else []) (or_else (if fits then [] else refused_kind (parser at.1.value) ∷ []) []))
          free fits

  -- the first of an argument
  pub holds_one : has_row at.1.id rows ≡ false → accepts false (parser at.1.value) text ≡ true
      → Holds arguments (holding rows at.1.id text) (rows ++ given_row at.1 (text ∷ []) ∷ [])
  holds_one none = holds_use (rows ++ given_row at.1 (text ∷ []) ∷ []) (used_behind at text rows none) (ap (λ has. has && not (is_list at.1.value)) none)

  module _ (name : Text) (no_dash : HasNoDash text) where
    abbrev shape : Shape
    shape = built_shape name arguments

    -- its operand, where no option waits
    pub operand_goes : (waiting : Waiting) → ◌≡◌ {A = Held × Step} (plain_word rules waiting text held) (held, value) → (IsOption at.1.form → ⊥) → at.0 < 2000 → (list : Bool)
        → is_list at.1.value ≡ list → Goes shape (going held waiting at.0) text (going (holding rows at.1.id text) (resting list) (next_to list at.0))
    operand_goes waiting plain operand few list same =
        let several = and-false (is_pending (built_rule at) held.pending) in
        plain_goes shape held waiting at.0 text (end list) no_dash
        (ap (λ met. step_fault shape at.0 met.0 met.1) plain
        ∙ ap (λ found. option_map_or (λ rule. positional_fault rules false rule held) found (stray_fault shape)) (of_operand _ at.1.form operand is.by_index)
        ∙ ap (λ several. if several then [] else settle_fault rules false held) several ∙ before.no_fault)
        (ap (λ met. after_step rules text (going held waiting at.0) met.0 met.1) plain
        ∙ ap (λ found. to_positional rules found text (going held waiting at.0) held) (of_operand _ at.1.form operand is.by_index)
        ∙ ap (λ several. gone (pushed at.1.id text (if several then held else settled rules held)) (is_list at.1.value)) several
        ∙ ap (λ there. gone (pushed at.1.id text there) (is_list at.1.value)) before.settles
        ∙ ap (gone (holding rows at.1.id text)) same ∙ by list)
      where
        end : Bool → Walk
        end list = going (holding rows at.1.id text) (resting list) (next_to list at.0)

        gone : Held → Bool → Walk
        gone there list = going there (if is_append (action_for list) then positional else idle)
            (if is_append (action_for list) then at.0 else min (at.0 + 1) usize_max)

        by : (list : Bool) → gone (holding rows at.1.id text) list ≡ end list
        by true = refl
        by false = ap (going (holding rows at.1.id text) idle) (min-eq_left (omega arith))

    abbrev flag_met : Waiting → ℕ → Bool → Option (Text × Option Text) → Held × Step
    flag_met waiting place dashes long = if dashes then (held, trailing place) else long_or_other rules waiting (flag at.1.id) long held

    abbrev named_met : Waiting → Option Rule → Held × Step
    named_met waiting found = after_flag rules waiting (flag at.1.id) (long_met rules found None held).0 (long_met rules found None held).1

    -- the flag of its option, and the word after that
    pub flag_goes : (waiting : Waiting) (place : ℕ) → IsOption at.1.form
        → Goes shape (going held waiting place) (flag at.1.id) (going (waiting_for rows at.1.id) (option at.1.id) place)
    unfolding walked
    flag_goes waiting place is_option =
        record {
          no_fault = rw (none_met waiting (flag at.1.id)) (ap₂ (λ dashes long. or_else (if dashes then [] else flag_word_fault rules false long (flag at.1.id) held)
              (step_fault shape place (flag_met waiting place dashes long).0 (flag_met waiting place dashes long).1)) is.no_dashes is.is_flag
              ∙ ap (λ found. or_else (long_fault rules false found None held)
              (step_fault shape place (named_met waiting found).0 (named_met waiting found).1)) (of_option _ at.1.form is_option is.by_long)
              ∙ ap (λ kinds. or_else kinds []) before.no_fault);
          goes = rw (none_met waiting (flag at.1.id)) (ap₂ (λ dashes long. after_step rules (flag at.1.id) (going held waiting place)
              (flag_met waiting place dashes long).0
              (flag_met waiting place dashes long).1) is.no_dashes is.is_flag
              ∙ ap (λ found. after_step rules (flag at.1.id) (going held waiting place) (named_met waiting found).0 (named_met waiting found).1)
              (of_option _ at.1.form is_option is.by_long)
              ∙ ap (λ there. going (record there { pending = Some (at.1.id, []) }) (option at.1.id) place) before.settles);
        }

    pub value_goes : (place : ℕ) → Goes shape (going (waiting_for rows at.1.id) (option at.1.id) place) text (going (holding rows at.1.id text) idle place)
    value_goes place =
        plain_goes shape (waiting_for rows at.1.id) (option at.1.id) place text (going (holding rows at.1.id text) idle place) no_dash refl
        (ap (λ found. going (option_word found at.1.id text (waiting_for rows at.1.id)).0
        (option_word found at.1.id text (waiting_for rows at.1.id)).1 place) is.by_id
        ∙ ap (λ same. going (holding rows at.1.id text) (if nat_lt (if same then 1 else 0) 1 then option at.1.id else idle) place)
        ((bytes_eq-Decides at.1.id at.1.id).1 refl))

-- a further name of a list
pub holds_more : (arguments : List Argument) (rows : List Row) (at : Numbered) (texts : List Text) (held : Held)
    → Holds arguments held (rows ++ given_row at.1 texts ∷ []) → IsLookedUp arguments at → is_list at.1.value ≡ true → has_row at.1.id rows ≡ false → (text : Text)
    → accepts false (parser at.1.value) text ≡ true
    → Holds arguments (holding (rows ++ given_row at.1 texts ∷ []) at.1.id text) (rows ++ given_row at.1 (texts ++ text ∷ []) ∷ [])
holds_more arguments rows at texts held before is list none text =
    holds_use arguments held (rows ++ given_row at.1 texts ∷ []) before at is text _ (used_again at text texts rows list none)
    (ap (λ list. has_row at.1.id (rows ++ given_row at.1 texts ∷ []) && not list) list ∙ and-false _)
