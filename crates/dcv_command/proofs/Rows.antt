-- The rows of a parse: which one an argument has at the end, and the value that is read from it.
use Rattle.dcv_command.proofs.Common.{◌≡◌, refl, sym, ap, ◌∙◌, subst, Bool, true, false, List, [], ◌∷◌, ◌++◌, Option, None, Some, find, fold, not}
use Rattle.dcv_command.proofs.Common.{◌&&◌, ◌||◌, if◌then◌else◌, option_and_then, option_map, option_map_or, is_some, AllByRecursion, list_all}
use Rattle.dcv_command.proofs.Common.{list_any, bytes_eq, append-nil, digits_value, without_leading_plus, bytes_eq-Decides, true≢false, both, Row}
use Rattle.dcv_command.proofs.Common.{Rule, Text, reading_of, explicit_source, is_given, accepts, has_row, with_default, check_kinds, number_of, some_names, Of}
use Rattle.dcv_command.proofs.Common.{value_in, Argument, Form, WithDefault, Value, FileName, FileNames, Number, value_of}
use Rattle.std.specs.Prelude.{IfSome, slice_get}
use Rattle.std.specs.Option.{option_or}
use Rattle.std.proofs.ByRecursion.{All-append}
use Rattle.std.proofs.lemmas.List.Folds.{find-append}
use Rattle.clap.specs.Values.{read_as}
use Rattle.clap.specs.Walk.{arg_by_id, at_row, default_rows, more_values, reading_by, row_text, used, used_as, with_values}
use Rattle.clap.specs.declared.builder.value_parser.Reading.{Reading}
use Rattle.clap.specs.declared.builder.value_parser.Reading.TheVariants.{AsWritten}
use Rattle.clap.specs.declared.parser.matches.ValueSource.{ValueSource}
use Rattle.clap.specs.declared.parser.matches.ValueSource.TheVariants.{CommandLine, DefaultValue}
use Rattle.dcv_command.proofs.Arguments.{are_apart, AreLookedUp, IsLookedUp, Numbered, action_for, built_rule, built_rules, defaults_of, is_list, is_required, numbered, parser}
use Rattle.dcv_command.proofs.Lists.{any_is_found, each_fails, if_found, none_found}

-- the row of an argument that had none
abbrev pub new_row : Text → Reading → ValueSource → List Text → Row
new_row id how source values = record { id = id; values = values; count = None; source = Some source; reading = how }

abbrev pub given_row : Argument → List Text → Row
given_row one texts = new_row one.id (reading_of (parser one.value)) CommandLine texts

abbrev pub row_named : Text → List Row → Option Row
row_named id rows = find (λ row. bytes_eq row.id id) rows

-- ---- a row more

at_row_after : (id : Text) (change : Row → List Row) (missing rows others : List Row) → has_row id rows ≡ false
    → at_row id change missing (rows ++ others) ≡ rows ++ at_row id change missing others
at_row_after id change missing [] others none = refl
at_row_after id change missing (row ∷ rows) others none = by (bytes_eq row.id id) none (at_row_after id change missing rows others)
  where
    by : (same : Bool) → (same || has_row id rows) ≡ false
        → (has_row id rows ≡ false → at_row id change missing (rows ++ others) ≡ rows ++ at_row id change missing others)
        → (if same then change row ++ (rows ++ others) else row ∷ at_row id change missing (rows ++ others)) ≡ row ∷ (rows ++ at_row id change missing others)
    by true none later = absurd (true≢false none)
    by false none later = ap (λ rest. row ∷ rest) (later none)

at_row_behind : (id : Text) (change : Row → List Row) (missing rows : List Row) → has_row id rows ≡ false → at_row id change missing rows ≡ rows ++ missing
at_row_behind id change missing rows none = ap (at_row id change missing) (sym (append-nil rows)) ∙ at_row_after id change missing rows [] none

-- what is true of each row stays so
pub all_at_row : (P : Row → Type 0) (id : Text) (change : Row → List Row) (missing rows : List Row)
    → ((row : Row) → bytes_eq row.id id ≡ true → P row → AllByRecursion P (change row)) → AllByRecursion P missing → AllByRecursion P rows
    → AllByRecursion P (at_row id change missing rows)
all_at_row P id change missing [] changed new all = new
all_at_row P id change missing (row ∷ rows) changed new (one, others) = by (bytes_eq row.id id) refl (all_at_row P id change missing rows changed new others)
  where
    by : (same : Bool) → bytes_eq row.id id ≡ same → AllByRecursion P (at_row id change missing rows)
        → AllByRecursion P (if same then change row ++ rows else row ∷ at_row id change missing rows)
    by true is later = All-append P (change row) rows (changed row is one) others
    by false is later = (one, later)

-- a first use of an argument
pub used_behind : (at : Numbered) (text : Text) (rows : List Row) → has_row at.1.id rows ≡ false
    → used (built_rule at) (text ∷ []) rows ≡ rows ++ given_row at.1 (text ∷ []) ∷ []
used_behind at text rows none = by (is_list at.1.value)
  where
    behind : with_values at.1.id (reading_of (parser at.1.value)) CommandLine (text ∷ []) rows ≡ rows ++ given_row at.1 (text ∷ []) ∷ []
    behind = at_row_behind at.1.id (more_values CommandLine (text ∷ [])) (given_row at.1 (text ∷ []) ∷ []) rows none

    by : (list : Bool) → used_as (action_for list) at.1.id (reading_of (parser at.1.value)) (text ∷ []) rows ≡ rows ++ given_row at.1 (text ∷ []) ∷ []
    by true = behind
    by false = ap (with_values at.1.id (reading_of (parser at.1.value)) CommandLine (text ∷ []))
        (at_row_behind at.1.id (λ _. []) [] rows none ∙ append-nil rows) ∙ behind

-- a further use of a list
pub used_again : (at : Numbered) (text : Text) (texts : List Text) (rows : List Row) → is_list at.1.value ≡ true → has_row at.1.id rows ≡ false
    → used (built_rule at) (text ∷ []) (rows ++ given_row at.1 texts ∷ []) ≡ rows ++ given_row at.1 (texts ++ text ∷ []) ∷ []
used_again at text texts rows list none =
    ap (λ list. used_as (action_for list) at.1.id (reading_of (parser at.1.value)) (text ∷ []) (rows ++ given_row at.1 texts ∷ [])) list
    ∙ at_row_after at.1.id (more_values CommandLine (text ∷ [])) (given_row at.1 (text ∷ []) ∷ []) rows (given_row at.1 texts ∷ []) none
    ∙ ap (λ same. rows ++ (if same then given_row at.1 (texts ++ text ∷ []) ∷ [] else given_row at.1 texts ∷ given_row at.1 (text ∷ []) ∷ []))
    ((bytes_eq-Decides at.1.id at.1.id).1 refl)

-- ---- the defaults

abbrev pub default_row : Rule → List Text → Option Row
default_row rule [] = None
default_row rule (value ∷ values) = Some (new_row rule.id (reading_by rule) DefaultValue (value ∷ values))

or_none : (found : Option Row) → option_or found None ≡ found
or_none None = refl
or_none (Some row) = refl

or_there : (found other : Option Row) → is_some found ≡ true → option_or found other ≡ found
or_there None other some = absurd (true≢false (sym some))
or_there (Some row) other some = refl

-- what a default changes of what an argument has
after_default : (rule : Rule) (rows : List Row) (id : Text)
    → row_named id (with_default rows rule) ≡ (if bytes_eq rule.id id then option_or (row_named id rows)
    (default_row rule rule.defaults) else row_named id rows)
after_default rule rows id = by (has_row rule.id rows) (bytes_eq rule.id id) rule.defaults refl refl
  where
    behind : (value : Text) (values : List Text) → has_row rule.id rows ≡ false
        → row_named id (default_rows rule.id (reading_by rule) (value ∷ values) rows)
        ≡ option_or (row_named id rows) (if bytes_eq rule.id id then default_row rule (value ∷ values) else None)
    behind value values none =
        ap (row_named id) (at_row_behind rule.id (more_values DefaultValue (value ∷ values)) _ rows none) ∙ find-append (λ row. bytes_eq row.id id) rows _

    by : (has same : Bool) (values : List Text) → has_row rule.id rows ≡ has → bytes_eq rule.id id ≡ same
        → row_named id (if has then rows else default_rows rule.id (reading_by rule) values rows)
        ≡ (if same then option_or (row_named id rows) (default_row rule values) else row_named id rows)
    by true false values has is = refl
    by true true values has is =
        sym (or_there (row_named id rows) _ (sym (any_is_found (λ (row : Row). bytes_eq row.id id) rows)
        ∙ ap (λ id. has_row id rows) (sym ((bytes_eq-Decides rule.id id).0 is)) ∙ has))
    by false true [] has is = sym (or_none (row_named id rows))
    by false false [] has is = refl
    by false true (value ∷ values) has is =
        behind value values has ∙ ap (λ same. option_or (row_named id rows) (if same then default_row rule (value ∷ values) else None)) is
    by false false (value ∷ values) has is =
        behind value values has ∙ ap (λ same. option_or (row_named id rows) (if same then default_row rule (value ∷ values) else None)) is
        ∙ or_none (row_named id rows)

abbrev pub default_of : Option Rule → Option Row
default_of found = option_and_then (λ rule. default_row rule rule.defaults) found

-- what an argument has at the end
pub found_after : (rules : List Rule) (rows : List Row) (id : Text) → are_apart rules ≡ true
    → row_named id (fold with_default rows rules) ≡ option_or (row_named id rows) (default_of (arg_by_id rules id))
found_after [] rows id apart = sym (or_none (row_named id rows))
found_after (rule ∷ rules) rows id apart =
    found_after rules (with_default rows rule) id parts.1 ∙ ap (λ found. option_or found (default_of (arg_by_id rules id))) (after_default rule rows id)
    ∙ by (bytes_eq rule.id id) refl
  where
    parts : (list_all (λ (other : Rule). not (bytes_eq other.id rule.id)) rules ≡ true) × (are_apart rules ≡ true)
    parts = both (list_all (λ (other : Rule). not (bytes_eq other.id rule.id)) rules) (are_apart rules) apart

    by : (same : Bool) → bytes_eq rule.id id ≡ same
        → option_or (if same then option_or (row_named id rows) (default_row rule rule.defaults) else row_named id rows) (default_of (arg_by_id rules id))
        ≡ option_or (row_named id rows) (default_of (if same then Some rule else arg_by_id rules id))
    by false is = refl
    by true is =
        ap (λ found. option_or (option_or (row_named id rows) (default_row rule rule.defaults)) (default_of found))
        (none_found (λ (other : Rule). bytes_eq other.id id) rules
        (subst (λ id. list_all (λ (other : Rule). not (bytes_eq other.id id)) rules ≡ true) ((bytes_eq-Decides rule.id id).0 is) parts.0))
        ∙ or_none _

-- ---- what is read

-- what the texts of an argument stand for
abbrev pub read_of : (value : Value) → List Text → Option (Of value)
read_of FileName texts = slice_get texts 0
read_of FileNames texts = some_names texts
read_of (Number least most) texts = option_and_then (number_of least most) (slice_get texts 0)

pub one_is_read : (value : Value) (text : Text) → accepts false (parser value) text ≡ true → read_of value (text ∷ []) ≡ Some (value_of value text)
one_is_read FileName text accepted = refl
one_is_read FileNames text accepted = refl
one_is_read (Number least most) text accepted = ap (λ (kept : Bool). if kept then Some (digits_value 10 (without_leading_plus text)) else None) accepted

-- what is known of texts, by the name of their argument
abbrev Says : (Argument → List Text → Type 0) → List Argument → Text → List Text → Type 0
Says P arguments id texts = IfSome (find (λ other. bytes_eq other.1.id id) (numbered arguments 1)) (λ at. P at.1 texts)

-- the values of an argument are written so, and this is known of them
pub record IsReadable (P : Argument → List Text → Type 0) (arguments : List Argument) (row : Row) : Type 0 where
  pub as_written : row.reading ≡ AsWritten
  pub says : Says P arguments row.id row.values

pub record IsRead (P : Argument → List Text → Type 0) (rows : List Row) (one : Argument) : Type 0 where
  pub texts : List Text
  pub value : value_in one.value one.id rows ≡ read_of one.value texts
  pub is : P one texts

as_written : (value : Value) → reading_of (parser value) ≡ AsWritten
as_written FileName = refl
as_written FileNames = refl
as_written (Number least most) = refl

value_is_there : (value : Value) (id : Text) (rows : List Row) (row : Row) → row_named id rows ≡ Some row → row.reading ≡ AsWritten
    → value_in value id rows ≡ read_of value row.values
value_is_there FileName id rows row found how = ap (option_and_then (λ (row : Row). slice_get row.values 0)) found
value_is_there FileNames id rows row found how = ap (λ row. option_and_then some_names (option_map (λ (row : Row). row.values) row)) found
value_is_there (Number least most) id rows row found how =
    ap (λ row. option_and_then (number_of least most) (option_and_then row_text row)) found
    ∙ ap (λ how. option_and_then (number_of least most) (option_map (read_as how) (slice_get row.values 0))) how
    ∙ ap (option_and_then (number_of least most)) (by (slice_get row.values 0))
  where
    by : (text : Option Text) → option_map (read_as AsWritten) text ≡ text
    by None = refl
    by (Some text) = refl

lacks_none : (lacks : Bool) → check_kinds false false lacks ≡ [] → lacks ≡ false
lacks_none true none = cc
lacks_none false none = refl

given_if : (required given : Bool) → (required && not given) ≡ false → required ≡ true → given ≡ true
given_if true true lacks is = refl
given_if true false lacks is = absurd (true≢false lacks)
given_if false given lacks is = absurd (true≢false (sym is))

-- P of the default, if there is one
abbrev pub OfDefault : (Text → Type 0) → Form → Type 0
OfDefault P (WithDefault text) = P text
OfDefault P _ = Unit {0}

module _ (P : Argument → List Text → Type 0) (arguments : List Argument) where
  pub readable : (at : Numbered) → IsLookedUp arguments at → (texts : List Text) (source : ValueSource) → P at.1 texts
      → IsReadable P arguments (new_row at.1.id (reading_of (parser at.1.value)) source texts)
  readable at looked_up texts source is =
      record {
        as_written = as_written at.1.value;
        says = subst (λ found. IfSome found (λ other. P other.1 texts)) (sym looked_up.argument) is;
      }

  module _ (looked_up : AreLookedUp arguments) (rows : List Row) (all : AllByRecursion (IsReadable P arguments) rows)
      (none : check_kinds false false
      (list_any (λ rule. rule.required && not (is_given rule.id (fold with_default rows (built_rules arguments)))) (built_rules arguments)) ≡ []) where
    abbrev at_last : List Row
    at_last = fold with_default rows (built_rules arguments)

    module _ (at : Numbered) (is : IsLookedUp arguments at) where
      read_from : (row : Row) → row_named at.1.id at_last ≡ Some row → bytes_eq row.id at.1.id ≡ true → IsReadable P arguments row → IsRead P at_last at.1
      read_from row found named can =
          record {
            texts = row.values;
            value = value_is_there at.1.value at.1.id at_last row found can.as_written;
            is = subst (λ found. IfSome found (λ other. P other.1 row.values)) is.argument
                (subst (λ id. Says P arguments id row.values) ((bytes_eq-Decides row.id at.1.id).0 named) can.says);
          }

      required : is_required at.1.form ≡ true → is_given at.1.id at_last ≡ true
      required =
          let lacks : (is_required at.1.form && not (is_given at.1.id at_last)) ≡ false =
          (subst (λ found. IfSome found (λ rule. ((rule.required && not (is_given rule.id at_last)) ≡ false) × (bytes_eq rule.id at.1.id ≡ true))) is.by_id
          (if_found (λ (rule : Rule). (rule.required && not (is_given rule.id at_last)) ≡ false) (λ (rule : Rule). bytes_eq rule.id at.1.id)
          (built_rules arguments)
          (each_fails (λ (rule : Rule). rule.required && not (is_given rule.id at_last)) (built_rules arguments) (lacks_none _ none)))).0 in
          given_if (is_required at.1.form) (is_given at.1.id at_last) lacks

      -- after the words each argument is read, from its row or as its default
      pub is_read : (row_named at.1.id rows ≡ None → OfDefault (λ text. P at.1 (text ∷ [])) at.1.form) → IsRead P at_last at.1
      is_read default = by (row_named at.1.id rows) refl (if_found (IsReadable P arguments) (λ row. bytes_eq row.id at.1.id) rows all)
        where
          after : row_named at.1.id at_last ≡ option_or (row_named at.1.id rows) (default_row (built_rule at) (defaults_of at.1.form))
          after = found_after (built_rules arguments) rows at.1.id looked_up.rules_apart
              ∙ ap (λ found. option_or (row_named at.1.id rows) (default_of found)) is.by_id

          left_out : (form : Form) → OfDefault (λ text. P at.1 (text ∷ [])) form → (is_required form ≡ true → is_given at.1.id at_last ≡ true)
              → row_named at.1.id at_last ≡ default_row (built_rule at) (defaults_of form) → IsRead P at_last at.1
          left_out (WithDefault text) can must found =
              read_from _ found ((bytes_eq-Decides at.1.id at.1.id).1 refl) (readable at is (text ∷ []) DefaultValue can)
          left_out _ can must found =
              absurd (true≢false (sym (must refl) ∙ ap (λ found. option_map_or (λ (row : Row). explicit_source row.source) found false) found))

          by : (found : Option Row) → row_named at.1.id rows ≡ found → IfSome found (λ row. IsReadable P arguments row × (bytes_eq row.id at.1.id ≡ true))
              → IsRead P at_last at.1
          by (Some row) is can = read_from row (after ∙ ap (λ found. option_or found (default_row (built_rule at) (defaults_of at.1.form))) is) can.1 can.0
          by None is can = left_out at.1.form (default is) required
              (after ∙ ap (λ found. option_or found (default_row (built_rule at) (defaults_of at.1.form))) is)
