-- The text of an automaton's tables is read back.
use Rattle.std.proofs.Common.{◌≡◌, ℕ, ◌+◌, ◌≤◌, Bool, true, false, not, ◌&&◌, ◌||◌, ◌==◌, nat_le, List, [], ◌∷◌, ◌++◌, length, map, refl, sym, ap, subst, arith, append_assoc}
use Rattle.std.specs.Prelude.{IsTrue}
use Rattle.std.specs.List.{AllByRecursion, list_all}
use Rattle.std.specs.Char.{is_ascii_digit}
use Rattle.std.proofs.lemmas.Bool.Decides.{nat_tests}
use Rattle.std.proofs.lemmas.List.Elements.{All-from_recursion, recursion_from_All}
use Rattle.dcv_tokens.specs.Tokens.{is_name, is_word, is_word_byte}
use Rattle.dcv_tokens.specs.Limits.{longest_word}
use Rattle.dcv_language.specs.Limits.{most_variables}
use Rattle.dcv_observer.specs.Naming.{is_among, AreDistinct}
use Rattle.dcv_observer.proofs.Naming.{among_here, distinct_apart}
use Rattle.dcv_observer.proofs.ObserverNames.{variables_are_distinct}
use Rattle.dcv_automaton_text.specs.File.{AutomatonFile}
use Rattle.dcv_automaton_text.specs.Rules.{IsPlainName, AreNames, IsGood}
use Rattle.dcv_automaton_file.proofs.ObservedFiles.{good_is_observable}
use Rattle.dcv_c_tables.specs.Unit.{TableNode, Tables}
use Rattle.dcv_c_tables.specs.Rules.{ArePlacedNodes, IsTables}
use Rattle.dcv_c_tables.specs.Layout.{text_of}
use Rattle.dcv_c_tables.specs.Observer.{parameter_name, tables_of}
use Rattle.dcv_c_tables.specs.Laws.{TablesOfFile}
use Rattle.dcv_tables_read.specs.Form.{IsSmallNode, IsNameWord, IsParameter, IsPlainUnit}
use Rattle.dcv_tables_read.specs.Reading.{is_named, keeps_parameters, IsReadAs}
use Rattle.dcv_tables_read.specs.Laws.{TextIsReadBack}
use Rattle.dcv_tables_read.proofs.KeptRules.{AllKept, both_true, true_both, rules_kept}

-- ---- names

names_kept : (earlier names : List (List ℕ)) → AreDistinct (earlier ++ names) → AllByRecursion (λ name. IsTrue (is_named name)) names → AllKept (keeps_parameters earlier names)
names_kept earlier [] distinct named = refl
names_kept earlier (name ∷ names) distinct named =
    let new : is_among earlier name ≡ false = distinct_apart earlier (name ∷ names) distinct name (among_here names name) in
    let rest = names_kept (earlier ++ name ∷ []) names (subst AreDistinct (sym (append_assoc earlier (name ∷ []) names)) distinct) named.1 in
    true_both (is_named name && not (is_among earlier name)) (list_all (λ keeps. keeps) (keeps_parameters (earlier ++ name ∷ []) names))
    (true_both (is_named name) (not (is_among earlier name)) named.0 (ap not new)) rest

all_named : (names : List (List ℕ)) → AllByRecursion IsPlainName names → AllByRecursion (λ name. IsTrue (is_named name)) (map parameter_name names)
all_named [] plain = tt
all_named (name ∷ names) plain =
    let short : nat_le (length name) longest_word ≡ true = grind (arith, nat_tests, plain.0.short) in
    (true_both (is_name name) (nat_le (length name) longest_word) plain.0.form short, all_named names plain.1)

word_of : (name : List ℕ) → IsTrue (is_word name) → IsNameWord name
word_of [] is = absurd cc
word_of (b ∷ name) is =
    let (first, rest) = both_true _ (list_all is_word_byte name) is in
    record { some = omega arith; bytes = true_both (is_word_byte b) (list_all is_word_byte name) (ap (λ (alphabetic : Bool). alphabetic || is_ascii_digit b || b == 95) first) rest }

all_parameters : (names : List (List ℕ)) → AllByRecursion IsPlainName names → AllByRecursion IsParameter (map parameter_name names)
all_parameters [] plain = tt
all_parameters (name ∷ names) plain =
    (record { name = name; word = word_of name (both_true (is_word name) _ plain.0.form).0; is = refl }, all_parameters names plain.1)

-- ---- numbers

small_nodes : (width own bound : ℕ) (nodes : List TableNode) → width ≤ most_variables → own + length nodes ≤ bound → bound ≤ 2000000 → ArePlacedNodes width own nodes
    → AllByRecursion IsSmallNode nodes
small_nodes width own bound [] few within small placed = tt
small_nodes width own bound (node ∷ nodes) few within small placed = (
  record { variable = omega (arith, placed.0.variable, few); high = omega (arith, placed.0.high, within, small); low = omega (arith, placed.0.low, within, small) },
  small_nodes width (own + 1) bound nodes few (omega (arith, within)) small placed.1,
)

plain_unit : (tables : Tables) → IsTables tables → AllByRecursion IsParameter tables.parameters → IsPlainUnit tables
plain_unit tables is parameters =
    record {
      nodes = All-from_recursion IsSmallNode tables.nodes
          (small_nodes (length tables.parameters) (length tables.states) (length tables.states + length tables.nodes) tables.nodes is.few_parameters (omega arith)
          (omega (arith, is.few_states, is.few_nodes)) is.nodes);
      states = λ k d within. record { row = omega (arith, is.rows k d within, is.few_states, is.few_nodes) };
      parameters = All-from_recursion IsParameter tables.parameters parameters;
      few_nodes = omega (arith, is.few_nodes);
      few_states = omega (arith, is.few_states);
      few_parameters = omega (arith, is.few_parameters);
    }

-- ---- the law

module _ (file : AutomatonFile) (good : IsGood file) where
  names : AreNames file.names
  names = (good_is_observable file good).names

  each_name : AllByRecursion IsPlainName file.names
  each_name = recursion_from_All IsPlainName file.names names.each

  parameters_are : AllByRecursion IsParameter (tables_of file).parameters
  unfolding tables_of
  parameters_are = all_parameters file.names each_name

  parameters_kept : AllKept (keeps_parameters [] (tables_of file).parameters)
  unfolding tables_of
  parameters_kept = names_kept [] (map parameter_name file.names) (variables_are_distinct file.names names.differ) (all_named file.names each_name)

  pub read_back : TablesOfFile → IsReadAs (text_of (tables_of file)) (tables_of file)
  read_back observes =
      let rules = (observes file good).rules in
      record {
        form = record { plain = plain_unit (tables_of file) rules parameters_are; spelled = refl };
        keeps = rules_kept (tables_of file) rules parameters_kept;
      }

pub text_is_read_back : TablesOfFile → TextIsReadBack
text_is_read_back observes file good = read_back file good observes
