-- The numbers of a request are in the ranges of their options and operands.
use Rattle.dcv_command.proofs.Common.{◌≡◌, ◌≤◌, refl, subst, ℕ, Bool, true, false, List, [], ◌∷◌, Option, None, Some, find, option_and_then}
use Rattle.dcv_command.proofs.Common.{if◌then◌else◌, AllByRecursion, bytes_eq, digits_value, without_leading_plus, Row, Text}
use Rattle.dcv_command.proofs.Common.{arith, is_unsigned_in, Unsigned, asked_in, asked_of, number_of, request_of_subcommand, value_in, Argument}
use Rattle.dcv_command.proofs.Common.{Asks, Command, Of, Value, FileName, FileNames, Number, some_names, commands}
use Rattle.std.specs.Prelude.{IfSome, ◌<◌, length}
use Rattle.clap.specs.Words.{all_of, first_of, one_of}
use Rattle.clap.proofs.ValueTestLemmas.{accepts-Accepts}
use Rattle.dcv_command.specs.Request.{IsInRange, request_in}
use Rattle.dcv_command.specs.Table.{Request}
use Rattle.dcv_command.proofs.Lists.{if_found}

-- what is known of each value is known of one that is found
known : {X : Type 0} (P : X → Type 0) → ((x : X) → P x) → (found : Option X) → IfSome found P
known P all None = tt
known P all (Some x) = all x

known_after : {X Y : Type 0} (P : X → Type 0) (Q : Y → Type 0) (next : X → Option Y) → ((x : X) → P x → IfSome (next x) Q) → (found : Option X) → IfSome found P
    → IfSome (option_and_then next found) Q
known_after P Q next later None is = tt
known_after P Q next later (Some x) is = later x is

-- what is given for an argument is in its range
abbrev IsWithin : (value : Value) → Of value → Type 0
IsWithin FileName name = Unit {0}
IsWithin FileNames names = 0 < length names
IsWithin (Number least most) number = (least ≤ number) × (number ≤ most)

number_is_within : (least most : ℕ) (text : Text) → IfSome (number_of least most text) (IsWithin (Number least most))
number_is_within least most text = by (is_unsigned_in least most text) refl
  where
    by : (fits : Bool) → is_unsigned_in least most text ≡ fits
        → IfSome (if fits then Some (digits_value 10 (without_leading_plus text)) else None) (IsWithin (Number least most))
    by true fits = let within = accepts-Accepts false (Unsigned least most) text fits in (within.2, within.3)
    by false fits = tt

some_are_there : (names : List Text) → IfSome (some_names names) (IsWithin FileNames)
some_are_there [] = tt
some_are_there (name ∷ names) = omega arith

value_is_within : (value : Value) (id : Text) (rows : List Row) → IfSome (value_in value id rows) (IsWithin value)
value_is_within FileName id rows = known (λ _. Unit {0}) (λ _. tt) (first_of id rows)
value_is_within FileNames id rows =
    known_after (λ _. Unit {0}) (IsWithin FileNames) some_names (λ names _. some_are_there names) (all_of id rows) (known (λ _. Unit {0}) (λ _. tt) (all_of id rows))
value_is_within (Number least most) id rows =
    known_after (λ _. Unit {0}) (IsWithin (Number least most)) (number_of least most) (λ text _. number_is_within least most text) (one_of id rows)
    (known (λ _. Unit {0}) (λ _. tt) (one_of id rows))

-- what is asked for by values in their ranges is in range
abbrev AsksInRange : (arguments : List Argument) → Asks arguments → Type 0
AsksInRange [] request = IsInRange request
AsksInRange (one ∷ rest) asks = (given : Of one.value) → IsWithin one.value given → AsksInRange rest (asks given)

asked_in_range : (arguments : List Argument) (asks : Asks arguments) (rows : List Row) → AsksInRange arguments asks
    → IfSome (asked_in arguments asks rows) IsInRange
asked_in_range [] request rows fine = fine
asked_in_range (one ∷ rest) asks rows fine =
    known_after (IsWithin one.value) IsInRange (λ given. asked_in rest (asks given) rows)
    (λ given is. asked_in_range rest (asks given) rows (fine given is)) (value_in one.value one.id rows) (value_is_within one.value one.id rows)

abbrev IsFine : Command → Type 0
IsFine command = AsksInRange command.arguments command.asks

each_is_fine : AllByRecursion IsFine commands
each_is_fine = assumption

named_in_range : (name : Text) (rows : List Row) → IfSome (request_in name rows) IsInRange
named_in_range name rows =
    known_after (λ command. IsFine command × (bytes_eq name command.name ≡ true)) IsInRange (λ command. asked_of command rows)
    (λ command is. asked_in_range command.arguments command.asks rows is.0) (find (λ command. bytes_eq name command.name) commands)
    (if_found IsFine (λ command. bytes_eq name command.name) commands each_is_fine)

pub request_is_in_range : (subcommand : Option (Text × List Row)) (request : Request) → request_of_subcommand subcommand ≡ Some request → IsInRange request
request_is_in_range subcommand request is =
    subst (λ found. IfSome found IsInRange) is
    (known_after (λ _. Unit {0}) IsInRange (λ found. request_in found.0 found.1) (λ found _. named_in_range found.0 found.1) subcommand
    (known (λ _. Unit {0}) (λ _. tt) subcommand))
