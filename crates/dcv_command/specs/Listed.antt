-- Words that are always taken: a command's name, its operands, and then its options in any order, each with its value.
--     Values                     a value for each argument
--     words_of value given       what is given for an argument, as words, one for each name: a number in decimal
--     operand_words values arguments
--                                the words of the operands among the arguments, in order
--     option_words values given  the words of these options, each after its name
--     IsFileName name            the name is not empty, and does not begin with a dash
--     AreGiven values arguments given
--                                these options are of the arguments, each once, those that must be there among them; what is given is
--                                in its range, and what is not given has its default
--     asked_with arguments asks values
--                                what these values ask for
--     AskFor words request       the words are taken, and ask for the request
--     limits_by_default          the limits of a command without options
use Rattle.std.specs.Prelude.{◌≡◌, ◌≢◌, ◌≤◌, Bool, true, false, List, [], ◌∷◌, ◌++◌, ◌&&◌, not, Contains, Some, codes}
use Rattle.std.specs.List.{AllByRecursion, list_any}
use Rattle.std.specs.Fmt.{decimal}
use Rattle.std.specs.Str.{byte, bytes_eq}
use Rattle.clap.specs.Words.{Text, takes}
use Rattle.dcv_explore.specs.declared.explorer.Limits.{Limits}
use Rattle.dcv_command.specs.Program.{program}
use Rattle.dcv_command.specs.Request.{Request, IsTaken, request_of}
use Rattle.dcv_command.specs.Table.{Argument, Asks, Form, Operand, Required, WithDefault, Of, Value, FileName, FileNames, Number, limits_of, value_of}

abbrev pub Values : Type 0
Values = (argument : Argument) → Of argument.value

abbrev pub words_of : (value : Value) → Of value → List Text
words_of FileName name = name ∷ []
words_of FileNames names = names
words_of (Number least most) number = decimal number ∷ []

abbrev pub if_operand : Form → List Text → List Text → List Text
if_operand Operand own words = own ++ words
if_operand Required own words = words
if_operand (WithDefault text) own words = words

abbrev pub operand_words : Values → List Argument → List Text
operand_words values [] = []
operand_words values (one ∷ rest) = if_operand one.form (words_of one.value (values one)) (operand_words values rest)

abbrev pub option_words : Values → List Argument → List Text
option_words values [] = []
option_words values (one ∷ rest) = (codes "--" ++ one.id) ∷ words_of one.value (values one) ++ option_words values rest

abbrev pub IsFileName : Text → Type 0
IsFileName [] = ⊥
IsFileName (first ∷ rest) = first ≢ byte "-"

abbrev pub AreFileNames : List Text → Type 0
AreFileNames [] = ⊥
AreFileNames (name ∷ names) = IsFileName name × AllByRecursion IsFileName names

abbrev pub CanBeGiven : (value : Value) → Of value → Type 0
CanBeGiven FileName name = IsFileName name
CanBeGiven FileNames names = AreFileNames names
CanBeGiven (Number least most) number = (least ≤ number) × (number ≤ most)

abbrev pub IsOption : Form → Type 0
IsOption Operand = ⊥
IsOption Required = Unit {0}
IsOption (WithDefault text) = Unit {0}

-- whether an argument with this name is among them
abbrev pub has_name : Text → List Argument → Bool
has_name id arguments = list_any (λ one. bytes_eq one.id id) arguments

abbrev pub are_distinct : List Argument → Bool
are_distinct [] = true
are_distinct (one ∷ rest) = not (has_name one.id rest) && are_distinct rest

abbrev pub OrElse : Bool → Type 0 → Type 0 → Type 0
OrElse true P Q = P
OrElse false P Q = Q

-- whether it is given, by its form
abbrev pub IsChosen : Form → (value : Value) → Of value → Bool → Type 0
IsChosen Operand value given is_given = CanBeGiven value given
IsChosen Required value given is_given = (is_given ≡ true) × CanBeGiven value given
IsChosen (WithDefault text) value given is_given = OrElse is_given (CanBeGiven value given) (given ≡ value_of value text)

pub record AreGiven (values : Values) (arguments given : List Argument) : Type 0 where
  pub options : AllByRecursion (λ one. Contains arguments one × IsOption one.form) given
  pub once : are_distinct given ≡ true
  pub chosen : AllByRecursion (λ one. IsChosen one.form one.value (values one) (has_name one.id given)) arguments

abbrev pub asked_with : (arguments : List Argument) → Asks arguments → Values → Request
asked_with [] request values = request
asked_with (one ∷ rest) asks values = asked_with rest (asks (values one)) values

-- (that they are taken is said by both of `clap`'s definitions: it finds no fault in them, and they pass its test)
pub record AskFor (words : List Text) (request : Request) : Type 0 where
  pub taken : IsTaken words
  pub passes : takes program words ≡ true
  pub asked : request_of words ≡ Some request

abbrev pub limits_by_default : Limits
limits_by_default = limits_of 30000 1000000
