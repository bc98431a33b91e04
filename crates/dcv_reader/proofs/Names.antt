-- The declared variables of a file that a text without faults spells are names, and none is too long.
use Rattle.std.proofs.Common.{◌≡◌, ◌⊎◌, ℕ, ◌+◌, false, not, length, nat_lt, find, List, [], ◌∷◌, ◌++◌, Option, Some, None, inl, inr, refl, sym, ap, ◌∙◌, subst}
use Rattle.std.specs.Prelude.{Contains, IsSomeAnd}
use Rattle.std.specs.List.{AllByRecursion}
use Rattle.std.proofs.lemmas.Bool.{cases_Bool, and_parts, ltb-false}
use Rattle.std.proofs.lemmas.List.Elements.{All-from_recursion}
use Rattle.dcv_syntax.specs.declared.names.Name.{Name}
use Rattle.dcv_syntax.specs.Plain.{PlainFile}
use Rattle.dcv_grammar.specs.declared.grammar.Symbol.{Symbol}
use Rattle.dcv_grammar.specs.declared.grammar.Symbol.TheVariants.{Class, Rule}
use Rattle.dcv_grammar.specs.Grammar.{IsBody, bodies}
use Rattle.dcv_grammar.specs.Trees.{Nodes, done, leaf, node, AreTrees, leaves}
use Rattle.dcv_grammar.proofs.TreeLaws.{no_trees, class_tree, rule_tree}
use Rattle.dcv_tokens.proofs.ClassLaws.{name_class}
use Rattle.dcv_tokens.specs.Classes.{name, comma, semicolon, word_var, word_infer}
use Rattle.dcv_tokens.specs.Limits.{longest_word, is_long}
use Rattle.dcv_tokens.specs.Tokens.{Token, is_word, is_one_of, reserved_words, is_blank, tokens_from}
use Rattle.dcv_sentence.specs.declared.faults.ReadFault.TheVariants.{Name as TooLong}
use Rattle.dcv_sentence.specs.Language.{language, file_rules, file_rule, declaration_rule, more_names_rule}
use Rattle.dcv_sentence.specs.RuleNumbers.{file, declaration, more_names, macros, formula}
use Rattle.dcv_reader.specs.Nodes.{token_class, name_of}
use Rattle.dcv_reader.specs.Actions.{Part, AToken, Names, AFormula, Macros, AFile, Nothing, action, parts_of, file_part, names_part, more_names_part}
use Rattle.dcv_reader.specs.Laws.{IsShortName, NamesAreShort}

-- ---- each name of a list is a token's

-- what is known of each token, and what follows for names
abbrev GivesShort : Token → Type 0
GivesShort token = token_class token ≡ name → IsShortName (name_of token)

left_of : (one two : List Token) → AllByRecursion GivesShort (one ++ two) → AllByRecursion GivesShort one
left_of [] two all = tt
left_of (token ∷ one) two all = (all.0, left_of one two all.1)

right_of : (one two : List Token) → AllByRecursion GivesShort (one ++ two) → AllByRecursion GivesShort two
right_of [] two all = all
right_of (token ∷ one) two all = right_of one two all.1

pick : (P : List Symbol → Type 0) (all : List (List Symbol)) (body : List Symbol) → AllByRecursion P all → Contains all body → P body
pick P all body each contains = subst P contains.2 (All-from_recursion P all each contains.0 body contains.1)

abbrev Are : List Symbol → Nodes Token → Type 0
Are symbols trees = AreTrees language token_class symbols trees

abbrev more_body : List Symbol
more_body = Class comma ∷ Class name ∷ Rule more_names ∷ []

abbrev declared_body : List Symbol
declared_body = Class word_var ∷ Class name ∷ Rule more_names ∷ Class semicolon ∷ []

more_by_body : (body : List Symbol) (inner : Nodes Token) → IsBody language more_names body → Are body inner → Are [] inner ⊎ Are more_body inner
unfolding language file_rules
more_by_body body inner is are =
    pick (λ body. Are body inner → Are [] inner ⊎ Are more_body inner) (bodies more_names_rule) body (inl, (inr, tt)) is are

declared_by_body : (body : List Symbol) (inner : Nodes Token) → IsBody language declaration body → Are body inner → Are [] inner ⊎ Are declared_body inner
unfolding language file_rules
declared_by_body body inner is are =
    pick (λ body. Are body inner → Are [] inner ⊎ Are declared_body inner) (bodies declaration_rule) body (inl, (inr, tt)) is are

-- the rule stands for short names
abbrev StandsForShort : ℕ → Nodes Token → Type 0
StandsForShort rule inner = (names : List Name) × (action rule (parts_of inner) ≡ Names names) × AllByRecursion IsShortName names

more_are_short : (inner : Nodes Token) → Are [] inner ⊎ Are more_body inner → AllByRecursion GivesShort (leaves inner) → StandsForShort more_names inner
more_are_short done (inl are) short = ([], refl, tt)
more_are_short done (inr are) short = absurd are
more_are_short (leaf a next) (inl are) short = absurd are
more_are_short (node rule inner next) (inl are) short = absurd are
more_are_short (node rule inner next) (inr are) short = absurd are
more_are_short (leaf a done) (inr are) short = absurd are.1
more_are_short (leaf a (node rule inner next)) (inr are) short = absurd are.1
more_are_short (leaf a (leaf b done)) (inr are) short = absurd are.1.1
more_are_short (leaf a (leaf b (leaf c next))) (inr are) short = absurd are.1.1
more_are_short (leaf a (leaf b (node rule inner next))) (inr are) short =
    let is_rule : rule ≡ more_names = are.1.1.0 in
    let (body, is_body, inside) = are.1.1.1 in
    let (names, stands, are_short) = more_are_short inner (more_by_body body inner is_body inside) (left_of (leaves inner) (leaves next) short.1.1) in
    let ended : next ≡ done = no_trees language token_class next are.1.1.2 in (
      name_of b ∷ names,
      ap (λ next. more_names_part (AToken a ∷ AToken b ∷ action rule (parts_of inner) ∷ parts_of next)) ended
          ∙ ap (λ part. more_names_part (AToken a ∷ AToken b ∷ part ∷ [])) (ap (λ rule. action rule (parts_of inner)) is_rule ∙ stands),
      (short.1.0 are.1.0, are_short),
    )

declared_are_short : (inner : Nodes Token) → Are [] inner ⊎ Are declared_body inner → AllByRecursion GivesShort (leaves inner) → StandsForShort declaration inner
declared_are_short done (inl are) short = ([], refl, tt)
declared_are_short (leaf a next) (inl are) short = absurd are
declared_are_short (node rule inner next) (inl are) short = absurd are
declared_are_short inner (inr are) short =
    let (var, behind, is_var, class_var, names_then) = class_tree language token_class word_var _ inner are in
    let (first, behind_name, is_name, class_name, more_then) = class_tree language token_class name _ behind names_then in
    let (body, more, behind_more, is_more, is_body, inside, end_then) = rule_tree language token_class more_names _ behind_name more_then in
    let (end, nothing, is_end, class_end, none) = class_tree language token_class semicolon [] behind_more end_then in
    let whole : inner ≡ leaf var (leaf first (node more_names more (leaf end nothing))) =
    is_var ∙ ap (leaf var) (is_name ∙ ap (leaf first) (is_more ∙ ap (node more_names more) is_end)) in
    let all = subst (λ (trees : Nodes Token). AllByRecursion GivesShort (leaves trees)) whole short in
    let (names, stands, are_short) = more_are_short more (more_by_body body more is_body inside) (left_of (leaves more) (leaves (leaf end nothing)) all.1.1) in
    let ended : nothing ≡ done = no_trees language token_class nothing none in (
      name_of first ∷ names,
      ap (λ trees. names_part (parts_of trees)) (whole ∙ ap (λ trees. leaf var (leaf first (node more_names more (leaf end trees)))) ended)
          ∙ ap (λ part. names_part (AToken var ∷ AToken first ∷ part ∷ AToken end ∷ [])) stands,
      (all.1.0 class_name, are_short),
    )

-- ---- the file's names are those of its declaration

variables_of : Part → List Name
variables_of (AFile file) = file.variables
variables_of _ = []

names_of : Part → List Name
names_of (Names names) = names
names_of _ = []

names_in_file : (file : PlainFile) (one two three : Part) (a b : Token) → file_part (one ∷ two ∷ AToken a ∷ three ∷ AToken b ∷ []) ≡ AFile file → file.variables ≡ names_of one
unfolding variables_of names_of
names_in_file file (Names variables) (Macros macros) (AFormula goal) a b is = sym (ap variables_of is)
names_in_file file (Names variables) (Macros macros) three a b is = let never : Nothing ≡ AFile file = is in cc
names_in_file file (Names variables) two three a b is = let never : Nothing ≡ AFile file = is in cc
names_in_file file one two three a b is = let never : Nothing ≡ AFile file = is in cc

names_listed : (part : Part) (names : List Name) → part ≡ Names names → names_of part ≡ names
unfolding names_of
names_listed part names is = ap names_of is

first_part : List Part → Part
first_part [] = Nothing
first_part (part ∷ parts) = part

abbrev file_body : List Symbol
file_body = Rule declaration ∷ Rule macros ∷ Class word_infer ∷ Rule formula ∷ Class semicolon ∷ []

file_by_body : (body : List Symbol) (inner : Nodes Token) → IsBody language file body → Are body inner → Are file_body inner
unfolding language file_rules
file_by_body body inner is are = pick (λ body. Are body inner → Are file_body inner) (bodies file_rule) body (λ h. h, tt) is are

inside_is_short : (f : PlainFile) (inner : Nodes Token) → Are file_body inner → file_part (parts_of inner) ≡ AFile f → AllByRecursion GivesShort (leaves inner)
    → AllByRecursion IsShortName f.variables
inside_is_short f inner are stands short =
    let (body, declared, behind, is_declared, is_body, inside, then_macros) = rule_tree language token_class declaration _ inner are in
    let (body_2, listed, behind_2, is_listed, is_body_2, inside_2, then_infer) = rule_tree language token_class macros _ behind then_macros in
    let (infer, behind_3, is_infer, class_infer, then_goal) = class_tree language token_class word_infer _ behind_2 then_infer in
    let (body_4, goal, behind_4, is_goal, is_body_4, inside_4, then_end) = rule_tree language token_class formula _ behind_3 then_goal in
    let (end, nothing, is_end, class_end, none) = class_tree language token_class semicolon [] behind_4 then_end in
    let first : inner ≡ node declaration declared behind = is_declared in
    let later : behind ≡ node macros listed (leaf infer (node formula goal (leaf end done))) =
    is_listed ∙ ap (node macros listed) (is_infer ∙ ap (leaf infer) (is_goal ∙ ap (node formula goal) (is_end ∙ ap (leaf end) (no_trees language token_class nothing none)))) in
    let whole : inner ≡ node declaration declared (node macros listed (leaf infer (node formula goal (leaf end done)))) = first ∙ ap (node declaration declared) later in
    let (names, names_stand, are_short) =
    declared_are_short declared (declared_by_body body declared is_body inside)
    (left_of (leaves declared) (leaves behind) (subst (λ (trees : Nodes Token). AllByRecursion GivesShort (leaves trees)) first short)) in
    let same : f.variables ≡ names =
    names_in_file f (action declaration (parts_of declared)) (action macros (parts_of listed)) (action formula (parts_of goal)) infer end
    (sym (ap (λ (trees : Nodes Token). file_part (parts_of trees)) whole) ∙ stands) ∙ names_listed (action declaration (parts_of declared)) names names_stand in
    subst (λ (names : List Name). AllByRecursion IsShortName names) (sym same) are_short

variables_are_short : (tree : Nodes Token) (f : PlainFile) → Are (Rule file ∷ []) tree → parts_of tree ≡ AFile f ∷ [] → AllByRecursion GivesShort (leaves tree)
    → AllByRecursion IsShortName f.variables
unfolding first_part
variables_are_short tree f are stands short =
    let (body, inner, behind, is, is_body, inside, none) = rule_tree language token_class file [] tree are in
    let stands_inside : file_part (parts_of inner) ≡ AFile f = ap first_part (sym (ap parts_of is) ∙ stands) in
    inside_is_short f inner (file_by_body body inner is_body inside) stands_inside
    (left_of (leaves inner) (leaves behind) (subst (λ (trees : Nodes Token). AllByRecursion GivesShort (leaves trees)) is short))

-- ---- what is known of each token

is_short : (token : Token) → is_long token ≡ false → GivesShort token
is_short token short class =
    let form = name_class token.bytes class in
    let word = (and_parts (is_word token.bytes) (not (is_one_of reserved_words token.bytes)) form).0 in
    let low : nat_lt longest_word (length token.bytes) ≡ false = sym (rw word refl) ∙ short in
    record { form = form; short = ltb-false longest_word (length token.bytes) low }

each_is_short : (start : ℕ) (pieces : List (List ℕ)) → find is_long (tokens_from start pieces) ≡ None
    → AllByRecursion GivesShort (tokens_from start pieces)
each_is_short start [] none = tt
each_is_short start (piece ∷ pieces) none = elim (cases_Bool (is_blank piece)) [
  | inl blank ↦ rw blank (each_is_short (start + length piece) pieces (rw blank at none))
  | inr not_blank ↦
      let token : Token = record { bytes = piece; start = start } in
      let found : find is_long (token ∷ tokens_from (start + length piece) pieces) ≡ None = rw not_blank at none in
      rw not_blank (elim (cases_Bool (is_long token)) [
        | inl long ↦ let never : Some token ≡ None = rw long at found in cc
        | inr short ↦ (is_short token short, each_is_short (start + length piece) pieces (rw short at found))
      ])
]

no_long : (found : Option Token) → ((at : ℕ) → IsSomeAnd found (λ token. at ≡ token.start) → ⊥) → found ≡ None
no_long None none = refl
no_long (Some token) none = absurd (none token.start refl)

pub names_are_short : NamesAreShort
unfolding language
names_are_short text f (pieces, cut, (tree, is, stands)) faultless =
    let tokens = tokens_from 0 pieces in
    let none = no_long (find is_long tokens) (λ at there. faultless (TooLong at) (tokens, [], record { pieces = pieces; cut = cut; among = refl }, there)) in
    All-from_recursion IsShortName f.variables
    (variables_are_short tree f is.derived stands
    (subst (λ (tokens : List Token). AllByRecursion GivesShort tokens) (sym is.whole) (each_is_short 0 pieces none)))
