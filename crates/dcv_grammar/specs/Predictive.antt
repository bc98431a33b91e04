-- The test that the next class alone decides which body is taken, without end and without a wrong turn: the conditions of
-- LL(1) grammars, with a rule's other body taken at any class that picks none.
--     Hint                     what is noted of a rule: whether it may be empty, what comes first in it, and what never stands after it
--     agrees, picks            what is noted agrees with a body, and the bodies of a rule are told apart by the next class
--     hints_of rules           the notes of all rules: taken again, from nothing, until nothing changes
--     is_predictive grammar    the rules pass by their notes
--     IsPredictive grammar     the grammar passes the test
use Rattle.std.specs.Prelude.{ℕ, zero, suc, ◌+◌, ◌*◌, max, Bool, true, false, ◌&&◌, ◌||◌, not, List, [], ◌∷◌, if◌then◌else◌, nat_eq, nat_lt, nat_le, length, map, IsTrue}
use Rattle.std.specs.List.{list_all}
use Rattle.dcv_grammar.specs.declared.grammar.Symbol.{Symbol}
use Rattle.dcv_grammar.specs.declared.grammar.Symbol.TheVariants.{Class, Rule}
use Rattle.dcv_grammar.specs.Grammar.{Alternative, Production, ContextFree, bodies}
use Rattle.dcv_grammar.specs.ClassSet.{ClassSet, none, only, union, is_within, is_apart, kept_if, set_of}

-- What is noted of a rule.
pub record Hint : Type 0 where
  pub empty : Bool  -- it may derive nothing
  pub first : ClassSet  -- what may come first in what it derives
  pub never : ClassSet  -- what may never stand after it
  pub weight : ℕ  -- falls when a body is taken in its place
  pub height : ℕ  -- falls when the other body is taken in its place

abbrev pub nothing_noted : Hint
nothing_noted = record { empty = false; first = none; never = none; weight = 0; height = 0 }

-- what is noted of the rule of a number
abbrev pub hint_at : List Hint → ℕ → Hint
hint_at [] number = nothing_noted
hint_at (hint ∷ hints) zero = hint
hint_at (hint ∷ hints) (suc number) = hint_at hints number

-- whether symbols may derive nothing
abbrev pub is_empty : List Hint → List Symbol → Bool
is_empty hints [] = true
is_empty hints (Class class ∷ symbols) = false
is_empty hints (Rule number ∷ symbols) = (hint_at hints number).empty && is_empty hints symbols

-- what may come first in what symbols derive
abbrev pub first_of : List Hint → List Symbol → ClassSet
first_of hints [] = none
first_of hints (Class class ∷ symbols) = only class
first_of hints (Rule number ∷ symbols) =
    let hint = hint_at hints number in union hint.first (kept_if hint.empty (first_of hints symbols))

-- what may never stand after symbols
abbrev pub never_behind : List Hint → List Symbol → ClassSet
never_behind hints [] = none
never_behind hints (Class class ∷ symbols) = never_behind hints symbols
never_behind hints (Rule number ∷ symbols) =
    union (kept_if (is_empty hints symbols) (hint_at hints number).never) (never_behind hints symbols)

-- the weight of what may stand before the first class
abbrev pub weight_of : List Hint → List Symbol → ℕ
weight_of hints [] = 0
weight_of hints (Class class ∷ symbols) = 0
weight_of hints (Rule number ∷ symbols) =
    let hint = hint_at hints number in hint.weight + (if hint.empty then weight_of hints symbols else 0)

-- a height above that of each rule among the symbols
abbrev pub height_above : List Hint → List Symbol → ℕ
height_above hints [] = 0
height_above hints (Class class ∷ symbols) = height_above hints symbols
height_above hints (Rule number ∷ symbols) = max ((hint_at hints number).height + 1) (height_above hints symbols)

-- no symbol is followed by what may never stand after it
abbrev pub is_guarded : List Hint → List Symbol → Bool
is_guarded hints [] = true
is_guarded hints (Class class ∷ symbols) = is_guarded hints symbols
is_guarded hints (Rule number ∷ symbols) =
    is_apart (hint_at hints number).never (first_of hints symbols) && is_guarded hints symbols

-- each rule among the symbols has a number below the count
abbrev pub are_known : ℕ → List Symbol → Bool
are_known count [] = true
are_known count (Class class ∷ symbols) = are_known count symbols
are_known count (Rule number ∷ symbols) = nat_lt number count && are_known count symbols

-- what is noted of a rule agrees with one of its bodies
abbrev pub agrees : List Hint → Hint → List Symbol → Bool
agrees hints hint body =
    are_known (length hints) body
    && (not (is_empty hints body) || hint.empty)
    && is_within (first_of hints body) hint.first
    && is_within (never_behind hints body) hint.never
    && is_guarded hints body
    && nat_lt (weight_of hints body) hint.weight

-- Each alternative derives something, and begins with its own classes alone, of which no earlier one has any; the other body begins with none of them.
abbrev pub picks : List Hint → ClassSet → List Alternative → List Symbol → Bool
picks hints taken [] otherwise = is_apart taken (first_of hints otherwise)
picks hints taken (alternative ∷ alternatives) otherwise =
    let classes = set_of alternative.classes in
    let first = first_of hints alternative.body in
    not (is_empty hints alternative.body) && is_within first classes && is_apart taken first
    && picks hints (union taken classes) alternatives otherwise

-- the classes of the alternatives
abbrev pub all_classes : List Alternative → ClassSet
all_classes [] = none
all_classes (alternative ∷ alternatives) = union (set_of alternative.classes) (all_classes alternatives)

-- what is noted of a rule agrees with the rule
abbrev pub is_rule_predictive : List Hint → Hint → Production → Bool
is_rule_predictive hints hint rule =
    let otherwise = rule.otherwise in
    list_all (agrees hints hint) (bodies rule)
    && picks hints none rule.alternatives otherwise
    && (not (is_empty hints otherwise) || is_within (all_classes rule.alternatives) hint.never)
    && nat_le (height_above hints otherwise) hint.height

abbrev pub are_rules_predictive : List Hint → List Hint → List Production → Bool
are_rules_predictive all [] [] = true
are_rules_predictive all (hint ∷ hints) (rule ∷ rules) = is_rule_predictive all hint rule && are_rules_predictive all hints rules
are_rules_predictive all hints rules = false

-- what bodies say of a rule, where the rules in them are as noted
abbrev pub noted_of_bodies : List Hint → List (List Symbol) → Hint
noted_of_bodies hints [] = nothing_noted
noted_of_bodies hints (body ∷ more) =
    let rest = noted_of_bodies hints more in
    record {
      empty = is_empty hints body || rest.empty;
      first = union (first_of hints body) rest.first;
      never = union (never_behind hints body) rest.never;
      weight = max (weight_of hints body + 1) rest.weight;
      height = 0;
    }

abbrev pub noted : List Hint → Production → Hint
noted hints rule =
    let otherwise = rule.otherwise in
    let of_bodies = noted_of_bodies hints (bodies rule) in
    record of_bodies {
      never = union (kept_if (is_empty hints otherwise) (all_classes rule.alternatives)) of_bodies.never;
      height = height_above hints otherwise;
    }

abbrev pub are_same : List Hint → List Hint → Bool
are_same (a ∷ more_a) (b ∷ more_b) =
    (if a.empty then b.empty else not b.empty) && nat_eq a.first b.first && nat_eq a.never b.never
    && nat_eq a.weight b.weight && nat_eq a.height b.height && are_same more_a more_b
are_same more_a more_b = true

-- notes again until nothing changes
abbrev pub settled : ℕ → Bool → List Production → List Hint → List Hint
settled zero is_settled rules hints = hints
settled (suc rounds) true rules hints = hints
settled (suc rounds) false rules hints =
    let more = map (noted hints) rules in settled rounds (are_same hints more) rules more

abbrev pub hints_of : List Production → List Hint
hints_of rules = settled (4 * length rules + 4) false rules (map (λ rule. nothing_noted) rules)

abbrev pub is_predictive : ContextFree → Bool
is_predictive grammar =
    let hints = hints_of grammar.productions in
    nat_lt grammar.start (length hints) && are_rules_predictive hints hints grammar.productions

-- the grammar passes the test
unfoldable pub IsPredictive : ContextFree → Type 0
IsPredictive grammar = IsTrue (is_predictive grammar)
