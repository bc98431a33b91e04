-- The names are the values of the row, of which there is one at least.
use Rattle.dcv_command.proofs.Common.{◌≡◌, ◌<◌, refl, sym, ap, ◌∙◌, List, [], ◌∷◌, Option, None, Some, length, map, option_and_then, option_map, arith, found_of}
use Rattle.dcv_command.proofs.Common.{some_names, Text}
use Rattle.std.specs.Borrow.{Bor}
use Rattle.clap.specs.Words.{matched_of, raw_values, rows_of}
use Rattle.clap.specs.declared.parser.matches.Found.{Found}
use Rattle.clap.proofs.WalkLemmas.{raw_values-rows}
use Rattle.dcv_command.specs.Request.{names_in}
use Rattle.dcv_command.proofs.words.names_in.Goals as goal

abbrev named : List (Bor Text) → List Text
named names = map (λ name. name.now) names

abbrev kept_of : Option (Bor (List (Bor Text))) → Option (List Text)
kept_of found = option_and_then some_names (option_map (λ names. named names.now) found)

kept_is : (f : Found) (id : Text) (found : Option (Bor (List (Bor Text)))) → option_map (λ names. named names.now) found ≡ option_map raw_values (matched_of f id)
    → kept_of found ≡ names_in id (rows_of f)
kept_is f id found has = ap (option_and_then some_names) (has ∙ raw_values-rows f id)

none_named : (names : List (Bor Text)) → length names ≡ 0 → None ≡ some_names (named names)
none_named [] none = refl
none_named (name ∷ names) none = absurd (omega arith)

some_named : (names : List (Bor Text)) → 0 < length names → Some (named names) ≡ some_names (named names)
some_named [] some = absurd (omega arith)
some_named (name ∷ names) some = refl

pub returns-in_default : goal.returns-in_default
returns-in_default c =
    ap kept_of (sym c.in_default.is) ∙ kept_is (found_of c.args.matches.now) c.args.id.now c.get_strs.result c.get_strs.ensures

pub returns-then-is_empty : goal.returns-then-is_empty
returns-then-is_empty c =
    let none : length c.in-Some.names.now ≡ 0 = grind (arith, c.is_empty.ensures, c.if-is_empty.true, c.if-is_empty.ensures) in
    none_named c.in-Some.names.now none ∙ ap kept_of (sym c.in-Some.is) ∙ kept_is (found_of c.args.matches.now) c.args.id.now c.get_strs.result c.get_strs.ensures

pub returns : goal.returns
returns c =
    let some : 0 < length c.in-Some.names.now = grind (arith, c.is_empty.ensures, c.if-is_empty.false, c.if-is_empty.ensures) in
    ap (λ names. Some (named names)) (c.in_ok-to_vec.ensures.items_if_clones_equal (λ x y same. same)) ∙ some_named c.in-Some.names.now some
    ∙ ap kept_of (sym c.in-Some.is) ∙ kept_is (found_of c.args.matches.now) c.args.id.now c.get_strs.result c.get_strs.ensures
