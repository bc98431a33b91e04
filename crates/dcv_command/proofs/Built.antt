-- A command with arguments and subcommands that are added one after another.
use Rattle.dcv_command.proofs.Common.{◌≡◌, ◌<◌, refl, sym, ap, ◌∙◌, ℕ, List, [], ◌∷◌, ◌++◌, drop, fold, length, map, ◌+◌, append-nil, App}
use Rattle.dcv_command.proofs.Common.{Rule, Shape, with_rule, with_subcommand}
use Rattle.std.proofs.Common.{get_or}
use Rattle.std.proofs.lemmas.List.{append_assoc, at_drop_more}
use Rattle.clap.specs.Simple.{on_top}

pub rules_added : {X Y : Type 0} (rule : Y → Rule) (seen : X → Y) (xs : List X) (app : App)
    → fold (λ app x. with_rule app (rule (seen x))) app xs ≡ on_top (λ shape. record shape { rules = shape.rules ++ map rule (map seen xs) }) app
rules_added rule seen [] app = ap (λ rules. on_top (λ shape. record shape { rules = rules }) app) (sym (append-nil app.top.rules))
rules_added rule seen (x ∷ xs) app =
    rules_added rule seen xs (with_rule app (rule (seen x)))
    ∙ ap (λ rules. on_top (λ shape. record shape { rules = rules }) app) (append_assoc app.top.rules (rule (seen x) ∷ []) (map rule (map seen xs)))

pub shapes_added : {X : Type 0} (shape : X → Shape) (xs : List X) (app : App)
    → fold (λ app x. with_subcommand app (shape x)) app xs ≡ fold with_subcommand app (map shape xs)
shapes_added shape [] app = refl
shapes_added shape (x ∷ xs) app = shapes_added shape xs (with_subcommand app (shape x))

-- what is added of a list, one element on
pub one_more : {X Y : Type 0} (add : Y → X → Y) (xs : List X) (place : ℕ) (default : X) (before after all : Y) → place < length xs
    → after ≡ add before (get_or xs place default) → fold add before (drop place xs) ≡ all → fold add after (drop (place + 1) xs) ≡ all
one_more add xs place default before after all within is sofar =
    ap (λ y. fold add y (drop (place + 1) xs)) is ∙ sym (at_drop_more (fold add before) xs place default within) ∙ sofar
