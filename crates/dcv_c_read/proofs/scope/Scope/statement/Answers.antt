use Rattle.std.proofs.Common.{ℕ, Bool, List, Option}
use Rattle.dcv_lexer.specs.Cuts.{Token}
use Rattle.dcv_c.specs.Tree.{CUnit}
use Rattle.dcv_c_read.specs.declared.placed.PlacedStatement.TheVariants.{When}
use Rattle.dcv_c_read.specs.Scope.{Frame}
use Rattle.dcv_c_read.proofs.Forms.{told_by_form, told_of_same, leads_with_knows, first_left, second_left}
use Rattle.dcv_c_read.proofs.scope.Scope.statement.Goals as goal

pub returns-in-Assign : goal.returns-in-Assign
returns-in-Assign c = λ (frame : Frame) knows (unit : CUnit) lefts (whole : Option ℕ) (words : List Token) (keeps : List Bool).
    told_by_form frame unit whole words keeps c.assign.new.self c.assign.result c.in-Assign.is (λ left. c.assign.ensures frame knows whole words keeps (first_left c.in-Assign.left.bytes.now lefts left))

pub returns-in-When : goal.returns-in-When
returns-in-When c = λ (frame : Frame) knows (unit : CUnit) lefts (whole : Option ℕ) (words : List Token) (keeps : List Bool).
    told_by_form frame unit whole words keeps c.args.self.now c.when.result c.in-When.is (λ left.
    leads_with_knows frame unit whole words keeps c.args.self.now (When c.in-When.made) c.when.result knows
    (told_of_same frame unit whole words keeps c.args.self.now c.when.result c.deref.ensures (c.when.ensures frame knows whole words keeps)
    (second_left c.in-When.made.value.left.bytes.now lefts left)))
