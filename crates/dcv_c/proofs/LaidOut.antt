-- The text of a unit is laid out: each piece ends where it does.
use Rattle.std.proofs.Common.{◌≡◌, ℕ, true, List, [], ◌∷◌, ◌++◌, refl}
use Rattle.std.proofs.Common.{codes}
use Rattle.std.specs.List.{AllByRecursion}
use Rattle.std.proofs.lemmas.Bool.{and_parts}
use Rattle.dcv_lexer.specs.Lexicon.{is_orderly}
use Rattle.dcv_observer.specs.Classes.{is_short_word}
use Rattle.dcv_observer.specs.Pieces.{Piece, Text, first_byte, IsPieceBefore, IsLaidOut}
use Rattle.dcv_observer.specs.Layouts.{Layout, Newline, ◌<>◌, Each, Joined}
use Rattle.dcv_observer.proofs.LaidOut.{append_laid}
use Rattle.dcv_observer.proofs.Words.{stops, word_before, number_before}
use Rattle.dcv_observer.proofs.PieceLists.{each_laid}
use Rattle.dcv_c.specs.Classes.{lexicon}
use Rattle.dcv_c.specs.Tree.{Item, Constant, Named, Condition, Holds, Equals, Test, Right, Plain, Chosen, Statement, Assign, When}
use Rattle.dcv_c.specs.Tree.{Returned, Fixed, Read, Tested, Assignment, CUnit}
use Rattle.dcv_c.specs.Form.{IsName, IsItem, IsCondition, IsRight, IsStatement, IsTest, IsReturned, IsAssignment, IsSpellable}
use Rattle.dcv_c.specs.Layout.{pieces_in, end, item_text, condition_layout, right_layout, statement_line, test_layout, between_tests, returned_layout, declaration, static_line}
use Rattle.dcv_c.specs.Layout.{local_line, local_lines, between_parameters, parameters_layout, head, opening, closing, assignment_line, reset_lines, end_lines, step_lines, layout_of}

pub orderly : is_orderly lexicon ≡ true
unfolding lexicon is_orderly
orderly = refl

abbrev Laid : Layout → ℕ → Type 0
Laid layout next = IsLaidOut lexicon (pieces_in layout) next

abbrev Before : List ℕ → ℕ → Type 0
Before bytes next = IsPieceBefore lexicon (Text bytes) next

-- ---- words and numbers

name_before : (name : List ℕ) (next : ℕ) → IsName name → stops next ≡ true → Before name next
name_before name next is stop = word_before lexicon name next (and_parts _ _ (and_parts (is_short_word name) _ is).0).0 stop

item_before : (item : Item) (next : ℕ) → IsItem item → stops next ≡ true → Before (item_text item) next
item_before (Constant number) next is stop = number_before lexicon number next is stop
item_before (Named name) next is stop = name_before name next is stop

-- ---- one after another

in_turn : (first second : Layout) (next : ℕ) → Laid first (first_byte (pieces_in second) next) → Laid second next → Laid (first <> second) next
in_turn first second next one other = append_laid lexicon orderly (pieces_in first) (pieces_in second) next one other

-- with something between every two
module _ {X : Type 0} (between : Layout) (layout : X → Layout) (Is : X → Type 0)
    (stop : (x : X) (more : List Piece) (next : ℕ) → stops (first_byte (pieces_in (between <> layout x) ++ more) next) ≡ true)
    (laid : (x : X) (next : ℕ) → Is x → stops next ≡ true → Laid (layout x) next)
    (behind : (x : X) (next : ℕ) → Is x → stops next ≡ true → Laid (between <> layout x) next) where
  abbrev others : List X → Layout
  others xs = Each (λ x. between <> layout x) xs

  stopped : (xs : List X) (next : ℕ) → stops next ≡ true → stops (first_byte (pieces_in (others xs)) next) ≡ true
  stopped [] next s = s
  stopped (x ∷ xs) next s = stop x (pieces_in (others xs)) next

  others_laid : (xs : List X) (next : ℕ) → AllByRecursion Is xs → stops next ≡ true → Laid (others xs) next
  others_laid [] next is s = tt
  others_laid (x ∷ xs) next is s = in_turn (between <> layout x) (others xs) next (behind x _ is.0 (stopped xs next s)) (others_laid xs next is.1 s)

  joined_laid : (x : X) (xs : List X) (next : ℕ) → AllByRecursion Is (x ∷ xs) → stops next ≡ true → Laid (Joined between layout (x ∷ xs)) next
  joined_laid x xs next is s = in_turn (layout x) (others xs) next (laid x _ is.0 (stopped xs next s)) (others_laid xs next is.1 s)

-- the lines of a list, before others
lines_laid : {X : Type 0} (line : X → Layout) (Is : X → Type 0) → ((x : X) (next : ℕ) → Is x → Laid (line x) next) → (xs : List X) (more : Layout) (next : ℕ)
    → AllByRecursion Is xs → Laid more next → Laid (Each line xs <> more) next
lines_laid line Is one xs more next is rest = each_laid lexicon orderly (λ x. pieces_in (line x)) Is one xs (pieces_in more) next is rest

-- ---- statements

condition_laid : (condition : Condition) (next : ℕ) → IsCondition condition → stops next ≡ true → Laid (condition_layout condition) next
unfolding lexicon
condition_laid (Holds name) next is stop = (name_before name next is stop, tt)
condition_laid (Equals name number) next is stop =
    (name_before name 32 is.0 refl, (refl, ((refl, refl), (refl, (number_before lexicon number next is.1 stop, tt)))))

right_laid : (right : Right) (next : ℕ) → IsRight right → stops next ≡ true → Laid (right_layout right) next
unfolding lexicon
right_laid (Plain item) next is stop = (item_before item next is stop, tt)
right_laid (Chosen condition item otherwise) next is stop =
    append_laid lexicon orderly (pieces_in (condition_layout condition)) _ next (condition_laid condition 32 is.0 refl)
    (refl, ((refl, refl), (refl, (item_before item 32 is.1 refl, (refl, ((refl, refl), (refl, (item_before otherwise next is.2 stop, tt))))))))

statement_laid : (statement : Statement) (next : ℕ) → IsStatement statement → Laid (statement_line statement) next
unfolding lexicon
statement_laid (Assign left right) next is =
    let behind = in_turn (right_layout right) end next (right_laid right 59 is.1 refl) ((refl, refl), (refl, tt)) in
    (refl, (refl, (name_before left 32 is.0 refl, (refl, ((refl, refl), (refl, behind))))))
statement_laid (When condition left item) next is = (
  refl,
  (
    refl,
    (
      (refl, refl),
      (
        refl,
        (
          (refl, refl),
          append_laid lexicon orderly (pieces_in (condition_layout condition)) _ next (condition_laid condition 41 is.0 refl)
              ((refl, refl), (refl, (name_before left 32 is.1 refl, (refl, ((refl, refl), (refl, (item_before item 59 is.2 refl, ((refl, refl), (refl, tt))))))))),
        ),
      ),
    ),
  ),
)

test_laid : (test : Test) (next : ℕ) → IsTest test → stops next ≡ true → Laid (test_layout test) next
unfolding lexicon
test_laid test next is stop = (name_before test.name 32 is.name refl, (refl, ((refl, refl), (refl, (number_before lexicon test.number next is.number stop, tt)))))

returned_laid : (returned : Returned) (next : ℕ) → IsReturned returned → stops next ≡ true → Laid (returned_layout returned) next
unfolding lexicon
returned_laid (Fixed number) next is stop = (number_before lexicon number next is stop, tt)
returned_laid (Read name) next is stop = (name_before name next is stop, tt)
returned_laid (Tested []) next is stop = tt
returned_laid (Tested (test ∷ tests)) next is stop =
    joined_laid between_tests test_layout IsTest (λ test more next. refl) test_laid (λ test next is stop. (refl, ((refl, refl), (refl, test_laid test next is stop))))
    test tests next is.1 stop

-- ---- declarations

static_laid : (name : List ℕ) (next : ℕ) → IsName name → Laid (static_line name) next
unfolding lexicon
static_laid name next is = ((refl, refl), (refl, ((refl, refl), (refl, (name_before name 59 is refl, ((refl, refl), (refl, tt)))))))

assignment_laid : (assignment : Assignment) (next : ℕ) → IsAssignment assignment → Laid (assignment_line assignment) next
unfolding lexicon
assignment_laid assignment next is =
    (refl, (refl, (name_before assignment.name 32 is.name refl, (refl, ((refl, refl), (refl, (number_before lexicon assignment.number 59 is.number refl, ((refl, refl), (refl, tt)))))))))

declaration_laid : (name : List ℕ) (next : ℕ) → IsName name → stops next ≡ true → Laid (declaration name) next
unfolding lexicon
declaration_laid name next is stop = ((refl, refl), (refl, (name_before name next is stop, tt)))

parameters_laid : (names : List (List ℕ)) (next : ℕ) → AllByRecursion IsName names → stops next ≡ true → Laid (parameters_layout names) next
unfolding lexicon
parameters_laid [] next is stop = (word_before lexicon (codes "void") next refl stop, tt)
parameters_laid (name ∷ names) next is stop =
    joined_laid between_parameters declaration IsName (λ name more next. refl) declaration_laid (λ name next is stop. ((refl, refl), (refl, declaration_laid name next is stop)))
    name names next is stop

local_laid : (name : List ℕ) (next : ℕ) → IsName name → Laid (local_line name) next
unfolding lexicon
local_laid name next is = (refl, (refl, ((refl, refl), (refl, (name_before name 59 is refl, ((refl, refl), (refl, tt)))))))

locals_laid : (names : List (List ℕ)) (next : ℕ) → AllByRecursion IsName names → Laid (local_lines names) next
locals_laid [] next is = tt
locals_laid (name ∷ names) next is = lines_laid local_line IsName local_laid (name ∷ names) Newline next is (refl, tt)

-- ---- the unit

head_laid : (kind name : List ℕ) (parameters : List (List ℕ)) (next : ℕ) → Before kind 32 → IsName name → AllByRecursion IsName parameters
    → Laid (head kind name (parameters_layout parameters)) next
unfolding lexicon
head_laid kind name parameters next word is all =
    let behind = in_turn (parameters_layout parameters) opening next (parameters_laid parameters 41 all refl) ((refl, refl), (refl, ((refl, refl), (refl, tt)))) in
    (refl, (word, (refl, (name_before name 40 is refl, ((refl, refl), behind)))))

abbrev pub step_of : CUnit → Layout
step_of unit = step_lines unit.step unit.parameters unit.locals unit.statements unit.returned

reset_laid : (unit : CUnit) (next : ℕ) → IsSpellable unit → Laid (reset_lines unit.reset unit.assignments) next
unfolding lexicon
reset_laid unit next is =
    in_turn (head (codes "void") unit.reset (parameters_layout [])) (Each assignment_line unit.assignments <> closing) next (head_laid (codes "void") unit.reset [] next (refl, refl) is.reset tt)
    (lines_laid assignment_line IsAssignment assignment_laid unit.assignments closing next is.assignments ((refl, refl), (refl, tt)))

end_laid : (unit : CUnit) (next : ℕ) → IsSpellable unit → Laid (end_lines (returned_layout unit.returned)) next
unfolding lexicon
end_laid unit next is =
    let behind = in_turn (returned_layout unit.returned) (end <> closing) next (returned_laid unit.returned 59 is.returned refl)
    ((refl, refl), (refl, ((refl, refl), (refl, tt)))) in
    (refl, (refl, ((refl, refl), (refl, behind))))

step_laid : (unit : CUnit) (next : ℕ) → IsSpellable unit → Laid (step_of unit) next
unfolding lexicon
step_laid unit next is =
    append_laid lexicon orderly (pieces_in (head (codes "int") unit.step (parameters_layout unit.parameters))) _ next (head_laid (codes "int") unit.step unit.parameters _ (refl, refl) is.step is.parameters)
    (append_laid lexicon orderly (pieces_in (local_lines unit.locals)) _ next (locals_laid unit.locals _ is.locals)
    (lines_laid statement_line IsStatement statement_laid unit.statements (end_lines (returned_layout unit.returned)) next is.statements (end_laid unit next is)))

pub unit_laid : (unit : CUnit) (next : ℕ) → IsSpellable unit → Laid (layout_of unit) next
unfolding layout_of
unit_laid unit next is =
    lines_laid static_line IsName static_laid unit.statics (reset_lines unit.reset unit.assignments <> step_of unit) next is.statics
    (in_turn (reset_lines unit.reset unit.assignments) (step_of unit) next (reset_laid unit _ is) (step_laid unit next is))
