-- The numbers of the rules of the grammar.
use Rattle.std.specs.Prelude.{ℕ}

abbrev pub file : ℕ
file = 0

abbrev pub declaration : ℕ
declaration = 1

abbrev pub more_names : ℕ
more_names = 2

abbrev pub macros : ℕ
macros = 3

abbrev pub macro : ℕ
macro = 4

abbrev pub parameters : ℕ
parameters = 5

abbrev pub arguments : ℕ
arguments = 6

abbrev pub more_arguments : ℕ
more_arguments = 7

abbrev pub formula : ℕ
formula = 8

abbrev pub formula_iff : ℕ
formula_iff = 9

abbrev pub formula_iff_more : ℕ
formula_iff_more = 10

abbrev pub formula_implies : ℕ
formula_implies = 11

abbrev pub formula_implied : ℕ
formula_implied = 12

abbrev pub formula_or : ℕ
formula_or = 13

abbrev pub formula_or_more : ℕ
formula_or_more = 14

abbrev pub formula_and : ℕ
formula_and = 15

abbrev pub formula_and_more : ℕ
formula_and_more = 16

abbrev pub formula_chop : ℕ
formula_chop = 17

abbrev pub formula_chop_more : ℕ
formula_chop_more = 18

abbrev pub formula_prefix : ℕ
formula_prefix = 19

abbrev pub formula_star : ℕ
formula_star = 20

abbrev pub stars : ℕ
stars = 21

abbrev pub formula_atom : ℕ
formula_atom = 22

abbrev pub relation : ℕ
relation = 23

abbrev pub prop : ℕ
prop = 24

abbrev pub prop_iff_more : ℕ
prop_iff_more = 25

abbrev pub prop_implies : ℕ
prop_implies = 26

abbrev pub prop_implied : ℕ
prop_implied = 27

abbrev pub prop_or : ℕ
prop_or = 28

abbrev pub prop_or_more : ℕ
prop_or_more = 29

abbrev pub prop_and : ℕ
prop_and = 30

abbrev pub prop_and_more : ℕ
prop_and_more = 31

abbrev pub prop_prefix : ℕ
prop_prefix = 32

abbrev pub prop_atom : ℕ
prop_atom = 33
