-- The fixed texts of tokens, the symbols and the reserved words, and the classes of all tokens.
use Rattle.std.specs.Prelude.{ℕ, List, [], ◌∷◌, codes}

abbrev pub open_parenthesis : ℕ
open_parenthesis = 0

abbrev pub close_parenthesis : ℕ
close_parenthesis = 1

abbrev pub comma : ℕ
comma = 2

abbrev pub semicolon : ℕ
semicolon = 3

abbrev pub dot : ℕ
dot = 4

abbrev pub exclamation : ℕ
exclamation = 5

abbrev pub caret : ℕ
caret = 6

abbrev pub star : ℕ
star = 7

abbrev pub equals : ℕ
equals = 8

abbrev pub less : ℕ
less = 9

abbrev pub greater : ℕ
greater = 10

abbrev pub less_equals : ℕ
less_equals = 11

abbrev pub greater_equals : ℕ
greater_equals = 12

abbrev pub diamond : ℕ
diamond = 13

abbrev pub arrow : ℕ
arrow = 14

abbrev pub double_arrow : ℕ
double_arrow = 15

abbrev pub double_ampersand : ℕ
double_ampersand = 16

abbrev pub double_bar : ℕ
double_bar = 17

abbrev pub open_bracket : ℕ
open_bracket = 18

abbrev pub close_bracket : ℕ
close_bracket = 19

abbrev pub box : ℕ
box = 20

abbrev pub open_brackets : ℕ
open_brackets = 21

abbrev pub close_brackets : ℕ
close_brackets = 22

abbrev pub open_braces : ℕ
open_braces = 23

abbrev pub close_braces : ℕ
close_braces = 24

abbrev pub word_var : ℕ
word_var = 25

abbrev pub word_define : ℕ
word_define = 26

abbrev pub word_prop : ℕ
word_prop = 27

abbrev pub word_as : ℕ
word_as = 28

abbrev pub word_infer : ℕ
word_infer = 29

abbrev pub word_ex : ℕ
word_ex = 30

abbrev pub word_all : ℕ
word_all = 31

abbrev pub word_true : ℕ
word_true = 32

abbrev pub word_false : ℕ
word_false = 33

abbrev pub word_pt : ℕ
word_pt = 34

abbrev pub word_ext : ℕ
word_ext = 35

abbrev pub word_slen : ℕ
word_slen = 36

abbrev pub word_scount : ℕ
word_scount = 37

abbrev pub word_sdur : ℕ
word_sdur = 38

abbrev pub name : ℕ
name = 39

abbrev pub number : ℕ
number = 40

abbrev pub minus : ℕ
minus = 41

abbrev pub plus : ℕ
plus = 42

-- of what is no token
abbrev pub unknown : ℕ
unknown = 43

-- each symbol with its class, the longer ones first
abbrev pub symbol_classes : List (List ℕ × ℕ)
symbol_classes =
    (codes "<=>", double_arrow) ∷ (codes "<=", less_equals) ∷ (codes ">=", greater_equals) ∷ (codes "<>", diamond)
    ∷ (codes "=>", arrow) ∷ (codes "&&", double_ampersand) ∷ (codes "||", double_bar) ∷ (codes "[]", box)
    ∷ (codes "[[", open_brackets) ∷ (codes "]]", close_brackets) ∷ (codes "{{", open_braces)
    ∷ (codes "}}", close_braces) ∷ (codes "(", open_parenthesis) ∷ (codes ")", close_parenthesis)
    ∷ (codes ",", comma) ∷ (codes ";", semicolon) ∷ (codes ".", dot) ∷ (codes "!", exclamation) ∷ (codes "^", caret)
    ∷ (codes "*", star) ∷ (codes "=", equals) ∷ (codes "<", less) ∷ (codes ">", greater) ∷ (codes "[", open_bracket)
    ∷ (codes "]", close_bracket) ∷ (codes "-", minus) ∷ (codes "+", plus) ∷ []

-- each reserved word with its class
abbrev pub word_classes : List (List ℕ × ℕ)
word_classes =
    (codes "var", word_var) ∷ (codes "define", word_define) ∷ (codes "prop", word_prop) ∷ (codes "as", word_as)
    ∷ (codes "infer", word_infer) ∷ (codes "ex", word_ex) ∷ (codes "all", word_all) ∷ (codes "true", word_true)
    ∷ (codes "false", word_false) ∷ (codes "pt", word_pt) ∷ (codes "ext", word_ext) ∷ (codes "slen", word_slen)
    ∷ (codes "scount", word_scount) ∷ (codes "sdur", word_sdur) ∷ []
