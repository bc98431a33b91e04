-- What is judged of worked units, by computing.
use Rattle.std.proofs.Common.{◌≡◌, true, false, [], ◌∷◌, None, Some, refl, codes, map}
use Rattle.std.specs.Fmt.{digits}
use Rattle.dcv_tokens.specs.Tokens.{reserved_words}
use Rattle.dcv_lexer.specs.Cuts.{Token}
use Rattle.dcv_observer.specs.Subsets.{first_broken}
use Rattle.dcv_c_tables.specs.Unit.{Tables}
use Rattle.dcv_tables_read.specs.Reading.{judged, words_of}

-- the place of the second child of a node is its own
abbrev circle : Tables
circle =
    record {
      parameters = codes "v_p" ∷ [];
      nodes = record { variable = 0; high = 0; low = 2 } ∷ [];
      states = record { row = 2; accepts = true } ∷ record { row = 1; accepts = false } ∷ [];
    }

-- the number stands in `low`, at byte 202
pub circle_is_at_fault : first_broken (words_of circle) (judged circle) ≡ Some 202
unfolding words_of judged digits
circle_is_at_fault = refl

pub circle_starts : map (λ (token : Token). token.start) (words_of circle) ≡ 16 ∷ 27 ∷ 42 ∷ 97 ∷ 150 ∷ 202 ∷ 255 ∷ 260 ∷ 417 ∷ []
unfolding words_of digits
circle_starts = refl

-- two nodes, of which the second goes on to the first, whose parameter does not come later
abbrev turned : Tables
turned =
    record {
      parameters = codes "v_p" ∷ codes "v_q" ∷ [];
      nodes = record { variable = 0; high = 0; low = 1 } ∷ record { variable = 1; high = 2; low = 0 } ∷ [];
      states = record { row = 3; accepts = true } ∷ record { row = 1; accepts = false } ∷ [];
    }

-- the number stands in `high`, in the second line
pub turned_is_at_fault : first_broken (words_of turned) (judged turned) ≡ Some 160
unfolding words_of judged digits
turned_is_at_fault = refl

-- no nodes and no states: the first count
abbrev empty : Tables
empty = record { parameters = []; nodes = []; states = [] }

pub empty_is_at_fault : first_broken (words_of empty) (judged empty) ≡ Some 16
unfolding words_of judged digits
empty_is_at_fault = refl

-- a parameter that stands twice, in a unit without nodes
abbrev twice : Tables
twice = record { parameters = codes "v_p" ∷ codes "v_p" ∷ []; nodes = []; states = record { row = 0; accepts = true } ∷ [] }

pub twice_is_at_fault : first_broken (words_of twice) (judged twice) ≡ Some 255
unfolding words_of judged digits reserved_words
twice_is_at_fault = refl

-- and one that keeps all rules
abbrev always : Tables
always = record { parameters = codes "v_p" ∷ codes "v_q" ∷ []; nodes = []; states = record { row = 0; accepts = true } ∷ [] }

pub always_is_read : first_broken (words_of always) (judged always) ≡ None
unfolding words_of judged digits reserved_words
always_is_read = refl
