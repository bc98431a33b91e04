-- What is read off a file.
use Rattle.std.proofs.Common.{◌≡◌, ℕ, ◌+◌, ◌<◌, List, [], ◌∷◌, length, map, get_or, refl, ap, ◌∙◌, arith}
use Rattle.std.specs.Prelude.{slice_index_or}
use Rattle.std.specs.List.{enumerate_from}
use Rattle.std.proofs.lemmas.List.{get_or-map, length-map}
use Rattle.std.proofs.lemmas.List.FromFn.{length-enumerate_from, get_or-enumerate_from}
use Rattle.dcv_language.specs.Table.{no_state}
use Rattle.dcv_automaton_text.specs.File.{StateLine, Access, AccessLine, Suffix, SuffixLine, AutomatonFile}
use Rattle.dcv_automaton_text.specs.Meaning.{state_of, table_of}
use Rattle.dcv_automaton_read.specs.declared.file.Row.{Row}
use Rattle.dcv_automaton_read.specs.File.{state_line, access_line, suffix_line}

pub accesses_again : (n : ℕ) (access : List Access) → map (λ (line : AccessLine). line.access) (map access_line (enumerate_from n access)) ≡ access
accesses_again n [] = refl
accesses_again n (one ∷ access) = ap (λ rest. one ∷ rest) (accesses_again (n + 1) access)

pub suffixes_again : (n : ℕ) (suffixes : List Suffix) → map (λ (line : SuffixLine). line.suffix) (map suffix_line (enumerate_from n suffixes)) ≡ suffixes
suffixes_again n [] = refl
suffixes_again n (one ∷ suffixes) = ap (λ rest. one ∷ rest) (suffixes_again (n + 1) suffixes)

pub row_there : (file : AutomatonFile) (rows : List Row) (state : ℕ) (d : Row) (other : StateLine) → file.state_lines ≡ map state_line (enumerate_from 0 rows) → state < length rows
    → get_or file.state_lines state other ≡ state_line (state, get_or rows state d)
row_there file rows state d other lines below =
    let numbered = enumerate_from 0 rows in
    let size = length-enumerate_from 0 rows in
    let place : 0 + state ≡ state = omega arith in
    ap (λ all. get_or all state other) lines
    ∙ get_or-map state_line numbered state (0, d) other (omega (arith, below, size))
    ∙ ap state_line (get_or-enumerate_from 0 rows state (0, d) below ∙ (λ i. (place i, get_or rows state d)))

-- a state of the table
pub state_there : (file : AutomatonFile) (rows : List Row) (state : ℕ) (d : Row) → file.state_lines ≡ map state_line (enumerate_from 0 rows) → state < length rows
    → slice_index_or (table_of file) state no_state ≡ state_of file (state_line (state, get_or rows state d))
unfolding table_of
state_there file rows state d lines below =
    let size = ap length lines ∙ length-map (enumerate_from 0 rows) state_line ∙ length-enumerate_from 0 rows in
    let other = state_line (0, d) in
    get_or-map (state_of file) file.state_lines state other no_state (omega (arith, below, size))
    ∙ ap (state_of file) (row_there file rows state d other lines below)
