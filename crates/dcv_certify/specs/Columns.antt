-- For the proofs: columns of bits, with a bit for each entry.
--     IsColumn table word column               the bits of the entries, the start with its other flag the last
--     GoesOnFromColumn file from suffix        the suffix is empty, or a column of all entries is given, and its letter has the file's width
--     with_start bits                         bits of the states, and that of the start once more
--     IsColumnBefore table words from suffix   that column is of the word that the suffix goes on from
use Rattle.std.specs.Prelude.{◌≡◌, ℕ, suc, ◌≤◌, Bool, List, [], ◌∷◌, ◌++◌, length, slice_index_or}
use Rattle.dcv_word.specs.Behaviour.{Word}
use Rattle.dcv_language.specs.Table.{Table}
use Rattle.dcv_automaton_text.specs.File.{Suffix, EmptySuffix, ThenSuffix, AutomatonFile}
use Rattle.dcv_automaton_text.specs.Meaning.{table_of}
use Rattle.dcv_certify.specs.Alike.{bit}
use Rattle.dcv_certify.specs.Split.{bit_at}

pub record IsColumn (table : Table) (word : Word) (column : List Bool) : Type 0 where
  pub count : length column ≡ suc (length table)
  pub bits : (entry : ℕ) → entry ≤ length table → bit_at column entry ≡ bit table entry word

abbrev pub with_start : List Bool → List Bool
with_start bits = bits ++ bit_at bits 0 ∷ []

abbrev pub GoesOnFromColumn : AutomatonFile → List Bool → Suffix → Type 0
GoesOnFromColumn file from EmptySuffix = Unit {0}
GoesOnFromColumn file from (ThenSuffix letter place) = (length from ≡ suc (length (table_of file))) × (length letter ≡ length file.names)

abbrev pub IsColumnBefore : Table → List Word → List Bool → Suffix → Type 0
IsColumnBefore table words from EmptySuffix = Unit {0}
IsColumnBefore table words from (ThenSuffix letter place) = IsColumn table (slice_index_or words place []) from
