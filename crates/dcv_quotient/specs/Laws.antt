-- What there is of a set of behaviours.
use Rattle.std.specs.Prelude.{ℕ, List}
use Rattle.dcv_word.specs.Behaviour.{Word}
use Rattle.dcv_language.specs.Canonical.{IsCanonical}
use Rattle.dcv_language.specs.Certificate.{IsCertificate}
use Rattle.dcv_language.specs.Language.{Language}
use Rattle.dcv_language.specs.Table.{Table, IsTable, table_accepts}
use Rattle.dcv_language.specs.Verdict.{Verdict, IsVerdict}

-- a table automaton has a canonical one for what it accepts
abbrev pub SomeCanonicalTable : Type 0
SomeCanonicalTable = (k : ℕ) (table : Table) → IsTable k table
    → (canonical : Table) × ((access : List Word) × IsCanonical k (table_accepts table) canonical access)

-- a set with a canonical table has a verdict
abbrev pub SomeVerdict : Type 0
SomeVerdict = (k : ℕ) (L : Language) (table : Table) (access : List Word) → IsCanonical k L table access → (verdict : Verdict) × IsVerdict k L verdict

-- a canonical table has a certificate
abbrev pub SomeCertificate : Type 0
SomeCertificate = (k : ℕ) (L : Language) (table : Table) (access : List Word) → IsCanonical k L table access
    → (suffixes : List Word) × IsCertificate k L access suffixes
