-- Texts of automata that are printed are certified.
use Rattle.dcv_cli.proofs.Common.{◌≡◌, ℕ, ◌≤◌, List, length, Option, None, Some, sym, ap, ◌∙◌, subst, IsTrue, IsSomeAnd, length-map}
use Rattle.dcv_cli.proofs.Common.{AutomatonFile, HasForm, OneFile, access_words_of, Count, IsCertified, OneAnswer}
use Rattle.dcv_cli.proofs.Common.{Minimal, Limits, IsCanonical, models, texts_of, Kind, Automaton, All}
use Rattle.dcv_cli.proofs.Common.{PlainFile, Name, SaysAutomaton, IsAutomatonText, OnAutomaton, IsBudgeted}
use Rattle.dcv_cli.proofs.Common.{IsCertificate, status_of_answer, OnText, Outcome, most_automaton_bytes}
use Rattle.dcv_cli.proofs.Common.{IsReport, is_answer, Only, Done}
use Rattle.dcv_automaton_text.specs.Meaning.{suffix_words_of, table_of}
use Rattle.dcv_certify.specs.Laws.{PrintedIsCertified as GoodWordsAreCertified}
use Rattle.dcv_language.specs.Certificate.{IsCertificate as IsCertificateOf}
use Rattle.dcv_cli.specs.AutomatonFile.{Refused as RefusedAutomaton, Read as ReadAutomaton}
use Rattle.dcv_cli.specs.Laws.{IsCertifiable, PrintedIsCertified}
use Rattle.dcv_cli.proofs.EqualMeanings.{IsReported, reported}
use Rattle.dcv_cli.proofs.OneCertificate.{refused_or_read}
use Rattle.dcv_cli.proofs.PrintedLengths.{printed_fits}

-- ---- a right answer is a report on some file

report_of : (kind : Kind) (limits : Limits) (found : Option (List ℕ)) (outcome : Outcome) → IsTrue (is_answer outcome.status)
    → IsSomeAnd found (λ text. OnText text Only (IsBudgeted limits Only (IsReport kind limits)) outcome) → (text : List ℕ) × IsReported kind limits text outcome
report_of kind limits None outcome answers right = absurd right
report_of kind limits (Some text) outcome answers right = (text, reported kind limits text outcome answers right)

-- ---- its text is certified

module _ (one_file : OneFile) (one_answer : OneAnswer) (certified : GoodWordsAreCertified) where
  says_certifiable : (file : PlainFile) (counts : List Count) (text : List ℕ)
      → SaysAutomaton (length file.variables) (models file) (texts_of file.variables) counts text → IsCertifiable text
  says_certifiable plain counts text says name held outcome there right =
      on_held (held 0 name) there right
    where
      file : AutomatonFile
      file = says.automaton

      width : length plain.variables ≡ length file.names
      width = sym (ap length says.is.variables ∙ length-map plain.variables (λ (name : Name). name.text))

      canonical : IsCanonical (length file.names) (models plain) (table_of file) (access_words_of file)
      canonical = subst (λ k. IsCanonical k (models plain) (table_of file) (access_words_of file)) width says.is.canonical

      certificate : IsCertificateOf (length file.names) (models plain) (access_words_of file) (suffix_words_of file)
      certificate = subst (λ k. IsCertificateOf k (models plain) (access_words_of file) (suffix_words_of file)) width says.is.certificate

      form : HasForm text file
      form = record { spellable = says.is.form; spelled = says.says }

      fits : length text ≤ most_automaton_bytes
      fits =
          subst (λ (bytes : List ℕ). length bytes ≤ most_automaton_bytes) (sym says.says)
          (printed_fits (length plain.variables) (models plain) (texts_of plain.variables) file says.is)

      is_text : IsAutomatonText text file
      is_text = record { fits = fits; form = form; good = says.is.rules }

      on_text : OnAutomaton text IsCertificate outcome → outcome.status ≡ Done
      on_text (RefusedAutomaton refusal is e) = absurd (refused_or_read one_file text refusal file is is_text)
      on_text (ReadAutomaton other is said) =
          let same : other ≡ file = one_file text other file is.form form in
          let answer : said.answer ≡ Minimal =
          one_answer file said.answer Minimal (subst (λ (f : AutomatonFile). IsCertified f said.answer) same said.is) (certified (models plain) file says.is.rules canonical certificate) in
          said.status ∙ ap status_of_answer answer

      on_held : (found : Option (List ℕ)) → found ≡ Some text → IsSomeAnd found (λ bytes. OnAutomaton bytes IsCertificate outcome) → outcome.status ≡ Done
      on_held found there right = on_text (subst (λ some. IsSomeAnd some (λ bytes. OnAutomaton bytes IsCertificate outcome)) there right)

  pub printed_is_certified : PrintedIsCertified
  printed_is_certified = record {
    automaton = λ text is.
        let (_, found) = report_of Automaton is.limits (is.held 0 is.name) is.outcome is.answers is.right in
        subst IsCertifiable (sym is.says) (says_certifiable found.file found.report.counts is.outcome.out found.report.says);
    all = λ text is.
        let (_, found) = report_of All is.limits (is.held 0 is.name) is.outcome is.answers is.right in
        let parts = found.report.says in
        (_, parts.automaton, parts.node, parts.unit, is.says ∙ parts.says, says_certifiable found.file found.report.counts parts.automaton parts.says_automaton);
  }
