use Rattle.std.proofs.Common.{length, refl, sym, ap, subst, arith}
use Rattle.std.proofs.lemmas.Result.{err_from_is_err_and}
use Rattle.dcv_c_tables.specs.Layout.{type_of}
use Rattle.dcv_tables_read.specs.Reading.{HasFault, IsReadAs, words_of, judged}
use Rattle.dcv_tables_read.specs.Seen.{seen_tables}
use Rattle.dcv_tables_read.proofs.JudgedWords.{unbroken_is_kept}
use Rattle.dcv_tables_read.proofs.WholeLemmas.{many_words}
use Rattle.dcv_tables_read.proofs.reading.read.Goals as goal
use Rattle.dcv_tables_read.proofs.reading.read.Goals.{In-Ok}

pub judge-requires : goal.judge-requires
judge-requires c = omega (arith, c.requires, ap length c.in_ok-unit.ensures.form.spelled)

pub returns-in_err-unit : goal.returns-in_err-unit
returns-in_err-unit c =
    let p = err_from_is_err_and c.from_residual.result c.from_residual.ensures.1 in
    rw (p.1, p.2) (record {
      read = tt;
      no_fault = tt;
      fault = λ other. let (at, is, fault) = c.in_err-unit.ensures.fault other in subst (HasFault c.args.text.now) (sym is) fault;
    })

is_read : (c : In-Ok) → IsReadAs c.args.text.now (seen_tables c.in_ok-unit.unit)
is_read c =
    let tables = seen_tables c.in_ok-unit.unit in
    record { form = c.in_ok-unit.ensures.form; keeps = unbroken_is_kept (words_of tables) (judged tables) (many_words tables (type_of tables) refl) c.in-Ok.ensures }

pub returns-in-Ok-clause-read : goal.returns-in-Ok-clause-read
returns-in-Ok-clause-read c = is_read c

pub returns-in-Ok-clause-no_fault : goal.returns-in-Ok-clause-no_fault
returns-in-Ok-clause-no_fault c = λ fault has.
    c.texts_are_units_or_at_fault.ensures.none c.args.text.now (seen_tables c.in_ok-unit.unit) fault (is_read (goal.at.returns-in-Ok-clause-no_fault c).In-Ok) has
