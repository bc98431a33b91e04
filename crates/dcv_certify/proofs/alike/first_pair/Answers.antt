use Rattle.std.proofs.Common.{ℕ, sym, ap, subst, arith, length}
use Rattle.dcv_certify.specs.Certified.{IsFirstPair, HasAllTold}
use Rattle.dcv_certify.specs.Joined.{IsFirstJoined, HasNoneJoined}
use Rattle.dcv_certify.specs.Numbers.{AreNumbersOf}
use Rattle.dcv_certify.specs.Split.{AreOwn}
use Rattle.dcv_automaton_text.specs.Meaning.{table_of, suffix_words_of}
use Rattle.dcv_certify.proofs.Alikes.{are_own}
use Rattle.dcv_certify.proofs.Pairs.{first_pair_is, all_told, if_some_more, if_none_more}
use Rattle.dcv_certify.proofs.alike.first_pair.Goals as goal

pub first_joined-requires-clause-states : goal.first_joined-requires-clause-states
first_joined-requires-clause-states c = omega (arith, c.in_ok-numbers.ensures.count, ap length c.deref.ensures.value, c.states.ensures)

pub first_joined-requires-clause-own : goal.first_joined-requires-clause-own
first_joined-requires-clause-own c =
    subst AreOwn (sym c.deref.ensures.value)
    (are_own (table_of c.args.file.now) (suffix_words_of c.args.file.now) c.in_ok-numbers.numbers.items c.in_ok-numbers.ensures.least)

pub returns-clause-some : goal.returns-clause-some
returns-clause-some c =
    let file = c.args.file.now in
    let numbers = subst (AreNumbersOf file) (sym c.deref.ensures.value) c.in_ok-numbers.ensures in
    if_some_more c.first_joined.result
    (λ pair. IsFirstJoined c.deref.result.now c.states.result pair.0 pair.1)
    (λ pair. IsFirstPair file pair.0 pair.1)
    (λ pair found. first_pair_is file c.keeps_the_rules.ensures c.requires c.deref.result.now numbers pair.0 pair.1
    (subst (λ (n : ℕ). IsFirstJoined c.deref.result.now n pair.0 pair.1) c.states.ensures found))
    c.first_joined.ensures.some

pub returns-clause-none : goal.returns-clause-none
returns-clause-none c =
    let file = c.args.file.now in
    let numbers = subst (AreNumbersOf file) (sym c.deref.ensures.value) c.in_ok-numbers.ensures in
    if_none_more c.first_joined.result (HasNoneJoined c.deref.result.now c.states.result) (HasAllTold file)
    (λ found. all_told file c.keeps_the_rules.ensures c.requires c.deref.result.now numbers
    (subst (λ (n : ℕ). HasNoneJoined c.deref.result.now n) c.states.ensures found))
    c.first_joined.ensures.none
