-- What is right where it is asked whether the words of an automaton's text show that it is minimal.
--     answer_words states answer      what is said of an automaton with so many states, as `certified 3`
--     IsCertificate file outcome      the outcome says so of the file
use Rattle.std.specs.Fmt.{decimal}
use Rattle.std.specs.Prelude.{◌≡◌, ℕ, List, [], ◌++◌, codes}
use Rattle.dcv_cli.specs.Common.{AutomatonFile, line, Status, Done, NotValid}
use Rattle.dcv_certify.specs.Certified.{IsCertified, HasFewestStates, HasGoodWords, WhereMinimal}
use Rattle.dcv_certify.specs.declared.answer.Answer.{Answer}
use Rattle.dcv_certify.specs.declared.answer.Answer.TheVariants.{Minimal, Access, Pair}
use Rattle.dcv_cli.specs.Outcome.{Outcome}

abbrev pub answer_words : ℕ → Answer → List ℕ
answer_words states Minimal = codes "certified " ++ decimal states
answer_words states (Access state) = codes "refused access " ++ decimal state
answer_words states (Pair first second) = codes "refused pair " ++ decimal first ++ codes " " ++ decimal second

abbrev pub status_of_answer : Answer → Status
status_of_answer Minimal = Done
status_of_answer _ = NotValid

-- Where the answer is that the automaton is minimal, every table automaton that accepts the same behaviours has at least as many states,
-- and each state is reached.
pub record IsCertificate (file : AutomatonFile) (outcome : Outcome) : Type 0 where
  pub answer : Answer
  pub is : IsCertified file answer
  pub fewest : WhereMinimal (HasFewestStates file) answer
  pub reached : WhereMinimal (HasGoodWords file) answer
  pub status : outcome.status ≡ status_of_answer answer
  pub says : outcome.out ≡ line (answer_words file.states answer)
  pub no_message : outcome.err ≡ []
