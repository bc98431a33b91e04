use Rattle.std.proofs.Common.{◌≡◌, List, ℕ, length, take, drop, ◌++◌, sym, ap, subst, ◌∙◌, arith}
use Rattle.std.proofs.lemmas.Result.{IfOk-weaker}
use Rattle.dcv_minimise.specs.Rounds.{IsWitnessed}
use Rattle.dcv_minimise.specs.Listing.{IsChosen}
use Rattle.dcv_minimise.specs.Keys.{states_in}
use Rattle.dcv_minimise.specs.Division.{IsDivision}
use Rattle.dcv_minimise.proofs.Pushed.{written_back}
use Rattle.dcv_minimise.proofs.MemberFacts.{chosen_witnessed}
use Rattle.dcv_minimise.proofs.refine.division.divide.Goals as goal
use Rattle.dcv_minimise.proofs.refine.division.divide.Goals.{After-deref-3}

same_size : (c : After-deref-3) → length c.choose.new.witness ≡ length c.args.witness.now.items
same_size c = omega (arith, c.choose.auto.witness, ap length c.deref_mut.ensures.value)

-- the witnesses as they are written back
abbrev witness_now : After-deref-3 → List ℕ
witness_now c = take c.args.witness.now.len (c.choose.new.witness ++ drop (length c.choose.new.witness) c.args.witness.now.items)

written : (c : After-deref-3) → witness_now c ≡ c.choose.new.witness
written c = written_back c.choose.new.witness c.args.witness.now.items c.args.witness.now.len (same_size c) c.args.witness.now.ok.0

chosen : (c : After-deref-3) → IsChosen c.args.blocks.now c.args.listed.now.full c.args.witness.now.items c.choose.new.witness
chosen c = subst (λ old. IsChosen c.args.blocks.now c.args.listed.now.full old c.choose.new.witness) c.deref_mut.ensures.value c.in_ok-choose.ensures

-- the states are those that are listed
listed : (c : After-deref-3) → states_in c.deref-3.result.now ≡ c.args.listed.now.states.items
listed c = ap states_in c.deref-3.ensures.value ∙ c.in_ok-keyed.ensures.states ∙ c.deref.ensures.value

pub settle_all-requires-clause-witnessed : goal.settle_all-requires-clause-witnessed
settle_all-requires-clause-witnessed c =
    subst (IsWitnessed c.args.raw.now c.args.blocks.now) (sym (written c))
    (chosen_witnessed c.args.raw.now c.args.blocks.now c.args.witness.now.items c.choose.new.witness c.args.listed.now.states.items c.args.listed.now.full c.requires.witnessed (same_size c) (chosen c))

pub returns : goal.returns
returns c =
    let before = (goal.at.returns c).After-deref-3 in
    IfOk-weaker c.settle_all.result _ _ (λ divided division. record {
      chosen = c.choose.new.witness;
      size = same_size before;
      is_chosen = chosen before;
      division = subst (λ old. IsDivision c.args.raw.now c.args.blocks.now old c.settle_all.new.witness.items c.args.listed.now.states.items divided.0.items) (written before)
          (subst (λ listed. IsDivision c.args.raw.now c.args.blocks.now (witness_now before) c.settle_all.new.witness.items listed divided.0.items) (listed before) division);
    }) c.settle_all.ensures
