use Rattle.std.proofs.Common.{◌≡◌, ◌<◌, [], ◌∷◌, ◌++◌, length, refl, sym, subst, ◌∙◌, arith}
use Rattle.std.proofs.lemmas.Bool.{false≢true}
use Rattle.std.proofs.lemmas.List.{get_or_read}
use Rattle.dcv_arena.proofs.Same.{same_refs}
use Rattle.dcv_refinement.specs.Members.{block_of}
use Rattle.dcv_minimise.specs.Rounds.{HaveOneRow, witness_of}
use Rattle.dcv_minimise.specs.Keys.{IsKeys, IsKeyOf}
use Rattle.dcv_minimise.specs.Division.{move_to, IsPart, IsDividing}
use Rattle.dcv_minimise.specs.declared.refine.division.Part.{Part}
use Rattle.dcv_minimise.specs.declared.refine.keys.Keys.{Keys}
use Rattle.dcv_minimise.proofs.WitnessFacts.{few_grouped}
use Rattle.dcv_minimise.proofs.KeyFacts.{key_kept, one_key}
use Rattle.dcv_minimise.proofs.Settling.{Settles, dividing_kept, settles}
use Rattle.dcv_minimise.proofs.refine.division.Division.settle.Goals as goal
use Rattle.dcv_minimise.proofs.refine.division.Division.settle.Goals.{In_ok-push}

pub number-requires-clause-bound : goal.number-requires-clause-bound
number-requires-clause-bound c =
    omega (arith, few_grouped c.args.raw.now c.args.blocks.now c.args.self.now.count c.args.witness.now.items c.requires.dividing.grouped, c.requires.keys.is_raw.states)

-- the arena has grown by the key of the witness
after_keys : (c : In_ok-push) → IsDividing c.args.raw.now c.args.blocks.now c.args.self.now.count c.of.new.self.renumbering.own c.args.witness.now.items c.args.self.now.parts.keys c.args.self.now.moves.items
after_keys c =
    dividing_kept c.args.raw.now c.args.blocks.now c.args.self.now.count c.args.self.now.keys.renumbering.own c.args.witness.now.items c.args.self.now.parts.keys c.args.self.now.moves.items
    c.requires.dividing c.of.new.self.renumbering.own c.of.ensures.kept

keys_now : (c : In_ok-push) → IsKeys c.args.raw.now c.args.blocks.now c.of.new.self
keys_now c = c.of.ensures.keys c.args.blocks.now c.requires.keys

own_key : (c : In_ok-push) → IsKeyOf c.args.raw.now c.args.blocks.now c.of.new.self.renumbering.own c.args.keyed.state c.args.keyed.key
own_key c = key_kept c.args.raw.now c.args.blocks.now c.args.self.now.keys.renumbering.own c.of.new.self.renumbering.own c.args.keyed.state c.args.keyed.key c.of.ensures.kept c.requires.keyed.is_key

witness_key : (c : In_ok-push) → IsKeyOf c.args.raw.now c.args.blocks.now c.of.new.self.renumbering.own (witness_of c.args.blocks.now c.args.witness.now.items c.args.keyed.state) c.in_ok-kept.kept
witness_key c =
    let grouped = c.requires.dividing.grouped in
    let within : block_of c.args.blocks.now c.args.keyed.state < length c.args.witness.now.items = omega (arith, grouped.numbers c.args.keyed.state c.requires.keyed.is_state, grouped.many) in
    let read = get_or_read c.args.witness.now.items (block_of c.args.blocks.now c.args.keyed.state) c.index.result.now within c.index.ensures 0 in
    subst (λ state. IsKeyOf c.args.raw.now c.args.blocks.now c.of.new.self.renumbering.own state c.in_ok-kept.kept) read
    (c.in_ok-kept.ensures.key c.args.blocks.now c.requires.keys)

other_row : (c : In_ok-push) → ¬ HaveOneRow c.args.raw.now c.args.blocks.now c.args.keyed.state (witness_of c.args.blocks.now c.args.witness.now.items c.args.keyed.state)
other_row c row =
    let keys = keys_now c in
    let same = one_key c.args.raw.now c.args.blocks.now c.of.new.self.renumbering.own keys.arena keys.slots c.args.keyed.state (witness_of c.args.blocks.now c.args.witness.now.items c.args.keyed.state)
    c.args.keyed.key c.in_ok-kept.kept (own_key c) (witness_key c) row in
    false≢true (sym c.if-eq.false ∙ c.eq.ensures ∙ (same_refs c.args.keyed.key c.in_ok-kept.kept).1 same)

settled : (c : In_ok-push) → Settles c.args.raw.now c.args.blocks.now c.args.self.now.count c.number.new.self.keys.renumbering.own c.args.witness.now.items c.number.new.witness.items
    c.number.new.self.parts.keys c.args.self.now.moves.items c.push.new.self.items c.args.keyed.state
settled c =
    let keys = keys_now c in
    let part : Part = record { block = block_of c.args.blocks.now c.args.keyed.state; key = c.args.keyed.key } in
    let own : IsPart c.args.raw.now c.args.blocks.now c.of.new.self.renumbering.own c.args.keyed.state part = record { block = refl; key = own_key c } in
    let done = settles c.args.raw.now c.args.blocks.now c.args.self.now.count c.of.new.self.renumbering.own c.args.witness.now.items c.args.self.now.parts.keys c.args.self.now.moves.items (after_keys c)
    c.args.keyed.state c.requires.keyed.is_state part own keys.arena keys.slots (other_row c) c.number.new.self.parts.keys c.number.new.witness.items c.in_ok-number.number c.in_ok-number.ensures.number in
    let items : c.push.new.self.items ≡ c.args.self.now.moves.items ++ move_to c.args.keyed.state c.in_ok-number.number ∷ [] =
    c.in_ok-push.ensures.items ∙ (λ i. (c.in_ok-number.ensures.moves i).items ++ move_to c.args.keyed.state c.in_ok-number.number ∷ []) in
    subst (λ (keys : Keys). Settles c.args.raw.now c.args.blocks.now c.args.self.now.count keys.renumbering.own c.args.witness.now.items c.number.new.witness.items
    c.number.new.self.parts.keys c.args.self.now.moves.items c.push.new.self.items c.args.keyed.state) (sym c.in_ok-number.ensures.keys)
    (subst (λ moves. Settles c.args.raw.now c.args.blocks.now c.args.self.now.count c.of.new.self.renumbering.own c.args.witness.now.items c.number.new.witness.items
    c.number.new.self.parts.keys c.args.self.now.moves.items moves c.args.keyed.state) (sym items) done)

pub returns-clause-dividing : goal.returns-clause-dividing
returns-clause-dividing c = (settled c).dividing

pub returns-clause-settled : goal.returns-clause-settled
returns-clause-settled c = (settled c).settled

pub returns-clause-kept : goal.returns-clause-kept
returns-clause-kept c = (settled c).kept

pub returns-clause-firsts : goal.returns-clause-firsts
returns-clause-firsts c = (settled c).firsts
