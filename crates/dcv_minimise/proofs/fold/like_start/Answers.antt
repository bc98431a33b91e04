use Rattle.std.proofs.Common.{◌≡◌, ◌<◌, ◌-◌, length, get_or, take, drop, sym, subst, ◌∙◌}
use Rattle.std.specs.List.{All}
use Rattle.std.proofs.lemmas.Bool.{false≢true}
use Rattle.std.proofs.lemmas.List.{take_all, take_rest}
use Rattle.std.proofs.lemmas.List.Elements.{All-more}
use Rattle.dcv_arena.proofs.Same.{same_refs}
use Rattle.dcv_minimise.specs.Classes.{HaveSameRow}
use Rattle.dcv_minimise.specs.Keys.{IsKeyOf}
use Rattle.dcv_minimise.proofs.KeyFacts.{same_row, one_key, key_kept}
use Rattle.dcv_minimise.proofs.RowFacts.{behind}
use Rattle.dcv_minimise.proofs.fold.like_start.Goals as goal
use Rattle.dcv_minimise.proofs.fold.like_start.Goals.{In_ok-key}

pub loop-place-preserved-then-block_after-block : goal.loop-place-preserved-then-block_after-block
loop-place-preserved-then-block_after-block c =
    let raw = c.args.raw.now in
    let blocks = c.args.blocks.now in
    let states = c.args.states.now in
    let start = get_or states 0 0 in
    let rest = take (length states - 1) (drop 1 states) in
    let was = c.loop-place.invariant in
    record {
      keys = was.keys;
      own = was.own;
      earlier = All-more (λ first. ¬ HaveSameRow raw blocks start first) rest c.loop-place.place 0 c.loop-place-test.true was.earlier
          (λ same. c.if-block_after-block.true
          (c.block_after.ensures ∙ sym (same c.new-letter.result (c.new-letter.ensures.width ∙ c.slots.ensures.slots)) ∙ sym c.block_after-block.ensures));
    }

pub of-requires-in-loop-place-clause-state : goal.of-requires-in-loop-place-clause-state
of-requires-in-loop-place-clause-state c =
    let raw = c.args.raw.now in
    let states = c.args.states.now in
    subst (All (λ state. state < length raw.rows)) (sym (take_rest states 1)) (behind (λ state. state < length raw.rows) states c.requires.states)
    c.loop-place.place 0 c.loop-place-test.true

own_key : (c : In_ok-key) → IsKeyOf c.args.raw.now c.args.blocks.now c.of-in-loop-place.new.self.renumbering.own (get_or c.args.states.now 0 0) c.in_ok-own.own
own_key c = key_kept c.args.raw.now c.args.blocks.now c.loop-place.keys.renumbering.own c.of-in-loop-place.new.self.renumbering.own (get_or c.args.states.now 0 0) c.in_ok-own.own
    c.of-in-loop-place.ensures.kept c.loop-place.invariant.own

pub returns-then-eq : goal.returns-then-eq
returns-then-eq c =
    let raw = c.args.raw.now in
    let blocks = c.args.blocks.now in
    let states = c.args.states.now in
    let start = get_or states 0 0 in
    let place = c.loop-place.place in
    let rest = take (length states - 1) (drop 1 states) in
    let is_rest : rest ≡ drop 1 states = take_rest states 1 in
    let scratch = c.of-in-loop-place.new.self.renumbering.own in
    let same : c.in_ok-key.key ≡ c.in_ok-own.own = (same_refs c.in_ok-key.key c.in_ok-own.own).0 (sym c.eq.ensures ∙ c.if-eq.true) in
    let other : IsKeyOf raw blocks scratch (get_or rest place 0) c.in_ok-own.own =
    subst (IsKeyOf raw blocks scratch (get_or rest place 0)) same (c.in_ok-key.ensures.key blocks c.loop-place.invariant.keys) in
    record {
      within = subst (λ list. place < length list) is_rest c.loop-place-test.true;
      same = subst (λ list. HaveSameRow raw blocks start (get_or list place 0)) is_rest
          (same_row raw blocks scratch start (get_or rest place 0) c.in_ok-own.own (own_key (goal.at.returns-then-eq c).In_ok-key) other).leads;
      earlier = subst (λ list. All (λ first. ¬ HaveSameRow raw blocks start first) (take place list)) is_rest c.loop-place.invariant.earlier;
    }

pub loop-place-preserved : goal.loop-place-preserved
loop-place-preserved c =
    let raw = c.args.raw.now in
    let blocks = c.args.blocks.now in
    let states = c.args.states.now in
    let start = get_or states 0 0 in
    let place = c.loop-place.place in
    let rest = take (length states - 1) (drop 1 states) in
    let scratch = c.of-in-loop-place.new.self.renumbering.own in
    let was = c.loop-place.invariant in
    let keys = c.in_ok-key.ensures.keys blocks was.keys in
    let own = own_key (goal.at.loop-place-preserved c).In_ok-key in
    record {
      keys = keys;
      own = own;
      earlier = All-more (λ first. ¬ HaveSameRow raw blocks start first) rest place 0 c.loop-place-test.true was.earlier
          (λ same. let one = one_key raw blocks scratch keys.arena keys.slots (get_or rest place 0) start c.in_ok-key.key c.in_ok-own.own
          (c.in_ok-key.ensures.key blocks was.keys) own (record { leads = λ letter size. sym (same letter size) }) in
          false≢true (sym c.if-eq.false ∙ c.eq.ensures ∙ (same_refs c.in_ok-key.key c.in_ok-own.own).1 one));
    }

pub returns : goal.returns
returns c =
    let raw = c.args.raw.now in
    let blocks = c.args.blocks.now in
    let states = c.args.states.now in
    let start = get_or states 0 0 in
    let rest = take (length states - 1) (drop 1 states) in
    subst (All (λ first. ¬ HaveSameRow raw blocks start first)) (take_all c.loop-place.place rest c.loop-place-test.false ∙ take_rest states 1) c.loop-place.invariant.earlier
