use Rattle.std.proofs.Common.{◌≡◌, ◌+◌, ◌<◌, ◌^◌, ◌++◌, ◌∷◌, [], Bool, List, length, sym, ap, subst, ◌∙◌, arith}
use Rattle.dcv_arena.specs.declared.nodes.Ref.{Ref}
use Rattle.dcv_arena.specs.declared.nodes.Ref.TheVariants.{Leaf}
use Rattle.dcv_dfa.specs.Raw.{RawValue, IsRaw, raw_value}
use Rattle.dcv_stuck.specs.Sink.{LeadTo, IsOfStuckWords}
use Rattle.dcv_stuck.proofs.Sinks.{made, made_is_raw, of_stuck_words}
use Rattle.dcv_stuck.proofs.sink.stuck_words.Goals as goal
use Rattle.dcv_stuck.proofs.sink.stuck_words.Goals.{After-start}

module _ (c : After-start) where
  abbrev raw : RawValue
  raw = c.args.raw.now

  abbrev rows : List Ref
  rows = c.in_ok-new.new.rows.items

  abbrev flags : List Bool
  flags = c.in_ok-accepting.accepting.items

  lead : LeadTo (Leaf (length raw.rows)) rows flags
  lead = subst (λ n. LeadTo (Leaf n) rows flags) c.states-sink.ensures.states
      (subst (λ rows. LeadTo (Leaf c.states-sink.result) rows flags) c.deref-2.ensures.value c.in_ok-accepting.ensures.flags)

  each : length flags ≡ length rows
  each = c.in_ok-accepting.ensures.count ∙ ap length c.deref-2.ensures.value

  few : length raw.rows + 1 < 2 ^ 32
  few = omega (arith, c.if-sink.false, c.states-sink.ensures.states, c.states-sink.ensures.raw.states)

  is_made : raw_value c.in_ok-new.new.arena c.push.new.self.items c.push-2.new.self.items c.start.result ≡ made raw c.in_ok-new.new.arena rows flags
  is_made = let all_rows = c.in_ok-push.ensures.items ∙ ap (λ n. rows ++ Leaf n ∷ []) c.states-sink.ensures.states in
      λ i. raw_value c.in_ok-new.new.arena (all_rows i) (c.in_ok-push-2.ensures.items i) (c.start.ensures.start i)

pub new-requires : goal.new-requires
new-requires c =
    subst IsRaw (sym (is_made c))
    (made_is_raw c.args.raw.now c.states-sink.ensures.raw c.in_ok-new.new.arena (rows c) (flags c) c.in_ok-new.ensures.rows c.in_ok-new.ensures.count (lead c) (each c) (few c))

pub returns : goal.returns
returns c =
    let before = (goal.at.returns c).After-start in
    subst (IsOfStuckWords c.args.raw.now) (sym (c.new.ensures ∙ is_made before))
    (of_stuck_words c.args.raw.now c.states-sink.ensures.raw c.in_ok-new.new.arena (rows before) (flags before) c.in_ok-new.ensures.rows c.in_ok-new.ensures.count
    (lead before) (each before) (few before))
