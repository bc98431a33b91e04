-- An automaton of the shelf serves where the answer is known.
use Rattle.std.proofs.Common.{◌≡◌, ℕ, List, refl, sym, subst, ◌∙◌, arith}
use Rattle.std.proofs.lemmas.Option.{same_Some}
use Rattle.dcv_arena.proofs.Counts.{count_exact}
use Rattle.dcv_language.specs.Automaton.{WorkingMachine}
use Rattle.dcv_language.specs.Laws.{OneCanonicalTable}
use Rattle.dcv_dfa.specs.Raw.{RawValue, raw_accepts}
use Rattle.dcv_dfa.specs.Auto.{IsAuto, table_of_states}
use Rattle.dcv_explore.specs.declared.explorer.Limits.{Limits}
use Rattle.dcv_explore.specs.Verdict.{SameThroughout}
use Rattle.dcv_shelf.specs.Shelf.{ShelfTable, table_of_auto}
use Rattle.dcv_build.specs.Asked.{IsRecalled}
use Rattle.dcv_build.specs.Settled.{IsLeastOf, IsBuilt, IsServing, IsFor}
use Rattle.dcv_build.specs.declared.asked.Answer.{Answer}
use Rattle.dcv_build.specs.declared.settling.Explored.{Explored}
use Rattle.dcv_build.proofs.Waiting.{few_states, few_nodes}

-- each canonical automaton of what a canonical one accepts has its table
same_least : OneCanonicalTable → (auto other : RawValue) → IsAuto auto → IsLeastOf auto other → table_of_auto other ≡ table_of_auto auto
same_least one_canonical auto other is least =
    let minimal = least.minimal in
    let same = (one_canonical auto.arena.slots (raw_accepts auto) (table_of_states other) (table_of_states auto) minimal.access is.access minimal.canonical is.canonical).0 in
    λ i. record { slots = minimal.slots i; table = same i }

pub recalled_serves : OneCanonicalTable → {S : Type 0} (machine : WorkingMachine S) (parts : ℕ) (limits : Limits) (shelf : List ShelfTable) (answer : Answer) (explored : Explored)
    → IsFor machine parts limits shelf answer → IsRecalled shelf answer explored → IsServing machine parts limits explored
recalled_serves one_canonical machine parts limits shelf answer explored known is =
    let raw = explored.raw in
    let same : known.one ≡ table_of_auto raw = same_Some known.one (table_of_auto raw) (sym known.there ∙ is.there) in
    let own = known.built.own in
    let few = few_nodes limits known.one raw own (sym same) in
    let exact = count_exact raw.arena is.raw.arena.reduced raw.rows is.raw.rows is.auto.nodes in
    record {
      decides = record {
        auto = raw;
        raw_is = is.raw;
        auto_is = is.auto;
        row_states = answer.states;
        row_nodes = answer.nodes;
        built = subst (λ (t : ShelfTable). IsBuilt machine parts limits t answer.states answer.nodes) same known.built;
        slots = refl;
        verdict = SameThroughout (λ word b. refl);
        states = few_states limits known.one raw own (sym same);
        nodes = omega (arith, few, exact);
      };
      each = λ other least.
          subst (λ (t : ShelfTable × (ℕ × ℕ)). IsBuilt machine parts limits t.0 t.1.0 t.1.1)
          (λ i. ((same ∙ sym (same_least one_canonical raw other is.auto least)) i, (sym is.states i, sym is.nodes i))) known.built;
    }
