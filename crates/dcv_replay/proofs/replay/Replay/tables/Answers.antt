use Rattle.std.proofs.Common.{◌≡◌, ℕ, List, [], ◌∷◌, ◌++◌, length, sym, ap, subst, ◌∙◌, arith}
use Rattle.std.proofs.lemmas.List.{length-map}
use Rattle.dcv_c_tables.specs.Observer.{parameter_name}
use Rattle.dcv_tables_read.specs.Seen.{seen_tables}
use Rattle.dcv_replay.specs.Program.{IsReplay}
use Rattle.dcv_replay.specs.Observer.{Tables, Follows}
use Rattle.dcv_replay.proofs.TableRuns.{same_parts, is_replay_of_tables, follows_tables}
use Rattle.dcv_replay.proofs.replay.Replay.tables.Goals as goal

pub of-requires : goal.of-requires
of-requires c =
    let tables = seen_tables c.args.unit in
    let wide : c.len.result ≡ length tables.parameters = omega (arith, c.len.ensures, length-map c.args.unit.names.items (λ name. parameter_name name.now)) in
    let fresh : c.push.new.self.items ≡ 0 ∷ [] = c.in_ok-push.ensures.items ∙ ap (λ (front : List ℕ). front ++ 0 ∷ []) c.new-store.ensures.items in
    same_parts tables IsReplay _ _ wide
    fresh (is_replay_of_tables tables c.requires)

pub returns : goal.returns
returns c =
    let tables = seen_tables c.args.unit in
    let wide : c.len.result ≡ length tables.parameters = omega (arith, c.len.ensures, length-map c.args.unit.names.items (λ name. parameter_name name.now)) in
    let fresh : c.push.new.self.items ≡ 0 ∷ [] = c.in_ok-push.ensures.items ∙ ap (λ (front : List ℕ). front ++ 0 ∷ []) c.new-store.ensures.items in
    subst (Follows (Tables tables) []) (sym c.of.ensures)
    (same_parts tables (Follows (Tables tables) []) _ _ wide
    fresh (follows_tables tables))
