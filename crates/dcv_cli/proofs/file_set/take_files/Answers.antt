-- The files are taken in turn.
use Rattle.dcv_cli.proofs.Common.{◌≡◌, ◌++◌, ◌∷◌, [], suc, length, map, take, drop, ap, sym, ◌∙◌, subst, append_assoc, err_from_is_err_and, only, Memory, List, ℕ, arith}
use Rattle.std.proofs.lemmas.Grind.{common_steps}
use Rattle.std.specs.Borrow.{Bor}
use Rattle.dcv_cli.proofs.Common.{get_or}
use Rattle.dcv_cli.specs.FileSet.{IsOfSet}
use Rattle.dcv_cli.specs.Joined.{StopsTaking, TakesAll}
use Rattle.dcv_cli.specs.Outside.{of_files}
use Rattle.dcv_cli.specs.Refusal.{marked}
use Rattle.dcv_cli.specs.declared.refused.Which.TheVariants.{Number}
use Rattle.dcv_cli.proofs.JoinedSets.{next}
use Rattle.dcv_cli.proofs.TakenFiles.{one_name_more, performs_memory, performs_refused, split_names, takes_count, takes_more, takes_none}
use Rattle.dcv_cli.proofs.file_set.take_files.Goals as goal

pub loop-name-init : goal.loop-name-init
loop-name-init g c =
    subst (λ items. TakesAll [] items (of_files g.F.Files c.args.files.now) (of_files g.F.Files c.args.files.now)) (sym c.new-taken.ensures.items) (takes_none _)

pub returns-in_err-push-in-Ok-clause-stops : goal.returns-in_err-push-in-Ok-clause-stops
returns-in_err-push-in-Ok-clause-stops g c =
    let p = err_from_is_err_and c.from_residual.result c.from_residual.ensures.1 in
    let i = c.loop-name.name-index in
    let found = c.in-Ok.ensures.read in
    let earlier = map (λ (name : Bor (List ℕ)). name.now) (take i c.args.names.now) in
    let others = map (λ (name : Bor (List ℕ)). name.now) (drop (suc i) c.args.names.now) in
    let more = takes_more c.loop-name.invariant _ found.text found.is.0 c.in-Ok.formula _ c.in-Ok.ensures.taken found.there found.is.1 in
    rw (p.1, p.2) (subst (λ names. StopsTaking names (only Memory) (of_files g.F.Files c.args.files.now) (of_files g.F.Files c.take.new.files))
    (append_assoc earlier (_ ∷ []) others ∙ sym (split_names c.args.names.now i _ c.loop-name-test.true)) (performs_memory more others))

pub returns-in-Err-clause-stops : goal.returns-in-Err-clause-stops
returns-in-Err-clause-stops g c =
    let i = c.loop-name.name-index in
    let within = c.loop-name-test.true in
    let all = c.loop-name.invariant in
    let earlier = map (λ (name : Bor (List ℕ)). name.now) (take i c.args.names.now) in
    let others = map (λ (name : Bor (List ℕ)). name.now) (drop (suc i) c.args.names.now) in
    let count = takes_count earlier c.loop-name.taken.items _ _ all in
    let len = c.len.ensures in
    let same : c.len.result ≡ length earlier = grind (arith, common_steps, len, count) in
    let which : c.number.result ≡ Number (suc (length earlier)) = c.number.ensures ∙ ap (λ n. Number (suc n)) same in
    let stops : StopsTaking (map (λ (name : Bor (List ℕ)). name.now) c.args.names.now) (marked (Number (suc (length earlier))) c.in-Err.refusal)
    (of_files g.F.Files c.args.files.now) (of_files g.F.Files c.take.new.files) =
    subst (λ names. StopsTaking names (marked (Number (suc (length earlier))) c.in-Err.refusal) (of_files g.F.Files c.args.files.now) (of_files g.F.Files c.take.new.files))
    (sym (split_names c.args.names.now i _ within))
    (λ asked limits tuples out. performs_refused all _ others (IsOfSet asked limits tuples) out c.in-Err.refusal _ c.in-Err.ensures.taken c.in-Err.ensures.refused) in
    subst (λ refused. StopsTaking (map (λ (name : Bor (List ℕ)). name.now) c.args.names.now) refused (of_files g.F.Files c.args.files.now) (of_files g.F.Files c.take.new.files))
    (sym (c.in_file.ensures ∙ ap (λ which. marked which c.in-Err.refusal) which)) stops

pub loop-name-preserved : goal.loop-name-preserved
loop-name-preserved g c =
    let i = c.loop-name.name-index in
    let d : Bor (List ℕ) = record { ref_ptr = (0, 0); now = [] } in
    let earlier = map (λ (name : Bor (List ℕ)). name.now) (take i c.args.names.now) in
    let found = c.in-Ok.ensures.read in
    let more = takes_more c.loop-name.invariant _ found.text found.is.0 c.in-Ok.formula _ c.in-Ok.ensures.taken found.there found.is.1 in
    subst (λ n. TakesAll (map (λ (name : Bor (List ℕ)). name.now) (take n c.args.names.now)) c.push.new.list.items (of_files g.F.Files c.args.files.now) (of_files g.F.Files c.take.new.files)) (next i)
    (subst (λ names. TakesAll names c.push.new.list.items (of_files g.F.Files c.args.files.now) (of_files g.F.Files c.take.new.files))
    (sym (one_name_more c.args.names.now i d c.loop-name-test.true))
    (subst (λ items. TakesAll (earlier ++ (get_or c.args.names.now i d).now ∷ []) items (of_files g.F.Files c.args.files.now) (of_files g.F.Files c.take.new.files)) (sym c.in_ok-push-in-Ok.ensures) more))
