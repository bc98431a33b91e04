use Rattle.std.proofs.Common.{All, length, take, nat_eq}
use Rattle.indexmap.specs.IndexMap.{get}
use Rattle.dcv_arena.specs.Arena.{IsArena, KeepsRefs}
use Rattle.dcv_certificate.specs.Marks.{IsMarkFrom}
use Rattle.dcv_certificate.specs.Indicators.{HasFewNodes, Became, AreIndicators}
use Rattle.dcv_certificate.proofs.indicators.Part.marks.Given as goal

abbrev pub invariant-loop-state : goal.invariant-loop-state
invariant-loop-state l = record {
  kept : KeepsRefs l.fn.scratch l.scratch;
  arena : IsArena l.scratch;
  few : HasFewNodes l.self l.scratch (get nat_eq l.became);
  became : Became l.self l.scratch (get nat_eq l.became);
  refs : All (IsMarkFrom l.scratch (length l.rows) 0) l.marks.items;
  so_far : AreIndicators l.self l.rows (take l.state-index l.looked) l.scratch l.marks.items;
}
