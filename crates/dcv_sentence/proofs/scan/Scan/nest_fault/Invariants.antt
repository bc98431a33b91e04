use Rattle.std.proofs.Common.{◌≡◌, ℕ, ◌≤◌, map, take}
use Rattle.dcv_tokens.specs.Reading.{seen}
use Rattle.dcv_sentence.specs.Faults.{depth, deepest}
use Rattle.dcv_sentence.proofs.scan.Scan.nest_fault.Given as goal

-- the depth of the tokens that were passed, which were never too deep
abbrev pub invariant-loop-token : goal.invariant-loop-token
invariant-loop-token l = record {
  current : l.depth ≡ depth (take l.token-index (map seen l.self.tokens.items));
  within : (earlier : ℕ) → earlier ≤ l.token-index → depth (take earlier (map seen l.self.tokens.items)) ≤ deepest;
}
