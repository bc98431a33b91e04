use Rattle.std.proofs.Common.{map, sym, ap, ◌∙◌}
use Rattle.dcv_automaton_read.specs.File.{access_from, accesses_of}
use Rattle.dcv_automaton_read.proofs.ReadFiles.{accesses_again}
use Rattle.dcv_automaton_read.proofs.file.AutoFile.access.Goals as goal

pub returns : goal.returns
returns c = ap (map access_from) c.deref.ensures.value ∙ sym (accesses_again 0 (map access_from c.self.inside.access.items)) ∙ ap accesses_of c.self.view_is
