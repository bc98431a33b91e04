use Rattle.std.proofs.Common.{map, sym, ap, ◌∙◌}
use Rattle.dcv_automaton_read.specs.File.{suffix_from, suffixes_of}
use Rattle.dcv_automaton_read.proofs.ReadFiles.{suffixes_again}
use Rattle.dcv_automaton_read.proofs.file.AutoFile.suffixes.Goals as goal

pub returns : goal.returns
returns c = ap (map suffix_from) c.deref.ensures.value ∙ sym (suffixes_again 0 (map suffix_from c.self.inside.suffixes.items)) ∙ ap suffixes_of c.self.view_is
