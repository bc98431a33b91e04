use Rattle.std.proofs.Common.{map}
use Rattle.dcv_tokens.specs.Reading.{seen}
use Rattle.dcv_reader.proofs.Leaves.{is_file}
use Rattle.dcv_reader.proofs.translation.file_of.Goals as goal

pub unreachable-requires : goal.unreachable-requires
unreachable-requires c = is_file (map seen c.args.tokens.now) c.in_ok-file.field-0 c.in_ok-file.ensures c.in_default.not-File
