use Rattle.dcv_reader.proofs.SomeReadings.{some_reading}
use Rattle.dcv_reader.proofs.laws.some_reading.Goals as goal

pub returns : goal.returns
returns c = some_reading
