-- What is seen of the files and of the streams.
--     Stream                 what was written to a stream, where that is told, and how many writes have failed
--     Outside                what is seen of the files and of the output
--     stream, of_files ..    of this sink, and of these files alone, by the words of their traits
--     with_output, output_of the output, put beside the files and taken out
--     outside ..             of these files and this sink
use Rattle.std.specs.Prelude.{ℕ, List, Option, None}
use Rattle.dcv_io.specs.declared.files.Files.{Ghosts as WordsOfFiles}
use Rattle.dcv_io.specs.declared.sink.Sink.{Ghosts as WordsOfSink}
use Rattle.dcv_cli.specs.Common.{Disk}

pub record Stream : Type 0 where
  pub written : Option (List ℕ)
  pub faults : ℕ

pub record Outside : Type 0 where
  pub told : Option Disk
  pub asked : Option (List (List ℕ))
  pub open_faults : ℕ
  pub read_faults : ℕ
  -- how many files were opened or failed to be, and how many reads there were
  pub calls : ℕ
  pub written : Option (List ℕ)
  pub faults : ℕ

abbrev pub stream : {S : Type 0} → WordsOfSink S → S → Stream
stream words sink = record { written = words.written sink; faults = words.faults sink }

abbrev pub of_files : {F : Type 0} → WordsOfFiles F → F → Outside
of_files words files =
    record { told = words.told files; asked = words.asked files; open_faults = words.open_faults files; read_faults = words.read_faults files; calls = words.calls files; written = None; faults = 0 }

abbrev pub with_output : Outside → Stream → Outside
with_output files out = record files { written = out.written; faults = out.faults }

abbrev pub output_of : Outside → Stream
output_of seen = record { written = seen.written; faults = seen.faults }

abbrev pub outside : {F S : Type 0} → WordsOfFiles F → WordsOfSink S → F → S → Outside
outside files_words sink_words files sink = with_output (of_files files_words files) (stream sink_words sink)
