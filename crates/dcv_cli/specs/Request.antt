-- What the arguments of the program ask for, by what the command line says of them.
--     AsksFor words request    the words are taken, and ask for the request
use Rattle.std.specs.Prelude.{◌≡◌, ℕ, List, Some}
use Rattle.dcv_cli.specs.Common.{Request, IsTaken}
use Rattle.dcv_command.specs.Request.{request_of}

pub record AsksFor (words : List (List ℕ)) (request : Request) : Type 0 where
  pub taken : IsTaken words
  pub asked : request_of words ≡ Some request
