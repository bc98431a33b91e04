-- Which numbers a measure may be compared with.
--     HasRoom basic     there is a number of 32 bits for one more than that with which the form compares
use Rattle.std.specs.Prelude.{◌+◌, ◌^◌, ◌<◌}
use Rattle.dcv_core.specs.Core.{PlainBasic, BasicSlen, BasicCounted}

abbrev pub HasRoom : PlainBasic → Type 0
HasRoom (BasicSlen relation n) = n + 1 < 2 ^ 32
HasRoom (BasicCounted _ p relation n) = n + 1 < 2 ^ 32
HasRoom basic = Unit {0}
