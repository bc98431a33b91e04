-- What a number in decimal stands for.
pub use Rattle.dcv_lexer.specs.Decimal.{with_digit, value_of}
