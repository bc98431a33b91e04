mod FirstLetters
pub mod LetterOrder
