-- what public clauses cite: the classes of tokens, the tokens of a text and where its syntax is at fault, texts in pieces,
-- what is asked of a name, names among others, what derivation trees stand for, what an observer's text is, and how its words
-- are judged
pub mod Classes
pub mod Items
pub mod Pieces
pub mod Layouts
pub mod Conditions
pub mod Naming
pub mod Scheme
pub mod Subsets
pub mod Judged
-- what the lexer has left
pub mod Left
-- what readers tell of names
pub mod Rows
