-- what public clauses cite: the file as plain data, its text, the form, the table rules and what they ask in words,
-- how nodes are numbered, what a good file stands for, and both versions
pub mod File
pub mod Spelled
pub mod Form
pub mod Rules
pub mod GoodFile
pub mod Numbering
pub mod Meaning
pub mod Versions
-- the statements that `src/laws.rt` proves
pub mod Laws
