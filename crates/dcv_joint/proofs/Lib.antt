-- what the code does
mod MovedSteps
-- the laws
mod MovedWords
mod Places
mod JointLists
mod FileWords
