mod Answers
mod FaultFacts
mod Included
mod Least
mod SideBySide
