mod Adding
mod Rows
mod Judged
mod OneSummary
mod Swept
