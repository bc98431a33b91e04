-- what public clauses cite: lists of numbers, the lists of the blocks' members, sets of numbers, lists of numbers by leaf and place, and what
-- leads to some leaves
pub mod NumberLists
pub mod Members
pub mod SparseSet
pub mod Lists
pub mod Leads
-- for proofs alone: what stands directly above each leaf and node
pub mod Index
