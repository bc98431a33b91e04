mod Cores
mod FewCounts
