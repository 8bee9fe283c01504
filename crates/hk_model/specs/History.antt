-- What a history means: rows and their names, transactions, the tables that they leave, the facts that its items state.
pub mod Rows
pub mod Facts
pub mod Histories
pub mod Commits
