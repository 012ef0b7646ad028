-- docs/FORMAT.md, 10, 11 and 13, as definitions: the account, histories, the run of calls, the claim about all of them, and what stands beside it; items of another store; plans; the marked rows.
pub mod Account
pub mod Run
pub mod Histories
pub mod Left
pub mod Claim
pub mod Seized
pub mod Behind
pub mod Standby
pub mod Sets
pub mod Uncut
pub mod Plan
pub mod Back
pub mod Half
pub mod Misplaced
pub mod Rows
