-- What the calls promise, and what is claimed of lookups; then what the contract of the search cites.
pub mod Answers
pub mod Exactly
pub mod Search
