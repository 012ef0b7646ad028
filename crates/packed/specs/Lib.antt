pub mod Surface
pub mod Plans
