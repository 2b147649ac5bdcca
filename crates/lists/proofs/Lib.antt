-- Laws of the definitions on lists.
pub mod Member
pub mod Every
pub mod Rising
pub mod Runs
pub mod Firsts
pub mod Closure
pub mod Within
pub mod Counts
pub mod Computed
pub mod Stores
pub mod Filled
