-- Laws of the sheet that a build writes.
pub mod Output
