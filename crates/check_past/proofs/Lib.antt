-- Tests 17 to 19 of a file in the sheet's own order.
pub mod Order
