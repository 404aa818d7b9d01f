pub mod Exchange
pub mod Inside
