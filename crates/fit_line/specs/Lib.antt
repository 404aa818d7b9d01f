pub mod Report
pub mod Inside
