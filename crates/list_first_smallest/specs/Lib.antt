pub mod FirstSmallest
