pub mod OpenBoxes
