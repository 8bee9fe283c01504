pub mod CutParts
pub mod OwnParts
