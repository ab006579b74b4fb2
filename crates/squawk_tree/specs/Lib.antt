pub mod TreeText
pub mod Drawing
pub mod SoundDrawings
pub mod Forest
