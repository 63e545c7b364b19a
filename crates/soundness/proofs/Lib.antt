pub mod SheetLaws
pub mod SoundLaws
pub mod SoundnessLaws
pub mod PairedLaws
pub mod ChainLaws
