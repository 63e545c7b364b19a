pub mod CyclesLaws
