pub mod ThisLaws
pub mod ChainLaws
pub mod FullLaws
pub mod HeadLaws
pub mod ArraysLaws
