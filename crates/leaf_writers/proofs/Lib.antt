pub mod AnonymousLaws
pub mod BracketsLaws
pub mod FragmentsLaws
pub mod NamesLaws
pub mod NumbersLaws
pub mod SignsLaws
