pub mod ContentsLaws
pub mod DirectoryLaws
pub mod Laws
