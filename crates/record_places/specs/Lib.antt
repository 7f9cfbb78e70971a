pub mod RecordPlaces
pub mod Comparing
