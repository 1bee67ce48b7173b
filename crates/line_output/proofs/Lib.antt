mod FirstPlaces
pub mod WrittenText
