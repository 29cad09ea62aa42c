-- What a sheet comes to on a day, and how that is added up.
pub mod Sheet
pub mod Judge
