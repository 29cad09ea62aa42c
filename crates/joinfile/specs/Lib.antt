-- The joined file of several counters (Files), and that of two small files (Examples).
pub mod Files
pub mod Examples
