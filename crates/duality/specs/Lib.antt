-- One row more (Late): what a reader must believe. Prices and Heavy serve proofs. The laws stand in proofs/.
pub mod Late
pub mod Prices
pub mod Heavy
