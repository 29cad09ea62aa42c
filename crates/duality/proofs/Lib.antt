-- The laws of prices, of sheets with equal totals, and of one row more.
pub mod PriceLaws
pub mod BlendLaws
pub mod CrossLaws
pub mod StrongLaws
pub mod SheetLaws
pub mod HeavyLaws
pub mod LateLaws
pub mod RowLaws
