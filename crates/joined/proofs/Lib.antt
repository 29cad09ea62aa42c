-- The laws of settling several counters together, and what is promised of it (Demand).
pub mod CloseLaws
pub mod CountLaws
pub mod AnswerLaws
pub mod Demand
