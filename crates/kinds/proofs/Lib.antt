-- The laws of settling under the second terms.
pub mod CountLaws
pub mod LowLaws
pub mod AnswerLaws
