-- Laws of the slip and of the call's answer.
pub mod SlipLaws
pub mod LineLaws
pub mod WriteLaws
