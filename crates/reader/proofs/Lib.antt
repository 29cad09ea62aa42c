-- The laws of reading a claim file.
pub mod PassedLaws
pub mod FileLaws
pub mod AcceptedLaws
pub mod SectionLaws
pub mod ReadLaws
pub mod StoredLaws
pub mod TermsLaws
