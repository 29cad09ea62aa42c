-- The laws of the records of the canonical file: what stands in one, and that it is put.
pub mod RecordLaws
pub mod PutLaws
