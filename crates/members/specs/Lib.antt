-- Several files in one buffer: what is found of them (Members), with examples, and files that are all accepted (Accepted).
pub mod Members
pub mod Accepted
pub mod Examples
