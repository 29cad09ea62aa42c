-- What the contracts say.
pub mod Ends
pub mod Meet
pub mod Splice
