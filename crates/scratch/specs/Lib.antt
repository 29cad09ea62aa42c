-- What the contracts say.
pub mod Clear
pub mod Memory
pub mod Map
pub mod View
pub mod Tables
