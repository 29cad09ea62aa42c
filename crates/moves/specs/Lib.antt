-- What the contracts say.
pub mod Fill
pub mod Join
pub mod Names
