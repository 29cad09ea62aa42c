-- Several days under one oven, as one day.
pub mod Joined
