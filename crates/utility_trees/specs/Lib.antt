pub mod Answers
pub mod Causes
pub mod WithoutQuery
pub mod Serving
