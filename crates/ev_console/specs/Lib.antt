pub mod Asking
pub mod Answers
pub mod Table
pub mod Conversation
pub mod Turns
pub mod Inner
