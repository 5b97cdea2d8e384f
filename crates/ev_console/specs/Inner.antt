pub mod Answers
pub mod Asking
pub mod Conversation
pub mod LinksShown
