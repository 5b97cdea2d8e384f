pub mod Closing
pub mod Entering
pub mod Journal
pub mod Booking
pub mod Rule
