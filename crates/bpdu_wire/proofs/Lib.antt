pub mod Again
