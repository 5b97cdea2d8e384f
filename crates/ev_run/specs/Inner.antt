pub mod ControlSocket
pub mod Lives
pub mod RunEdges
pub mod Serving
pub mod Settling
pub mod Sockets
pub mod SystemDrops
pub mod Taps
