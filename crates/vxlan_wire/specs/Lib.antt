pub mod Vxlan
pub mod Numbers
