pub mod AllPorts
pub mod RoleTransitions
pub mod Rules
pub mod StateTransitions
