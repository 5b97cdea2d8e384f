-- The table of the role and state transitions, by the names of the rules.
use Rattle.std.specs.Prelude.{ℕ, Bool, List}
use Rattle.rstp_state.specs.declared.port.PortState.{PortState}
use Rattle.rstp_state.specs.declared.port.Timing.{Timing}
use Rattle.rstp_state.specs.Port.{change_at}
use Rattle.rstp_roles.specs.declared.rule.RoleRule.{RoleRule}
use Rattle.rstp_roles.specs.declared.rule.RoleRule.TheVariants.{
  Disable,
  DisabledPort,
  Root,
  RootProposed,
  RootAgreed,
  Reroot,
  Rerooted,
  RootLearn,
  RootForward,
  Designated,
  Propose,
  Synced,
  Retired,
  DesignatedDiscard,
  DesignatedLearn,
  DesignatedForward,
  Block,
  Alternate,
  AlternateProposed,
  AlternateAgreed,
  Backup,
}
use Rattle.rstp_roles.specs.declared.rule.StateRule.{StateRule}
use Rattle.rstp_roles.specs.declared.rule.StateRule.TheVariants.{ToLearning, ToForwarding, ToDiscarding}
use Rattle.rstp_roles.specs.AllPorts.{all_synced, re_rooted}
use Rattle.rstp_roles.specs.RoleTransitions as roles
use Rattle.rstp_roles.specs.StateTransitions as states

-- the rule's guard: a condition on all ports, and on port p among them
abbrev pub role_asks : RoleRule → Timing → List PortState → ℕ → PortState → Bool
role_asks Disable timing ports p port = roles.disable_guard port
role_asks DisabledPort timing ports p port = roles.disabled_port_guard timing port
role_asks Root timing ports p port = roles.root_guard timing port
role_asks RootProposed timing ports p port = roles.root_proposed_guard port
role_asks RootAgreed timing ports p port = roles.root_agreed_guard port (all_synced ports)
role_asks Reroot timing ports p port = roles.reroot_guard port
role_asks Rerooted timing ports p port = roles.rerooted_guard port
role_asks RootLearn timing ports p port = roles.root_learn_guard port (re_rooted p ports)
role_asks RootForward timing ports p port = roles.root_forward_guard port (re_rooted p ports)
role_asks Designated timing ports p port = roles.designated_guard port
role_asks Propose timing ports p port = roles.propose_guard port
role_asks Synced timing ports p port = roles.synced_guard port
role_asks Retired timing ports p port = roles.retired_guard port
role_asks DesignatedDiscard timing ports p port = roles.designated_discard_guard port
role_asks DesignatedLearn timing ports p port = roles.designated_learn_guard port
role_asks DesignatedForward timing ports p port = roles.designated_forward_guard port
role_asks Block timing ports p port = roles.block_guard port
role_asks Alternate timing ports p port = roles.alternate_guard timing port
role_asks AlternateProposed timing ports p port = roles.alternate_proposed_guard port
role_asks AlternateAgreed timing ports p port = roles.alternate_agreed_guard port (all_synced ports)
role_asks Backup timing ports p port = roles.backup_guard timing port

-- the ports after the rule fired at port p
abbrev pub role_does : RoleRule → Timing → List PortState → ℕ → List PortState
role_does Disable timing ports p = change_at p roles.disable_effect ports
role_does DisabledPort timing ports p = change_at p (roles.disabled_port_effect timing) ports
role_does Root timing ports p = change_at p (roles.root_effect timing) ports
role_does RootProposed timing ports p = roles.root_proposed_effect p ports
role_does RootAgreed timing ports p = change_at p roles.root_agreed_effect ports
role_does Reroot timing ports p = roles.reroot_effect ports
role_does Rerooted timing ports p = change_at p roles.rerooted_effect ports
role_does RootLearn timing ports p = change_at p (roles.root_learn_effect timing) ports
role_does RootForward timing ports p = change_at p roles.root_forward_effect ports
role_does Designated timing ports p = change_at p roles.designated_effect ports
role_does Propose timing ports p = change_at p (roles.propose_effect timing) ports
role_does Synced timing ports p = change_at p roles.synced_effect ports
role_does Retired timing ports p = change_at p roles.retired_effect ports
role_does DesignatedDiscard timing ports p = change_at p (roles.designated_discard_effect timing) ports
role_does DesignatedLearn timing ports p = change_at p (roles.designated_learn_effect timing) ports
role_does DesignatedForward timing ports p = change_at p roles.designated_forward_effect ports
role_does Block timing ports p = change_at p roles.block_effect ports
role_does Alternate timing ports p = change_at p (roles.alternate_effect timing) ports
role_does AlternateProposed timing ports p = roles.alternate_proposed_effect p ports
role_does AlternateAgreed timing ports p = change_at p roles.alternate_agreed_effect ports
role_does Backup timing ports p = change_at p (roles.backup_effect timing) ports

abbrev pub state_asks : StateRule → PortState → Bool
state_asks ToLearning port = states.to_learning_guard port
state_asks ToForwarding port = states.to_forwarding_guard port
state_asks ToDiscarding port = states.to_discarding_guard port

abbrev pub state_does : StateRule → PortState → PortState
state_does ToLearning port = states.to_learning_effect port
state_does ToForwarding port = states.to_forwarding_effect port
state_does ToDiscarding port = states.to_discarding_effect port
