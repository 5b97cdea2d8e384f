-- The decision on a file found at the path of a control socket, and the mode of the socket's file.
use Rattle.std.specs.Prelude.{◌≡◌, ℕ, Result, Err, IsOk}
use Rattle.ev_run.specs.declared.control_socket.ListenError.{ListenError}
use Rattle.ev_run.specs.declared.control_socket.ListenError.TheVariants as listen_error
use Rattle.ev_run.specs.declared.control_socket.PathState.{PathState}
use Rattle.ev_run.specs.declared.control_socket.PathState.TheVariants.{Nothing, Stale, Served, Foreign, Hidden}
use Rattle.ev_run.specs.declared.control_socket.BindAction.{BindAction}
use Rattle.ev_run.specs.declared.control_socket.BindAction.TheVariants.{Bind, Replace, Refuse}

-- only a socket at which no process listens any more is removed
abbrev pub what_to_do : PathState → BindAction
what_to_do Nothing = Bind
what_to_do Stale = Replace
what_to_do Served = Refuse listen_error.InUse
what_to_do Foreign = Refuse listen_error.NotSocket
what_to_do (Hidden why) = Refuse why

-- The path is free, or this is the reason against it. The system decides whether a file can be removed.
abbrev pub Follows : BindAction → Result (Unit {0}) ListenError → Type 0
Follows Bind result = IsOk result
Follows Replace result = Unit {0}
Follows (Refuse why) result = result ≡ Err why

-- 0600: only its user reads and writes it
abbrev pub socket_mode : ℕ
socket_mode = 384
