use Rattle.ev_peers.proofs.job.run_one.Given as goal

abbrev pub ghosts-edge_worker-L-Ledger : goal.ghosts-edge_worker-L-Ledger
ghosts-edge_worker-L-Ledger g a = record { name = a.blank.name; parts = a.blank.parts }

abbrev pub ghosts-edge_worker-L-Placed : goal.ghosts-edge_worker-L-Placed
ghosts-edge_worker-L-Placed g a = record { place = a.seat.place }
