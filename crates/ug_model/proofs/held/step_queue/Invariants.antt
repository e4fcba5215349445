use Rattle.ug_model.proofs.held.step_queue.Given as goal

abbrev pub ghosts-step_held : goal.ghosts-step_held
ghosts-step_held a = record { put = a.server.wire.link.put; taken = a.server.wire.link.taken }
