use Rattle.ug_threads.proofs.snapshot_sink.listen.Given as goal

abbrev pub invariant-loop : goal.invariant-loop
invariant-loop g l =
    (goal.iterator-loop g).can_next l.iterator' × (goal.iterator-loop g).is_finite l.iterator'
    × g.T.SnapshotSink.moves l.fn.sink l.sink × g.T.SnapshotSink.ready l.sink
