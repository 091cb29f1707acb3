use Rattle.tests_graph_files.proofs.graph_files.trip_over.Goals as goal

pub replay-requires : goal.replay-requires
replay-requires c =
    (c.read_fits.ensures c.args.network.now c.args.names.now c.as_bytes.result.now 0 2 1717401600 c.in-Ok.head c.in-Ok.graph c.in-Ok.ensures).0
