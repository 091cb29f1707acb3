use Rattle.meat_engine.proofs.top.run.Goals as goal

pub returns : goal.returns
returns g c = rw c.standard.ensures at c.run_limited.ensures
