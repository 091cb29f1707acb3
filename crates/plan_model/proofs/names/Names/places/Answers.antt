use Rattle.plan_model.proofs.Common.{subst, AreNames}
use Rattle.plan_model.proofs.names.Names.places.Goals as goal

pub returns-clause-names : goal.returns-clause-names
returns-clause-names c =
    let h = c.self.invariant in
    subst AreNames c.self.view_is (record {
      places = h.0.names.distinct;
      runs = h.1.names.distinct;
      place_texts = h.0.utf8;
      run_texts = h.1.utf8;
    })
