use Rattle.meat_scan.proofs.Common.{◌∙◌, sym, refl}
use Rattle.std.proofs.lemmas.List.{length-map}
use Rattle.meat_scan.proofs.scan.Goals as goal

pub returns : goal.returns
returns g c =
    let all = rw (sym c.tables.view_is) at c.scan_all-tables.ensures in
    record {
      solves = record { as_many = length-map c.tables.inside.profiles.items (λ profile. profile.rows) ∙ all.places; same_target = refl; differ = c.requires.differ; answers = all.answers };
      rules = all.rules;
      valid = all.valid;
      fits = all.fits;
    }
