use Rattle.meat_scan.proofs.Common.{◌≡◌, ◌∙◌, ap, arith, length, capacity_at, written_back}
use Rattle.meat_scan.proofs.emptied.Goals as goal

pub returns : goal.returns
returns g c =
    let same : c.deref_mut.result.now ≡ c.args.tables.profiles = c.deref_mut.ensures.value ∙ ap (λ t. t.profiles) c.tables.view_is in
    rw (written_back c.clear_all.new.profiles c.tables.inside.profiles.items c.tables.inside.profiles.len (omega arith) (omega arith)) (record {
      empty = record { no_rows = c.clear_all.ensures.empty; no_exits = c.clear.ensures.none };
      spare = λ place. c.clear_all.ensures.spare place ∙ ap (λ profiles. capacity_at profiles place) same;
      places = c.clear_all.ensures.len ∙ ap length same;
      runs = c.clear.ensures.len ∙ ap (λ t. length t.exits) c.tables.view_is;
    })
