use Rattle.file_ports.proofs.{Common.{rules, true, sym, ◌∙◌, ap, ◌≡◌, position, vec_items}, NamedLemmas.at_path, OpenLemmas.{opened_remaining, opened_path, absent}}
use Rattle.file_ports.proofs.steady.SteadyFilesFiles.open_file.Goals as goal

pub returns-in-Some-clause-opened : goal.returns-in-Some-clause-opened
returns-in-Some-clause-opened c =
    let found = ap (λ z. position (at_path c.args.path.now) z) (sym c.deref.ensures.value) ∙ sym c.index_of-self.ensures in
    let all = opened_path (true ≡ true) c.args.self.now.held.items c.args.path.now c.index_of-self.result c.in-Some.field-0 found c.in-Some.is in
    record {
      opens = opened_remaining vec_items c.args.self.now.held.items c.args.path.now c.index_of-self.result c.in-Some.field-0 found c.in-Some.is;
      in_hand = (all.0, all.1);
      cause = search rules;
    }

pub returns-in-None-clause-opened : goal.returns-in-None-clause-opened
returns-in-None-clause-opened c = record {
  opens =
      absent vec_items c.args.self.now.held.items c.args.path.now c.index_of-self.result
      (ap (λ z. position (at_path c.args.path.now) z) (sym c.deref.ensures.value) ∙ sym c.index_of-self.ensures) c.in-None.is;
  in_hand = search rules;
  cause = search rules;
}
