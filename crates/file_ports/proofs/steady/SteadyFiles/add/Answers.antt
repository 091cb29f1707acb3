use Rattle.file_ports.proofs.{Common.{ap, ◌∙◌, vec_items, FileMap, file_at}, OpenLemmas.put_file}
use Rattle.file_ports.proofs.steady.SteadyFiles.add.Goals as goal

pub returns-clause-ok : goal.returns-clause-ok
returns-clause-ok c =
    λ p. ap (λ (files : FileMap). file_at files p) c.close.ensures.files
    ∙ put_file vec_items c.args.self.now.held.items c.put.new.entries.items c.args.path.now p c.in_ok-value.value c.args.bytes.now c.in_ok-value.ensures.items (c.in_ok-put.ensures.ok p)
