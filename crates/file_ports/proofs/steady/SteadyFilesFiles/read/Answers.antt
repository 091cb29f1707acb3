use Rattle.file_ports.proofs.{Common.{rules, sym, ◌∙◌, ◌≡◌, length, drop, ◌+◌, vec_items}, OpenLemmas.{holds, open_remaining, if_some_at, read_count, moved, at_end, consumes_known, end_known}}
use Rattle.file_ports.specs.Steady.{remaining_of}
use Rattle.file_ports.proofs.steady.SteadyFilesFiles.read.Goals as goal

pub returns-clause-reads : goal.returns-clause-reads
returns-clause-reads c =
    let h = holds c.args.self.now.held.items c.args.self.now.current c.in-Some.index c.index-file.result.now c.in-Some.is c.requires.in_hand c.index-file.ensures in
    let same_len : c.len.result ≡ length c.deref.result.now = c.len.ensures ∙ sym c.deref.ensures.len in
    let old = open_remaining vec_items _ c.args.self.now.offset _ _ c.index-file.result.now h in
    let new = open_remaining vec_items _ (c.min-from.result + c.copy_front-count.result) _ _ c.index-file.result.now h in
    record {
      in_hand = search rules;
      bound = search rules;
      bytes = (
        consumes_known _ _ _ _ _ old new (moved c.index-file.result.now.value.items c.deref.result.now c.copy_front-count.new.buffer
            c.args.self.now.offset c.min-from.result _ _ c.deref.ensures.value c.min-from.ensures same_len c.copy_front-count.ensures.front),
        λ z r. end_known _ _ new (at_end c.index-file.result.now.value.items c.deref.result.now c.args.self.now.offset c.min-from.result _ _
            c.args.self.now.piece _ c.deref.ensures.value c.min-from.ensures same_len c.copy_front-count.ensures.count c.args.self.now.some c.requires.room z),
      );
      cause = search rules;
    }

pub returns-clause-count : goal.returns-clause-count
returns-clause-count c =
    let h = holds c.args.self.now.held.items c.args.self.now.current c.in-Some.index c.index-file.result.now c.in-Some.is c.requires.in_hand c.index-file.ensures in
    if_some_at (remaining_of c.args.self.now) (drop c.args.self.now.offset c.index-file.result.now.value.items) _ (open_remaining vec_items _ c.args.self.now.offset _ _ c.index-file.result.now h)
    (read_count c.index-file.result.now.value.items c.deref.result.now c.args.self.now.offset c.min-from.result _ _ _ _ c.deref.ensures.value
    c.min-from.ensures (c.len.ensures ∙ sym c.deref.ensures.len) c.copy_front-count.ensures.count)
