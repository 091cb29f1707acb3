use Rattle.lower_proof.proofs.Common.{ℕ, List, arith, rules, nat_le, leb-true, leb-false, le-leb, cases_lt, IsPartitionPoint-from_clause, Entry, Falls, entry_at}
use Rattle.std.specs.List.Sorted.{IsPartitionedBy}
use Rattle.lower_proof.proofs.board.count_in_time.Goals as goal

-- entries that fall are parted by an arrival
parted : (entries : List Entry) (x : ℕ) → Falls entries → IsPartitionedBy (λ e. nat_le x e.by.0) entries
parted entries x falls i j d before within is = grind (arith, cases_lt, le-leb, leb-true)

pub returns-clause-in_time : goal.returns-clause-in_time
returns-clause-in_time c k below =
    let entries = c.args.entries.now in
    let x = c.args.arrival.0 in
    let point = IsPartitionPoint-from_clause (λ (e : Entry). nat_le x e.by.0) _ _ c.partition_point.ensures.partitioned
    (parted entries x c.requires) (λ a r q k. search rules) in
    leb-true x (entry_at entries k).by.0 (point.0 k _ (omega arith) below)

pub returns-clause-late : goal.returns-clause-late
returns-clause-late c k from within =
    let entries = c.args.entries.now in
    let x = c.args.arrival.0 in
    let point = IsPartitionPoint-from_clause (λ (e : Entry). nat_le x e.by.0) _ _ c.partition_point.ensures.partitioned
    (parted entries x c.requires) (λ a r q k. search rules) in
    leb-false x (entry_at entries k).by.0 (point.1 k _ from within)
