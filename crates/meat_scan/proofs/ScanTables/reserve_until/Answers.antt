use Rattle.meat_scan.proofs.Reserves.{fits_by}
use Rattle.meat_scan.proofs.ScanTables.reserve_until.Goals as goal

pub returns : goal.returns
returns g c =
    let network = c.args.network.now in
    let room = c.in_ok-room.room.items in
    let profiles = c.in_ok-profiles.profiles.items in
    let value = c.deref.ensures.value in
    fits_by network c.in_ok-room.ensures.valid c.args.last.0 c.runs.result c.runs.ensures.below room profiles c.in_ok-exits.exits c.in_ok-room.ensures.len c.in_ok-room.ensures.counts
    (rw value at c.in_ok-profiles.ensures.len) c.in_ok-profiles.ensures.empty (rw value at c.in_ok-profiles.ensures.room)
    c.in_ok-exits.ensures
