-- The links of a network, and its names with them.
use Rattle.connections.proofs.Common.{◌≡◌, ◌≤◌, [], DelayLists, connections_below, most_connections, length, ap, sym, subst, ◌∙◌, arith, slice_index_or, list_below, length-list_below}
use Rattle.connections.proofs.Common.{AreLinksInto, place_seconds, links_of, ℕ, ◌<◌, List, get_or, get-list_below, Connection, Way, NameLists, NamesFit, connection, no_connection, NetworkModel}
use Rattle.connections.proofs.{Common.{ChangeParts, LinksComeFrom}, ConnectionLemmas.few_runs, CountLemmas.connections_counted, RunLemmas.runs_are}
use Rattle.std.proofs.Math.Logic.{∥∥₁_map}
use Rattle.connections.proofs.cuts.network_of.Goals as goal

-- the links of changes, one list for each of this many places, are links of a network with this many
pub links_fit : (places : ℕ) (c : ChangeParts) → ((to : ℕ) → AreLinksInto 4294967296 to (links_of c to)) → LinksComeFrom places c → (links : List (List Way))
    → links ≡ list_below (links_of c) places → (r : ℕ) → r < places → AreLinksInto places r (slice_index_or links r [])
links_fit places c are from links e r inside =
    let here : slice_index_or links r [] ≡ links_of c r = ap (λ ls. slice_index_or ls r []) e ∙ get-list_below (links_of c) places r [] inside in
    let a = are r in
    subst (AreLinksInto places r) (sym here) (record { rising = a.rising; inside = from r; others = a.others; takes = a.takes })

-- names fit by the connections and the places alone
pub names_fit : (names : NameLists) (n m : NetworkModel) → n.connections ≡ m.connections → n.change ≡ m.change → NamesFit names n → NamesFit names m
unfolding connection
names_fit names n m e h a =
    let run : (i : ℕ) → (get_or n.connections i no_connection).run.0 ≡ (get_or m.connections i no_connection).run.0 = λ i. ap (λ (cs : List Connection). (get_or cs i no_connection).run.0) e in
    record {
      places = a.places ∙ ap length h;
      below = λ i l. omega (arith, run i, a.below i (omega (arith, ap length e, l)));
      each = λ r l. ∥∥₁_map (a.each r l) (λ x. (x.0, omega (arith, ap length e, x.1), sym (run x.0) ∙ x.2));
      place_names = a.place_names;
      run_names = a.run_names;
    }

pub invariant_of-runs : goal.invariant_of-runs
invariant_of-runs c =
    let trips = c.args.counted.now.trips.now in let f = trips.feed.now in
    let list = c.as_slice-list.result.now in
    let same = c.as_slice-list.ensures.value ∙ c.in_ok-found.ensures in
    let are = runs_are f trips.days.now.services trips.window trips.repeating trips.bounds list same in
    let few : (delays : DelayLists) → length (connections_below f delays trips.window list (length list)) ≤ most_connections
    = λ delays. omega (arith, connections_counted f trips.days.now.services delays trips.window list same, c.args.counted.now.exact, c.args.counted.now.few) in
    record { apart = are.0; some = are.1; few = few_runs f c.args.delays.now trips.window list are.1 (few c.args.delays.now); few_connections = few }

pub with_links-requires : goal.with_links-requires
with_links-requires c =
    let trips = c.args.counted.now.trips.now in
    let n = length trips.feed.now.stop_ids in
    let places : length c.in_ok-network.network.change ≡ n = ap length c.in_ok-network.ensures.change ∙ length-list_below (place_seconds trips.changes.now) n in
    let links : c.in_ok-links.links ≡ list_below (links_of trips.changes.now) n = c.in_ok-links.ensures ∙ ap (list_below (links_of trips.changes.now)) trips.stops_counted in
    record {
      many = ap length links ∙ length-list_below (links_of trips.changes.now) n ∙ sym places;
      each = λ r inside. subst (λ n. AreLinksInto n r (slice_index_or c.in_ok-links.links r [])) (sym places)
          (links_fit n trips.changes.now trips.linked c.requires c.in_ok-links.links links r (omega (arith, inside, places)));
    }

pub returns-clause-count : goal.returns-clause-count
returns-clause-count c = grind (arith, connections_counted)

pub returns-clause-fit : goal.returns-clause-fit
returns-clause-fit c = grind (arith, names_fit)
