-- The network of a cut file by the rows of its table.
use Rattle.cut_file.proofs.Common.{sym, subst, rules, NetworkModel, plain_network, DelayLists, Cut, IsCutRead, IsNetwork, NameLists, NamesFit, IsCutNetwork, ◌≡◌, ℕ, zero, suc, ◌<◌, ◌≤◌, max}
use Rattle.cut_file.proofs.Common.{List, slice_get, Some, if◌then◌else◌, bytes_eq, refl, ap, ap₂, ◌∙◌, arith, slice_get_within, count, connection, row_count, row, key_at, cut_row, longest}
use Rattle.cut_file.proofs.Common.{change_seconds_of, IsRide, largest, length, ⊎_elim, All, get_or_from_slice_get, IsTrimmed, Run, From, To, field, index_of, none-each, AreDelays, bad_field}
use Rattle.cut_file.proofs.{Common.{place_names, IsFaultless}, Made.make_network, Valid.{network_valid, none_of, is_at, key_of_run, run_inside}, ChangeFacts.{longest-zero, longest-suc}}
use Rattle.cut_file.proofs.{Repeats.one_place_name, Distinct.same_name, FormFacts.{InForm, row_in_form}, Occurs.{run_occurs, place_occurs}}
use Rattle.plan_model.proofs.SameParts.{same_parts}
use Rattle.csv_rows.proofs.SpaceLemmas.{IsTrimmed-field}
use Rattle.cut_file.proofs.table.CutTable.network.Goals as goal

-- ---- the names of a cut file fit its network

abbrev pub name_lists : Cut → NameLists
name_lists cut = record { places = cut.places; runs = cut.runs }

module _ (cut : Cut) (delays : DelayLists) (n : NetworkModel) (s : IsFaultless cut) (f : AreDelays delays) (net : IsNetwork cut delays n) where
  form : (i : ℕ) → i < row_count s.table → InForm (field s.table Run i) (field s.table From i) (field s.table To i) (row s.table i)
  form i l = row_in_form s.table i (none-each (bad_field s.table) (row_count s.table) (none_of cut delays n s f net).fields i l)

  trimmed_runs : All IsTrimmed cut.runs
  trimmed_runs k d l =
      let t = s.table in
      let w = run_occurs t (row_count t) k (omega (arith, l, ap length s.read.run_names)) in
      let P : List (List ℕ) → Type 0 = λ xs. slice_get xs k ≡ Some (row t w.at).run in
      let name = get_or_from_slice_get cut.runs k (row t w.at).run d (subst P (sym s.read.run_names) w.is) in
      subst IsTrimmed (sym (name ∙ (form w.at w.inside).run_name)) (IsTrimmed-field t (index_of Run t) w.at s.trimmed)

  trimmed_places : All IsTrimmed cut.places
  trimmed_places k d l =
      let t = s.table in
      let w = place_occurs t (row_count t) k (omega (arith, l, ap length s.read.place_names)) in
      let g = form w.at w.inside in
      ⊎_elim (λ (h : slice_get (place_names t (row_count t)) k ≡ Some (row t w.at).from).
      let P : List (List ℕ) → Type 0 = λ xs. slice_get xs k ≡ Some (row t w.at).from in
      let name = get_or_from_slice_get cut.places k (row t w.at).from d (subst P (sym s.read.place_names) h) in
      subst IsTrimmed (sym (name ∙ g.from_name)) (IsTrimmed-field t (index_of From t) w.at s.trimmed))
      (λ (h : slice_get (place_names t (row_count t)) k ≡ Some (row t w.at).to).
      let P : List (List ℕ) → Type 0 = λ xs. slice_get xs k ≡ Some (row t w.at).to in
      let name = get_or_from_slice_get cut.places k (row t w.at).to d (subst P (sym s.read.place_names) h) in
      subst IsTrimmed (sym (name ∙ g.to_name)) (IsTrimmed-field t (index_of To t) w.at s.trimmed))
      w.is

  pub names_fit : NamesFit (name_lists cut) n
  names_fit = record {
    places = sym net.places;
    below = λ i l.
        let a = is_at cut delays n s f net i l in
        omega (arith, a.run, run_inside cut delays n s f net i a.key);
    each = λ r l.
        let w = key_of_run cut delays n s f net r l in
        let l' : w.index < count n = omega (arith, net.connections.size, w.inside) in
        ∣ (w.index, l', (is_at cut delays n s f net w.index l').run ∙ w.run) ∣₁;
    place_names = trimmed_places;
    run_names = trimmed_runs;
  }

module _ (t : List (List (List ℕ))) (cut : Cut) (delays : DelayLists) (n : NetworkModel) (read : IsCutRead t cut.runs cut.places cut.rows cut.keys) (net : IsNetwork cut delays n) where
  ride : (i : ℕ) → i < count n → IsRide (name_lists cut) delays (row t (key_at cut.keys i).row) (connection n i)
  unfolding connection
  ride i l = grind arith

  -- numbers are those of names
  largest_is : (p : ℕ) (place : List ℕ) → slice_get cut.places p ≡ Some place → (m : ℕ) → m ≤ row_count t → longest cut.rows m p ≡ largest t place m
  unfolding largest
  largest_is p place h zero l = longest-zero cut.rows p
  largest_is p place h (suc m) l =
      let a = read.each m (omega arith) in
      let here = same_name cut.places (one_place_name t cut.runs cut.places cut.rows cut.keys read) (cut_row cut.rows m).from p (row t m).from place a.from h in
      longest-suc cut.rows m p
      ∙ ap₂ max (largest_is p place h m (omega arith))
      (ap (λ b. if b then change_seconds_of (cut_row cut.rows m).change else 0) (sym here) ∙ ap (λ x. if bytes_eq (row t m).from place then change_seconds_of x else 0) a.change)

  pub cut_network : IsCutNetwork t delays n (name_lists cut)
  cut_network =
      let size : count n ≡ row_count t = net.connections.size ∙ read.key_count ∙ read.size in
      record {
        runs = read.run_names;
        places = read.place_names;
        size = size;
        rides = λ i l. ((key_at cut.keys i).row, omega (arith, read.sorted.inside i (omega (arith, net.connections.size, l)), read.size), ride i l);
        rows = λ k l.
            let w = read.sorted.all k (omega (arith, read.size, l)) refl in
            let inside : w.0 < count n = omega (arith, net.connections.size, w.1) in
            let P : ℕ → Type 0 = λ j. IsRide (name_lists cut) delays (row t j) (connection n w.0) in
            (w.0, inside, subst P w.2 (ride w.0 inside));
        changes = net.places;
        change = λ p place h. grind (arith, slice_get_within, largest_is);
        classes = net.classes;
        links = net.links;
      }

pub from_parts-requires : goal.from_parts-requires
from_parts-requires c =
    let i = c.self.inside in
    let cut : Cut = record { runs = i.names.runs; places = i.names.places; rows = i.rows.items; keys = i.keys.items } in
    let d : DelayLists = c.args.delays.now in
    let made = make_network cut d c.as_slice-rows.result.now c.as_slice.result.now c.places.result
    c.in_ok-connections.connections c.in_ok-change.change c.in_ok-classes.classes c.as_slice-rows.ensures.value c.as_slice.ensures.value
    c.places.ensures.count c.in_ok-change.ensures.size c.in_ok-change.ensures.each c.in_ok-connections.ensures c.in_ok-classes.ensures.classes in
    network_valid cut d (plain_network c.in_ok-connections.connections c.in_ok-change.change c.in_ok-classes.classes) c.self.invariant c.in_ok-classes.ensures.sound made

pub returns : goal.returns
returns c =
    let i = c.self.inside in
    let cut : Cut = record { runs = i.names.runs; places = i.names.places; rows = i.rows.items; keys = i.keys.items } in
    let d : DelayLists = c.args.delays.now in
    let n = c.from_parts.result in
    let made = make_network cut d c.as_slice-rows.result.now c.as_slice.result.now c.places.result
    c.in_ok-connections.connections c.in_ok-change.change c.in_ok-classes.classes c.as_slice-rows.ensures.value c.as_slice.ensures.value
    c.places.ensures.count c.in_ok-change.ensures.size c.in_ok-change.ensures.each c.in_ok-connections.ensures c.in_ok-classes.ensures.classes in
    let same = same_parts n (plain_network c.in_ok-connections.connections c.in_ok-change.change c.in_ok-classes.classes) c.from_parts.ensures.connections
    c.from_parts.ensures.change c.from_parts.ensures.classes c.from_parts.ensures.links in
    let network = subst (λ (x : NetworkModel). IsNetwork cut d x) (sym same) made in
    record {
      network = subst (λ (x : Cut). IsNetwork x d n) c.self.view_is network;
      runs = search rules;
      places = search rules;
      table = λ t read.
          let P : Cut → Type 0 = λ x. IsCutRead t x.runs x.places x.rows x.keys in
          subst (λ (x : NameLists). IsCutNetwork t d n x) (sym c.in_ok-names.ensures) (cut_network t cut d n (subst P (sym c.self.view_is) read) network);
      fit = subst (λ (x : NameLists). NamesFit x n) (sym c.in_ok-names.ensures) (names_fit cut d n c.self.invariant c.in_ok-classes.ensures.sound network);
    }
