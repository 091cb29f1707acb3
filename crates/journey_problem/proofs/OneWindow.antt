-- The window of a feed has one network and one list of names.
use Rattle.journey_problem.proofs.Common.{◌≡◌, ℕ, ◌+◌, ◌<◌, ◌++◌, ◌∷◌, [], sym, ap, ◌∙◌, subst, arith, List, length, ℤ, slice_index_or, ext_get_or, fun_ext, PlaceId, NameLists, NetworkModel}
use Rattle.journey_problem.proofs.Common.{same_parts, ChangeParts, place_seconds, links_of, DelayLists, FeedParts, ServiceParts, runs, IsNetworkFrom, connection_count, entry_count}
use Rattle.plan_model.specs.declared.model.Way.{Way}
use Rattle.csv_rows.specs.Lists.{list_below}
use Rattle.clock_text.proofs.OneDate.{one_date}
use Rattle.connections.specs.{Window.window_of, TripRuns.{day_runs, runs_below, window_runs, run_at}, Counts.{day_sum, days_sum, window_sum}, FeedNetworks.{start_text, IsRunName, AreRunNames}}
use Rattle.connections.specs.FeedNetworks.{connections_below}

-- they run on the same days
abbrev pub SameDays : ServiceParts → ServiceParts → Type 0
SameDays s t = (service : List ℕ) (day : ℤ) → runs s service day ≡ runs t service day

-- the runs depend on the services by their days alone
pub same_runs : (f : FeedParts) (s t : ServiceParts) (w : _) → SameDays s t → window_runs f s w ≡ window_runs f t w
unfolding runs_below day_runs
same_runs f s t w e = grind (arith, ℤ, fun_ext)

-- a run has one name
one_name : (f : FeedParts) (run : _) (a b : List ℕ) → IsRunName f run a → IsRunName f run b → a ≡ b
one_name f run a b h k =
    let date : h.date ≡ k.date = one_date h.date k.date run.origin.day.number h.reads k.reads in
    h.text ∙ ap (λ (d : List ℕ). (d ++ start_text run.repeat) ++ 58 ∷ slice_index_or f.trip_ids run.trip []) date ∙ sym k.text

one_names : (f : FeedParts) (rs : _) (n : ℕ) (a b : List (List ℕ)) → AreRunNames f rs n a → AreRunNames f rs n b → a ≡ b
one_names f rs n a b h k = ext_get_or [] a b (h.size ∙ sym k.size) (λ r l.
    let inside : r < n = omega (arith, l, h.size) in one_name f (run_at rs r) _ _ (h.each r inside) (k.each r inside))

-- what the connections add up to depends on the services by their days alone
same_sum : (each : PlaceId → ℕ) (f : FeedParts) (s t : ServiceParts) (w : _) → SameDays s t → window_sum each f s w ≡ window_sum each f t w
unfolding days_sum day_sum
same_sum each f s t w e = grind (arith, ℤ, fun_ext)

pub same_count : (f : FeedParts) (s t : ServiceParts) (start horizon : ℕ) → SameDays s t → connection_count f s start horizon ≡ connection_count f t start horizon
same_count f s t start horizon e = same_sum (λ place. 1) f s t (window_of start horizon) e

pub same_entries : (f : FeedParts) (s t : ServiceParts) (c d : ChangeParts) (start horizon : ℕ) → SameDays s t → ((place : ℕ) → links_of c place ≡ links_of d place)
    → entry_count f s c start horizon ≡ entry_count f t d start horizon
same_entries f s t c d start horizon e links =
    let w = window_of start horizon in
    same_sum (λ place. length (links_of c place.0) + 1) f s t w e
    ∙ ap (λ (each : PlaceId → ℕ). window_sum each f t w) (fun_ext (λ place. ap (λ (ls : List Way). length ls + 1) (links place.0)))

module _ (f : FeedParts) (s t : ServiceParts) (c d : ChangeParts) (lists : DelayLists) (start horizon : ℕ) (days : SameDays s t)
    (changes : (place : ℕ) → place_seconds c place ≡ place_seconds d place) (links : (place : ℕ) → links_of c place ≡ links_of d place) where
  pub one_window : (n m : NetworkModel) (names more : NameLists) → IsNetworkFrom f s c lists start horizon n names → IsNetworkFrom f t d lists start horizon m more → (n ≡ m) × (names ≡ more)
  one_window n m names more a b =
      let w = window_of start horizon in
      let rs : window_runs f s w ≡ window_runs f t w = same_runs f s t w days in
      let connections : n.connections ≡ m.connections = a.connections ∙ ap (λ (x : _). connections_below f lists w x (length x)) rs ∙ sym b.connections in
      let change : n.change ≡ m.change = a.change_of_places ∙ ap (λ (g : ℕ → ℕ). list_below g (length f.stop_ids)) (fun_ext changes) ∙ sym b.change_of_places in
      let linked : n.links ≡ m.links = a.links_of_places ∙ ap (λ (g : ℕ → List Way). list_below g (length f.stop_ids)) (fun_ext links) ∙ sym b.links_of_places in
      let named : names.runs ≡ more.runs = one_names f (window_runs f s w) (length (window_runs f s w)) names.runs more.runs a.runs
      (subst (λ (x : _). AreRunNames f x (length x) more.runs) (sym rs) b.runs) in (
        same_parts n m connections change (a.classes_of_delays ∙ sym b.classes_of_delays) linked,
        λ i. record { places = (a.places ∙ sym b.places) i; runs = named i },
      )
