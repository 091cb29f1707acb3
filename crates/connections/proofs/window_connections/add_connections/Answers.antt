-- What is made of the steps of a run in a window, one more at a time.
use Rattle.connections.proofs.Common.{Option, IfSome, sym, ap, ◌∙◌, subst, class_of_trip, connection_from, IsClassOfHour, arith, ◌≡◌, ℕ, ◌+◌, true, false, List, [], ◌∷◌, ◌++◌, map, append_assoc}
use Rattle.connections.proofs.{Common.{append-nil, map-append, StopRow, Origin, Window, holds, steps_below, departs}, window_connections.add_connections.Goals.then-leaves+in_ok-push}
use Rattle.connections.proofs.{window_connections.add_connections.Goals.else-leaves, StepLemmas.steps-next}
use Rattle.connections.specs.declared.window_connections.HourClass.{HourClass}
use Rattle.connections.proofs.window_connections.add_connections.Goals as goal

module _ {A : Type 0} (f : ℕ → A) (w : Window) (rows : List StopRow) (o : Origin) (k : ℕ) (first old new : List A) (e : old ≡ first ++ map f (steps_below w rows o k)) where
  -- a row that is left in the window
  pub map-kept : (x : A) → holds w (departs rows o k) ≡ true → x ≡ f k → new ≡ old ++ x ∷ [] → new ≡ first ++ map f (steps_below w rows o (k + 1))
  map-kept x h same last = grind (arith, steps-next, map-append, append_assoc)

  -- and one that is not
  pub map-dropped : holds w (departs rows o k) ≡ false → new ≡ old → new ≡ first ++ map f (steps_below w rows o (k + 1))
  map-dropped h same = grind (arith, steps-next, append-nil)

pub loop-row-preserved : goal.loop-row-preserved
loop-row-preserved c =
    let run = c.args.run.now in let rows = run.rows.now in let delays = run.delays.now in
    let class = class_of_trip run.feed.now delays run.trip in
    let made = connection_from rows run.origin run.number class in
    let P : Option HourClass → Type 0 = λ o. IfSome o (IsClassOfHour run.feed.now delays run.trip) in
    elim c.if-leaves.branch [
      | then-leaves+in_ok-push w ↦
          record {
            connections = map-kept made c.args.window rows run.origin c.loop-row.row c.args.connections.now.items c.loop-row.connections.items c.if-leaves.connections.items
                c.loop-row.invariant.connections w.connection.result (sym c.leaves.ensures ∙ w.if-leaves.true)
                (w.connection.ensures class (w.class_in_hour-class.ensures.class ∙ ap class w.arrival.ensures))
                (ap (λ v. v.items) w.connections-is ∙ w.in_ok-push.ensures.items);
            known = subst P (sym w.known-is) w.class_in_hour-class.ensures.hour;
          }
      | else-leaves w ↦ grind (arith, map-dropped)
    ]
