-- The boards of all places, and what is known while a certificate is written.
use Rattle.lower_proof.proofs.Common.{◌≡◌, ◌≢◌, ℕ, ◌+◌, ◌<◌, ◌≤◌, List, length, set, Option, Some, [], arith, inl, inr, sym, ◌∙◌, ap, subst, ◌∷◌, ◌++◌, None, IsTrue, Bool, cond, refl}
use Rattle.lower_proof.proofs.Common.{get_or-set_other, length-set, cases_lt, Query, NetworkModel, count, dep_of, IsValid, connection, arr_of, run_of, IsBoardable, Entry, Departure, bound_of}
use Rattle.lower_proof.proofs.Common.{IsLeastOf, Offers, IsLeastAt, IsTight, ShownBoard, entry_at, AreEntries, FrontValue, ValueInTime, least_of, NoneAfter, AreDepartingBy, AreLate, IsBoard}
use Rattle.lower_proof.proofs.{Common.{board_at, IsBoardOf, AreBoards, AllLate, boards_later, ConnectionId, exit_of, IsBestExit, Known, known_left_out}, Minima.get_or-set, Entries.no_board}
use Rattle.lower_proof.proofs.{Leasts.least_same, Exits.{Agree, Rides, IsScanned, scanned_first, scanned_is_next, scanned_next, best_ride, none_rides, rides_agree, scanned_agrees}}
use Rattle.lower_proof.proofs.Departing.{Late, all_taken}

-- the least value in time is the least value after the arrival
pub board_least : (n : NetworkModel) (last : ℕ) (q : Query) (values : List (Option ℕ)) (p x : ℕ) (entries : List Entry) → NoneAfter n values last → AreEntries n last p (count n) entries
    → p ≢ q.target.0 → (least : Option ℕ) → IsLeastOf (ValueInTime values entries x) least → IsLeastAt n q values p x least
board_least n last q values p x entries none_after are away least is = record {
  at_target = λ there. absurd (away there);
  elsewhere = λ e. least_same (ValueInTime values entries x) (λ v. (c : ℕ) × Offers n values (IsBoardable n p x) c v)
      (λ v t. let entry = are.each t.0 t.1 in ((entry_at entries t.0).id.0, record { there = entry.there; board = entry.board; boards = entry.early x t.2; value = t.3 }))
      least
      (λ v o.
      let (k, within, is_c) = are.all o.0 x o.1.there (soon o.0 v o.1.there o.1.value) o.1.board o.1.boards in
      let boards = subst (λ c. IsBoardable n p x c) (sym is_c) o.1.boards in
      (k, within, (are.each k within).late x boards, ap (bound_of values) is_c ∙ o.1.value))
      is;
}
  where
    soon : (c v : ℕ) → c < count n → bound_of values c ≡ Some v → dep_of n c ≤ last
    soon c v there value = elim (cases_lt last (dep_of n c)) [
      | inl late ↦ let both = sym (none_after c there late) ∙ value in absurd (cc)
      | inr by ↦ by
    ]

-- a board that was looked at
pub boards_looked : (n : NetworkModel) (last : ℕ) (values : List (Option ℕ)) (boards : List ShownBoard) (p : ℕ) (board : ShownBoard) → p < length boards
    → AreBoards n last values boards → board.entries ≡ (board_at boards p).entries → IsBoard values board → AreBoards n last values (set boards p board)
boards_looked n last values boards p board within are same right = record {
  none_after = are.none_after;
  as_many = length-set boards p board ∙ are.as_many;
  each = λ r inside. get_or-set (λ i b. IsBoardOf n last i values b) boards p r board no_board within
      (record { entries = subst (AreEntries n last p (count n)) (sym same) (are.each p within).entries; right = right })
      (λ differ. are.each r (omega (arith, length-set boards p board)));
}

module _ (n : NetworkModel) (valid : IsValid n) (last moment : ℕ) (values others : List (Option ℕ)) (agree : Agree n moment values others) where
  -- what is known stays right where only values of earlier departures change
  board_agrees : (p : ℕ) (board : ShownBoard) → AreLate moment board.entries (length board.least) → IsBoardOf n last p values board → IsBoardOf n last p others board
  board_agrees p board late of = record {
    entries = of.entries;
    right = record {
      falls = of.right.falls;
      sizes = of.right.sizes;
      minima = λ k below. least_same (FrontValue values board.entries (k + 1)) (FrontValue others board.entries (k + 1))
          (λ v f. (f.0, f.1, sym (same k below f.0 f.1) ∙ f.2)) (least_of board.least k)
          (λ v f. (f.0, f.1, same k below f.0 f.1 ∙ f.2)) (of.right.minima k below);
    };
  }
    where
      same : (k : ℕ) → k < length board.least → (i : ℕ) → i < k + 1 → bound_of values (entry_at board.entries i).id.0 ≡ bound_of others (entry_at board.entries i).id.0
      same k below i front =
          let sizes = of.right.sizes in
          let entry = of.entries.each i (omega arith) in
          let by_i = late i (omega arith) in
          let departs = boards_later n valid p (entry_at board.entries i).by.0 (entry_at board.entries i).id.0 entry.there (entry.early (entry_at board.entries i).by.0 (omega arith)) in
          agree (entry_at board.entries i).id.0 entry.there (omega arith)

  pub boards_agree : (boards : List ShownBoard) → NoneAfter n others last → AllLate moment boards → AreBoards n last values boards → AreBoards n last others boards
  boards_agree boards none_after late are = record { none_after = none_after; as_many = are.as_many; each = λ p within. board_agrees p (board_at boards p) (late p within) (are.each p within) }

-- ---- what is known while a certificate is written, with the boards

-- the value that a connection is given: none where it cannot be boarded
abbrev pub given : Bool → Option ℕ → Option ℕ
given board best = cond board best None

none_given : (b : Bool) (best : Option ℕ) → (IsTrue b → ⊥) → given b best ≡ None
none_given b best never = grind arith

-- the least value of its rides, where it can be boarded
abbrev HasOwn : NetworkModel → Query → List (Option ℕ) → ℕ → Option ℕ → Type 0
HasOwn n q values c own = (IsTrue (connection n c).can_board → IsLeastOf (Rides n q values c) own) × ((IsTrue (connection n c).can_board → ⊥) → own ≡ None)

pub record Written (n : NetworkModel) (q : Query) (last : ℕ) (remaining : List Departure) (exits values : List (Option ℕ)) (boards : List ShownBoard) : Type 0 where
  pub taken : List ConnectionId
  pub scanned : IsScanned n q values last taken remaining exits
  pub as_many : length values ≡ count n
  pub own : (c : ℕ) → c < count n → Known (Late n last) taken c → HasOwn n q values c (bound_of values c)
  pub right : AreBoards n last values boards
  -- what is known is not before the departure of each connection that was scanned
  pub late : (m : ℕ) → ((c : ℕ) → c < count n → Known (Late n last) taken c → m ≤ dep_of n c) → AllLate m boards

module _ {n : NetworkModel} (good : IsValid n) {q : Query} {last : ℕ} where
  pub written_first : {entries : List Departure} {exits values : List (Option ℕ)} {boards : List ShownBoard} → q.deadline.0 ≤ last → length values ≡ count n → AreDepartingBy n last entries
      → ((c : ℕ) → c < count n → run_of n c < length exits) → ((run : ℕ) → exit_of exits run ≡ None) → AreBoards n last values boards → ((m : ℕ) → AllLate m boards)
      → Written n q last entries exits values boards
  written_first {entries} {exits} {values} deadline as_many are runs empty right late = record {
    taken = [];
    scanned = scanned_first n good q values last deadline right.none_after entries exits are runs empty;
    as_many = as_many;
    own = λ c there after. (
      λ board. rw (right.none_after c there after) (λ v ride. none_rides n good q values last deadline right.none_after c v after
          ride),
      λ never. right.none_after c there after,
    );
    right = right;
    late = λ m all. late m;
  }

  module _ {before : List Departure} {exits values : List (Option ℕ)} {boards : List ShownBoard} (written : Written n q last before exits values boards) (rest : List Departure) (e : Departure)
      (popped : before ≡ rest ++ e ∷ []) where
    pub written_there : e.id.0 < count n
    written_there = (scanned_is_next good written.scanned rest e popped).there

    pub written_next : {looked : List ShownBoard} {best : Option ℕ} → IsBestExit n q values exits e.id.0 best → AreBoards n last values looked
        → ((m : ℕ) → m ≤ arr_of n e.id.0 → AllLate m boards → AllLate m looked)
        → Written n q last rest (set exits (run_of n e.id.0) best) (set values e.id.0 (given (connection n e.id.0).can_board best)) looked
    written_next {looked} {best} exit right late =
        let next = scanned_is_next good written.scanned rest e popped in
        let forward = (good.connections e.id.0 next.there).forward in
        let value = given (connection n e.id.0).can_board best in
        let now = set values e.id.0 value in
        let other : (c : ℕ) → (c ≡ e.id.0 → ⊥) → bound_of now c ≡ bound_of values c = λ c differ. get_or-set_other values e.id.0 c value None differ in
        let agree : Agree n (dep_of n e.id.0) values now = λ c there later. sym (other c (λ is. let same = ap (dep_of n) is in omega arith)) in
        let own : HasOwn n q values e.id.0 value = (
          λ board. rw board (best_ride good written.scanned rest e popped exit board),
          none_given
              (connection n e.id.0).can_board best,
        ) in
        record {
          taken = e.id ∷ written.taken;
          scanned = scanned_agrees n good q last written.taken e.id next values now agree (scanned_next good written.scanned rest e popped exit);
          as_many = length-set values e.id.0 value ∙ written.as_many;
          own = λ c there known.
              let has = get_or-set (λ i x. i < count n → Known (Late n last) (e.id ∷ written.taken) i → HasOwn n q values i x) values e.id.0 c value None
              (omega (arith, next.there, written.as_many)) (λ inside at. own) (λ differ inside at. elim at [
                | inl is ↦ absurd (differ is)
                | inr earlier ↦ written.own c inside earlier
              ]) there known in
              (λ board. rides_agree n good q last written.taken e.id next values now agree c there known (bound_of now c) (has.0 board), has.1);
          right = boards_agree n good last (dep_of n e.id.0) values now agree looked
              (λ c there after. other c (λ is. next.new (known_left_out (Late n last) written.taken e.id.0 (subst (λ i. last < dep_of n i) is after)))
              ∙ right.none_after c there after)
              (late (dep_of n e.id.0) forward (written.late (dep_of n e.id.0) (λ c there known. next.later c there known))) right;
          late = λ m all.
              let at_id = all e.id.0 next.there (inl refl) in
              late m (omega arith) (written.late m (λ c there known. all c there (inr known)));
        }

  pub written_last : {remaining : List Departure} {exits values : List (Option ℕ)} {boards : List ShownBoard} → Written n q last remaining exits values boards → length remaining ≡ 0 → IsTight n q values
  written_last {remaining} written none = grind (arith, all_taken)
