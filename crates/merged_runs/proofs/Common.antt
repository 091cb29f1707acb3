-- The names that most proofs of this crate cite, passed on from one place. Declares nothing.
pub use Rattle.std.proofs.Common.{All, AllPairs, Bool, Contains, IsPermutation, List, [], add-one, ap, arith, cond, drop, eqb-true, false, filter, get_or, get_or-set_other, get_or-set_same, inl, inr}
pub use Rattle.std.proofs.Common.{le-ltb, length, length-set, lt-ltb, ltb, ltb-false, ltb-true, max, refl, set, subst, suc, sym, take, take_all, true, zero, ℕ, ⊎_elim, ◌%◌, ◌*◌, ◌++◌, ◌+◌, ◌-◌, ◌/◌}
pub use Rattle.std.proofs.{Common.{◌<◌, ◌∙◌, ◌∷◌, ◌≡◌, ◌≤◌, ◌⊎◌}, lemmas.Bool.{cases_Bool, cases_eq, cases_lt, cond-false, cond-true, cond_both, eqb-false, false_from_ne_true, Decides.nat_tests}}
pub use Rattle.std.proofs.lemmas.{Grind.common_steps, List.{get_or_past, get_or_read, length_push, Elements.{All-cons, All-head, All-tail, All-weaker, filter_agree, filter_passes}}}
pub use Rattle.plan_model.proofs.{Lists.{AllPairs-first, AllPairs-tail}, ScanOrders.{get_ids, has_each_id, length_ids}}
pub use Rattle.plan_model.specs.{Bounds.most_connections, Network.{IsValid, connection, count, dep_of, run_of, NetworkModel}, Order.{IsEarlier, IsPrefixUpTo, IsScanOrder, ids_below}}
pub use Rattle.plan_model.specs.declared.model.{Connection.Connection, ConnectionId.ConnectionId}
pub use Rattle.merged_runs.specs.Merged.{AreStarts, AreStretches, DepartsInOrder, IsMerge, IsOver, IsParted, IsStart, IsTournament, IsWinner, above, in_order, key_between, rank, with_connection}
unfoldable pub use Rattle.merged_runs.specs.Merged.{key_of, rest_of}
