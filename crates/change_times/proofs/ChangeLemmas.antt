-- What rows say, one more at a time.
use Rattle.change_times.proofs.Common.{◌≡◌, ℕ, ◌+◌, ◌≤◌, Bool, [], length, count_by, Option, Some, None, IfSome, if◌then◌else◌, sym, ap, arith, nat_tests, Records, FeedParts, Transfer}
use Rattle.change_times.proofs.Common.{transfer_columns, transfer_in, transfer_at, TransfersSoFar, seconds_between, link_between, walks_of, AreCollected, ChangeParts, AreCollectedChanges}
use Rattle.change_times.proofs.{GreatestLemmas.{IsShort, greatest-zero}, LinkLemmas.ways-none}
use Rattle.change_times.specs.declared.transfers.TransferColumns.{TransferColumns}
use Rattle.std.specs.Map.{lookup}
use Rattle.std.proofs.lemmas.List.Sums.{sum_by-append}
use Rattle.csv_rows.specs.Lists.{list_below}
use Rattle.csv_rows.proofs.ListLemmas.{list_below-zero, list_below-next}

-- the row by the indexes of the columns
pub transfer_is : (feed : FeedParts) (t : Records) (c : TransferColumns) (i : ℕ) → c ≡ transfer_columns t → transfer_at feed t i ≡ transfer_in feed t c i
unfolding transfer_at
transfer_is feed t c i e = ap (λ k. transfer_in feed t k i) (sym e)

-- the count of those that pass a test, with one more
pub count-next : {A : Type 0} (p : A → Bool) (f : ℕ → A) (n old new : ℕ) (a : A) → old ≡ count_by p (list_below f n)
    → new ≡ old + (if p a then 1 else 0) → f n ≡ a
    → new ≡ count_by p (list_below f (n + 1))
count-next p f n old new a e h here = grind (arith, sum_by-append, list_below-next)

pub one_at_most : (b : Bool) → (if b then 1 else 0) ≤ 1
one_at_most b = grind arith

short_if : (b : Bool) (seconds : ℕ) → seconds ≤ 86400 → IsShort (if b then Some seconds else None)
short_if b seconds h = grind arith

-- the seconds of a short transfer are short
pub short_between : (from to : ℕ) (o : Option Transfer) → IfSome o (λ transfer. transfer.seconds ≤ 86400) → IsShort (seconds_between from to o)
short_between from to o h = grind (arith, short_if)

pub short_link : (from to : ℕ) (o : Option Transfer) → IfSome o (λ transfer. transfer.seconds ≤ 86400) → IsShort (link_between from to o)
short_link from to o h = grind (arith, short_between)

-- no transfer leads from a place to itself as a link
pub no_own_link : (place : ℕ) (o : Option Transfer) → link_between place place o ≡ None
no_own_link place o = grind (arith, nat_tests)

-- no rows say nothing
pub no_rows : (feed : FeedParts) (c : ChangeParts) → c.reported ≡ [] → c.links ≡ [] → c.passed ≡ 0 → AreCollectedChanges feed c []
no_rows feed c reported links passed = grind (arith, ways-none, greatest-zero, lookup, list_below-zero)

-- what no rows give
pub reported_none : (feed : FeedParts) (t : Records) (reported : TransfersSoFar) → length reported.walks.items ≡ length feed.stop_ids
    → ((from : ℕ) → walks_of reported.walks.items from ≡ [])
    → reported.seconds.entries ≡ [] → reported.passed ≡ 0 → AreCollected feed t 0 reported
reported_none feed t reported size walks seconds passed = grind (arith, greatest-zero, lookup, list_below-zero)
