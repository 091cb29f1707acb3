-- Ways that rise, come from others and take a second to a day.
use Rattle.change_times.proofs.Common.{◌≡◌, ◌<◌, ℕ, List, length, ap, ◌∙◌, arith, Way, Records, FeedParts, row_count, TransfersSoFar, Walk, ways_at, ways_below, AreCollected, walks_of, most_to}
use Rattle.change_times.proofs.Common.{zero, suc, ◌+◌, ◌≤◌, [], ◌++◌, All, Option, None, sym, subst, length-append, ⊎_elim, cases_lt, append-nil, get_or_append_left, get_or_past, get_or_push}
use Rattle.change_times.proofs.{Common.{All-get_or, All-nil, All-push, link_from, AreLinksInto, transfer_reported_by, link_between}, LinkLemmas.{ways-same, ways-zero, ways-next, ways_before}}
use Rattle.change_times.proofs.{ChangeLemmas.no_own_link, GreatestLemmas.{IsShort, greatest-none}}
use Rattle.change_times.proofs.changes.read_rows.Goals as goal

abbrev Rises : Way → Way → Type 0
Rises a b = a.from.0 < b.from.0

abbrev Takes : Way → Type 0
Takes way = (1 ≤ way.seconds) × (way.seconds ≤ 86400)

pub no_links : (places r : ℕ) (ws : List Way) → ws ≡ [] → AreLinksInto places r ws
no_links places r ws e = grind (arith, All-nil)

add : (places r n : ℕ) (ws : List Way) (o : Option ℕ) → n < places → (n ≡ r → o ≡ None) → IsShort o → All (λ (way : Way). way.from.0 < n) ws
    → AreLinksInto places r ws → AreLinksInto places r (ws ++ link_from n o)
add places r n ws o less own short before are = grind (arith, append-nil, length-append, get_or_append_left, get_or_push, All-get_or, cases_lt, All-push)

pub sound : (places r n : ℕ) (f : ℕ → Option ℕ) → n ≤ places → f r ≡ None → ((i : ℕ) → IsShort (f i)) → AreLinksInto places r (ways_below f n)
sound places r zero f few own short = no_links places r (ways_below f 0) (ways-zero f)
sound places r (suc n) f few own short =
    let e : n + 1 ≡ suc n = omega arith in
    subst (λ k. AreLinksInto places r (ways_below f k)) e
    (subst (AreLinksInto places r) (sym (ways-next f n))
    (add places r n (ways_below f n) (f n) (omega arith) (λ same. ap f same ∙ own) (short n) (ways_before f n) (sound places r n f (omega arith) own short)))

-- the links of rows, by their walks
module _ (feed : FeedParts) (t : Records) (n : ℕ) (reported : TransfersSoFar) (is : AreCollected feed t n reported) (links : List (List Way))
    (size : length links ≡ length feed.stop_ids)
    (ways : (to : ℕ) → to < length feed.stop_ids
    → ways_at links to ≡ ways_below (λ from. most_to to (walks_of reported.walks.items from)) (length feed.stop_ids)) where
  reported_into : (places to : ℕ) → length feed.stop_ids ≤ places → to < length feed.stop_ids → AreLinksInto places to (ways_at links to)
  reported_into places to few inside =
      subst (AreLinksInto places to) (sym (ways to inside))
      (sound places to (length feed.stop_ids) (λ from. most_to to (walks_of reported.walks.items from)) few
      (is.walks to to ∙ greatest-none (λ i. link_between to to (transfer_reported_by feed t i)) n (λ i. no_own_link to (transfer_reported_by feed t i)))
      (λ from. subst IsShort (sym (is.walks from to)) (is.brief from to)))

  pub reported_sound : length feed.stop_ids ≤ 4294967296 → (to : ℕ) → AreLinksInto 4294967296 to (ways_at links to)
  reported_sound few to =
      ⊎_elim (λ (inside : to < length feed.stop_ids). reported_into 4294967296 to few inside)
      (λ (past : length feed.stop_ids ≤ to). no_links 4294967296 to (ways_at links to) (get_or_past links to [] (omega (arith, size))))
      (cases_lt to (length feed.stop_ids))

  pub reported_from : (to : ℕ) → All (λ (way : Way). way.from.0 < length feed.stop_ids) (ways_at links to)
  reported_from to =
      ⊎_elim (λ (inside : to < length feed.stop_ids). (reported_into (length feed.stop_ids) to (omega arith) inside).inside)
      (λ (past : length feed.stop_ids ≤ to).
      subst (All (λ (way : Way). way.from.0 < length feed.stop_ids)) (sym (get_or_past links to [] (omega (arith, size))))
      (All-nil (λ (way : Way). way.from.0 < length feed.stop_ids)))
      (cases_lt to (length feed.stop_ids))

-- the links by the places of the feed
by_feed : (feed : FeedParts) (t : Records) (n : ℕ) (reported : TransfersSoFar) → AreCollected feed t n reported → (walks : List (List Walk))
    → walks ≡ reported.walks.items → (links : List (List Way))
    → ((to : ℕ) → to < length walks → ways_at links to ≡ ways_below (λ from. most_to to (walks_of walks from)) (length walks))
    → (to : ℕ) → to < length feed.stop_ids → ways_at links to ≡ ways_below (λ from. most_to to (walks_of reported.walks.items from)) (length feed.stop_ids)
by_feed feed t n reported is walks same links ways to inside = grind arith

pub invariant_of-result : goal.invariant_of-result
invariant_of-result c =
    let feed = c.args.feed.now in let t = c.args.rows.now in let n = row_count t in let reported = c.in_ok-reported.reported in
    let is = c.in_ok-reported.ensures.reported in let links = c.in_ok-links.links.items in
    let size : length links ≡ length feed.stop_ids = c.in_ok-links.ensures.size ∙ ap length c.as_slice.ensures.value ∙ is.size in
    record {
      short = is.short;
      links = reported_sound feed t n reported is links size
          (by_feed feed t n reported is c.as_slice.result.now c.as_slice.ensures.value links c.in_ok-links.ensures.ways)
          (omega (arith, c.stop_count.ensures.few));
    }

pub returns : goal.returns
returns c = grind (arith, by_feed, ways-same, reported_from)
