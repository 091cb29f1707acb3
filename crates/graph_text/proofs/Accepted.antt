-- The texts that are read are those of the graphs that fit.
use Rattle.graph_text.proofs.Common.{◌≡◌, ℕ, ◌≤◌, List, [], ◌∷◌, Option, Some, None, Ok, arith, sym, subst, ◌∙◌, ap, refl, ◌==◌, eqb-true, eq-eqb, ne_eqb, false≢true, All-nil, last_printable}
use Rattle.graph_text.proofs.Common.{table_of, require-ok, Leg, Query, NetworkModel, NameLists, IsValid, PlaceTable, PlanGraph, IsFit, Head, Version, start_in, place_tables_from, no_tables}
use Rattle.graph_text.proofs.Common.{started_in, graph_after_first, head_in, graph_of_records, graph_of, IsReadAs, version_in, AreGraphRows, IsTextOf, IsHeadOf, field, and_then-value, if-value}
use Rattle.graph_text.proofs.{Common.else-value, Rows.{start_reported, start_read, head_reported, head_read}, Tables.{all_reported, all_read}}
use Rattle.clock_text.proofs.Range.{moment_range}
use Rattle.graph_text.specs.declared.reader.TextFault.TheVariants as fault

module _ (n : NetworkModel) (names : NameLists) (version : Version) (q : Query) where
  graph_reported : (rs : List (List (List ℕ))) (graph : PlanGraph) → graph_after_first n names version q.source.0 q.target.0 q.start.0 rs ≡ Ok graph
      → AreGraphRows n names version q.source.0 graph.start graph.tables rs × IsFit n q graph
  graph_reported [] graph is = grind (arith, if-value, eqb-true, All-nil)
  graph_reported (r ∷ rs) graph is =
      let away = else-value (q.source.0 == q.target.0) (started_in n names version q.source.0 q.start.0 r rs) (fault.Row 2) graph is in
      let leg = and_then-value (start_in n names version 2 q.source.0 q.start.0 r) _ graph away.1 in
      let tables = and_then-value (place_tables_from n names version rs 3 no_tables) _ graph leg.2 in
      let begins = start_reported n names version 2 r q.source.0 q.start.0 leg.0 leg.1 in
      let all = all_reported n names version rs 3 tables.0 tables.1 in
      let same : record { start = Some leg.0; tables = tables.0 } ≡ graph = (cc) in
      subst (λ (g : PlanGraph). AreGraphRows n names version q.source.0 g.start g.tables (r ∷ rs) × IsFit n q g) same (
        (begins.0, all.0),
        record {
          starts = record { differ = λ here. false≢true (sym away.0 ∙ eq-eqb _ _ here); is_leg = begins.1; leaves = begins.2; in_time = begins.3 };
          tables = all.1;
          rising = all.2;
        },
      )

  graph_read : IsValid n → (start : Option Leg) (tables : List PlaceTable) (rs : List (List (List ℕ))) → AreGraphRows n names version q.source.0 start tables rs
      → IsFit n q (record { start = start; tables = tables }) → graph_after_first n names version q.source.0 q.target.0 q.start.0 rs ≡ Ok (record { start = start; tables = tables })
  graph_read valid None tables [] rows fit = rw (eq-eqb q.source.0 q.target.0 fit.starts.0, fit.starts.1) refl
  graph_read valid None tables (r ∷ rs) rows fit = absurd (cc)
  graph_read valid (Some leg) tables [] rows fit = absurd rows
  graph_read valid (Some leg) tables (r ∷ rs) rows fit =
      let first = start_read n names version 2 r valid q.source.0 q.start.0 leg rows.0 fit.starts.is_leg fit.starts.leaves fit.starts.in_time in
      rw (ne_eqb q.source.0 q.target.0 fit.starts.differ, first, all_read n names version valid rs 3 tables rows.1 fit.tables fit.rising) refl

module _ (n : NetworkModel) (names : NameLists) (source target start : ℕ) (text : List ℕ) where
  parts_reported : (version : Version) (r : List (List ℕ)) (rs : List (List (List ℕ))) (head : Head) (graph : PlanGraph) → table_of text ≡ r ∷ rs → version_in r ≡ Some version
      → head_in names version source target start r ≡ Ok head → graph_after_first n names version source target start rs ≡ Ok graph
      → IsTextOf n names head graph text × IsHeadOf source target start head
  parts_reported version r rs head graph table number is_head is_graph =
      let (row, asked) = head_reported names version r number source target start head is_head in
      let reported = graph_reported n names version head.query rs graph (rw (asked.source, asked.target, asked.start) is_graph) in (
        record {
          version = version;
          first = r;
          others = rs;
          table = table;
          head_row = row;
          are_rows = reported.0;
          fit = reported.1;
          in_time = let le = asked.in_time in omega (arith, le, asked.start);
          bounds = asked.bounds;
        },
        asked,
      )

  records_reported : (rows : List (List (List ℕ))) (head : Head) (graph : PlanGraph) → table_of text ≡ rows → graph_of_records n names source target start rows ≡ Ok (head, graph)
      → IsTextOf n names head graph text × IsHeadOf source target start head
  records_reported [] head graph table is = absurd (cc)
  records_reported (r ∷ rs) head graph table is =
      let (version, number, more) = require-ok (version_in r) _ _ (head, graph) is in
      let (own, is_head, rest) = and_then-value (head_in names version source target start r) _ (head, graph) more in
      let (g, is_graph, whole) = and_then-value (graph_after_first n names version source target start rs) _ (head, graph) rest in
      let same : (own, g) ≡ (head, graph) = (cc) in
      subst (λ (p : Head × PlanGraph). IsTextOf n names p.0 p.1 text × IsHeadOf source target start p.0) {x = (own, g)} {y = (head, graph)} same
      (parts_reported version r rs own g table number is_head is_graph)

  pub text_reported : (head : Head) (graph : PlanGraph) → graph_of text n names source target start ≡ Ok (head, graph) → IsTextOf n names head graph text × IsHeadOf source target start head
  text_reported head graph is = records_reported (table_of text) head graph refl is

  -- the deadline of a graph that is read has a text
  pub graph_deadline : (head : Head) (graph : PlanGraph) → graph_of text n names source target start ≡ Ok (head, graph) → head.query.deadline.0 ≤ last_printable
  graph_deadline head graph is = let reported = (text_reported head graph is).0 in moment_range (field reported.first 5) head.query.deadline.0 reported.head_row.deadline

pub text_read : (n : NetworkModel) (names : NameLists) → IsValid n → (head : Head) (graph : PlanGraph) (text : List ℕ) → IsTextOf n names head graph text → IsReadAs n names head graph text
text_read n names valid head graph text reported =
    ap (graph_of_records n names head.query.source.0 head.query.target.0 head.query.start.0) reported.table
    ∙ (rw (
      reported.head_row.number,
      head_read names reported.version reported.first reported.head_row.number head reported.head_row reported.in_time reported.bounds,
      graph_read n names reported.version head.query valid graph.start graph.tables reported.others reported.are_rows reported.fit,
    ) refl)
