-- The groups of lines, as they are numbered.
use Rattle.delay_table.proofs.Common.{◌≡◌, Bor, ℕ, ◌<◌, ◌&&◌, Bool, true, false, not, cond, List, [], ◌∷◌, ◌++◌, length, map, slice_index_or, Option, Some, None, is_some, option_map}
use Rattle.delay_table.proofs.Common.{if◌then◌else◌, refl, sym, ap, ◌∙◌, arith, position, bytes_eq, list_any, position_or_len, get_or-map, length-map, map-append, list_any_at, position-Some}
use Rattle.delay_table.proofs.{Common.{Group, same_if, same_number, same_group, of_class, group_in, group_index, with_group, line_group, same_line, same_text}, GroupFacts.none-index}
use Rattle.delay_table.proofs.{GroupFacts.{index-first, same-equal, same-true}, IndexFacts.any-position}
use Rattle.delay_table.specs.declared.groups.LineGroup.{LineGroup}
use Rattle.indexmap.specs.IndexSet.{insert_key}

abbrev no_line : LineGroup
no_line = record { class = None; route = None; hour = None }

same_route : (a b : Option (Bor (List ℕ))) → same_if same_text a b ≡ same_if bytes_eq (option_map (λ s. s.now) a) (option_map (λ s. s.now) b)
same_route a b = grind arith

-- lines are of one group where the groups are the same
same-shown : (a b : LineGroup) → same_line a b ≡ same_group (line_group a) (line_group b)
unfolding same_group
same-shown a b = ap (λ r. same_if same_number a.class b.class && (r && same_if same_number a.hour b.hour)) (same_route a.route b.route)

turned : (b c : Bool) → not b ≡ c → b ≡ not c
turned b c e = grind (arith, not)

held : (b : Bool) (m n : ℕ) → cond b (Some m) None ≡ Some n → Some m ≡ Some n
held b m n e = grind arith

module _ (key : LineGroup) (keys : List LineGroup) where
  abbrev groups : List Group
  groups = map line_group keys

  abbrev key_at : ℕ → LineGroup
  key_at k = slice_index_or keys k no_line

  at : (k : ℕ) → k < length keys → group_in groups k ≡ line_group (key_at k)
  at k l = get_or-map line_group keys k no_line (of_class None) l

  size : length groups ≡ length keys
  size = length-map keys line_group

  back : (k : ℕ) → k < length keys → group_in groups k ≡ line_group key → same_line key (key_at k) ≡ true
  back k l e = same-shown key (key_at k) ∙ same-true (line_group key) (line_group (key_at k)) (sym e ∙ at k l)

  forth : (k : ℕ) → k < length keys → same_line key (key_at k) ≡ true → group_in groups k ≡ line_group key
  forth k l t = at k l ∙ sym (same-equal (line_group key) (line_group (key_at k)) (sym (same-shown key (key_at k)) ∙ t))

  by-index : (o : Option ℕ) → position (same_line key) keys ≡ o → o ≡ group_index (line_group key) groups
  by-index None e = sym (none-index (line_group key) groups (λ k l g.
      let inside : k < length keys = omega (arith, size) in
      let t = list_any_at (same_line key) keys k no_line inside (back k inside g) in
      let f : false ≡ true = ap is_some (sym e) ∙ any-position (same_line key) keys ∙ t in cc))
  by-index (Some i) e =
      let w = position-Some (same_line key) keys i no_line e in
      sym (index-first (line_group key) groups i (omega (arith, size, w.0)) (forth i w.0 w.1) (λ k less g.
      let t = back k (omega (arith, w.0)) g in
      let f = w.2 k less in cc))

  -- where the group of a line is
  pub line-index : position (same_line key) keys ≡ group_index (line_group key) groups
  line-index = by-index (position (same_line key) keys) refl

  some-index : is_some (group_index (line_group key) groups) ≡ list_any (same_line key) keys
  some-index = ap is_some (sym line-index) ∙ any-position (same_line key) keys

  there-index : (o : Option ℕ) (index : ℕ) → position (same_line key) keys ≡ o → is_some o ≡ true → index ≡ position_or_len (same_line key) keys → Some index ≡ position (same_line key) keys
  there-index o index e h p = grind (arith, held)

  no-index : (o : Option ℕ) → is_some o ≡ false → None ≡ o
  no-index o h = grind arith

  -- the number of a line's group, if it was there
  pub line-new : list_any (same_line key) keys ≡ false → None ≡ group_index (line_group key) groups
  line-new h = no-index (group_index (line_group key) groups) (some-index ∙ h)

  pub line-there : (index : ℕ) → list_any (same_line key) keys ≡ true → index ≡ position_or_len (same_line key) keys → Some index ≡ group_index (line_group key) groups
  line-there index h p = there-index (position (same_line key) keys) index refl (any-position (same_line key) keys ∙ h) p ∙ line-index

  shown-if : (b : Bool) → map line_group (if b then keys else keys ++ key ∷ []) ≡ (if b then groups else groups ++ line_group key ∷ [])
  shown-if b = grind (arith, map-append)

  -- the groups after it
  pub lines_next : (new : List LineGroup) → new ≡ insert_key same_line keys key → map line_group new ≡ with_group groups (line_group key)
  lines_next new e = grind (arith, shown-if, list_any, groups, some-index)

  -- what `insert_full` gives
  pub reported_new : not (list_any (same_line key) keys) ≡ true → None ≡ group_index (line_group key) groups
  reported_new h = line-new (turned (list_any (same_line key) keys) true h)

  pub reported_there : (index : ℕ) → not (list_any (same_line key) keys) ≡ false → index ≡ position_or_len (same_line key) keys → Some index ≡ group_index (line_group key) groups
  reported_there index h = line-there index (turned (list_any (same_line key) keys) false h)
