-- A file that comes after another one.
use Rattle.feed_maker.proofs.Common.{rules, codes, sym, ◌∙◌, others_on, remaining_of, lines_of, stop_times_text, ◌≡◌, ℕ, List, ◌∷◌, Bool, false, refl, ap, Option, Some, Result, Ok, Err}
use Rattle.feed_maker.proofs.Common.{if◌then◌else◌, bytes_eq, bytes_eq-Decides, FileMap, file_at, Opens, arith}
use Rattle.file_ports.specs.declared.ports.Presence.{Presence, TheVariants.{Present, Absent}}
use Rattle.feed_maker.proofs.files.MadeFilesFiles.open_file.Goals as goal

pub other_path : (x y : List ℕ) (b : Bool) → bytes_eq y x ≡ b → bytes_eq x y ≡ false → b ≡ false
other_path x y b h n = grind (arith, bytes_eq-Decides)

-- it is opened like the only one
pub opens_behind : {E : Type 0} (path first text : List ℕ) (others : FileMap) (result : Result Presence E) (remaining : Option (List ℕ)) → bytes_eq path first ≡ false
    → Opens (Some others) path result remaining → Opens (Some ((first, text) ∷ others)) path result remaining
opens_behind path first text others (Ok Present) remaining n h =
    let e = ap (λ (b : Bool). if b then Some text else file_at others path) (other_path path first (bytes_eq first path) refl n) in
    (h.0 ∙ sym e, h.1)
opens_behind path first text others (Ok Absent) remaining n h =
    ap (λ (b : Bool). if b then Some text else file_at others path) (other_path path first (bytes_eq first path) refl n) ∙ h
opens_behind path first text others (Err e) remaining n h = h

pub returns-clause-opened : goal.returns-clause-opened
returns-clause-opened c =
    let old = c.args.self.now in
    record {
      opens =
          opens_behind c.args.path.now (codes "feed/stop_times.txt") (stop_times_text (lines_of old.times)) (others_on old.others)
          c.open_file.result (remaining_of c.open_file.new.self) (sym c.eq.ensures ∙ c.if-eq.false) c.open_file.ensures.opened.opens;
      in_hand = search rules;
      cause = search rules;
    }
