-- Pieces of a line, one behind another.
use Rattle.std.proofs.Common.{◌∙◌, codes, arith, ◌≡◌, ℕ, List, ◌++◌, append_assoc}
use Rattle.clock_text.specs.Civil.{moment_text}
use Rattle.printed_rows.specs.Records.{place_name}
use Rattle.printed_rows.proofs.Lines.{name_is}
use Rattle.journey_model.proofs.lines.with_arrival.Goals as goal

-- a line, two words, and what is behind each
pub placed : (line a b c d word other place moment place' moment' : List ℕ) → a ≡ line ++ word → b ≡ a ++ place → c ≡ b ++ other → d ≡ c ++ moment
    → place ≡ place' → moment ≡ moment' → d ≡ line ++ (word ++ (place' ++ (other ++ moment')))
placed line a b c d word other place moment place' moment' one two three four same_place same_moment =
    grind (arith, append_assoc)

pub returns : goal.returns
returns c =
    let place = c.as_bytes.ensures.value ∙ name_is c.args.names.now.places c.args.place.0 c.place_name.result.now c.place_name.ensures.name in
    let moment = c.as_slice.ensures ∙ c.write_moment-moment.ensures.text in
    placed c.args.line.items c.extend_from_slice.new.self.items c.extend_from_slice-2.new.self.items c.extend_from_slice-3.new.self.items c.extend_from_slice-4.new.self.items
    (codes " at ") (codes " at ") c.as_bytes.result.now c.as_slice.result.now (place_name c.args.names.now c.args.place.0) (moment_text c.args.moment.0)
    c.in_ok-extend_from_slice.ensures.items c.in_ok-extend_from_slice-2.ensures.items c.in_ok-extend_from_slice-3.ensures.items c.in_ok-extend_from_slice-4.ensures.items
    place moment
