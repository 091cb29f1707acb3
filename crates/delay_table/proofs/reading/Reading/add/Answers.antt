use Rattle.delay_table.proofs.{Common.{◌∙◌, arith, sym, option_map, Line, line_with}, GroupFacts.group-here, ReadFacts.{rows-known, rows-new, first-none}}
use Rattle.delay_table.proofs.reading.Reading.add.Goals as goal

pub returns-in-Some-clause-none : goal.returns-in-Some-clause-none
returns-in-Some-clause-none c = grind (arith, rows-known)

pub returns-in-Some-clause-err : goal.returns-in-Some-clause-err
returns-in-Some-clause-err c = grind (arith, rows-known)

pub returns-in-None-clause-none : goal.returns-in-None-clause-none
returns-in-None-clause-none c = grind (arith, rows-new, first-none)

pub push-requires : goal.push-requires
push-requires c =
    let l = c.args.line.now in
    let line : Line = line_with l.class (option_map (λ s. s.now) l.route) l.hour l.outcome in
    let here = group-here line.group c.args.self.now.groups c.in-Some.index (sym c.in_ok-index.ensures.index ∙ c.in-Some.is) in
    omega (arith, here.0, c.requires)
