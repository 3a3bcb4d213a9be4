use Rattle.std.proofs.Common.{◌≡◌, [], ap, sym, ◌∙◌}
use Rattle.ccp_base.specs.Parts.{parts_of}
use Rattle.ccp_base.specs.declared.parts.Separator.TheVariants as separator
use Rattle.link_model.proofs.TraceTextLemmas.{last_after, last_after-is, none_left}
use Rattle.link_model.proofs.trace_text.read_lines.Goals as goal

pub returns-clause-last : goal.returns-clause-last
returns-clause-last c =
    let none : c.loop-rest.rest.now ≡ [] = none_left c.loop-rest.rest.now c.loop-rest-test.ensures in
    sym (ap (λ xs. last_after c.loop-rest.reading.before (parts_of separator.LineFeed xs)) none)
    ∙ c.loop-rest.invariant.0.lasts
    ∙ last_after-is (parts_of separator.LineFeed c.args.text.now) 0
