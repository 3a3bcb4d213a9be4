use Rattle.std.proofs.Common.{sym, ◌∙◌}
use Rattle.fold_run.proofs.OneValueLemmas.{gives-one}
use Rattle.fold_run.proofs.single_lines.single_value.Goals as goal

pub returns-clause-gives : goal.returns-clause-gives
returns-clause-gives c =
    gives-one c.args.text.now c.args.number c.in-Some-read_line_number.value c.in-Some.numeral.now c.in-Some-read_line_number.after.now
    c.in-Some.ensures.below (sym c.is_flag.ensures ∙ c.if-is_flag.false) c.in-Some.ensures.after
    c.in-Some-read_line_number.ensures.number c.in-Some-read_line_number.ensures.after
