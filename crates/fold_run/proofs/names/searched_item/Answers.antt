use Rattle.std.proofs.Common.{◌+◌, ◌-◌, take, drop, length, sym, ◌∙◌}
use Rattle.std.proofs.lemmas.List.{take_rest}
use Rattle.fold_run.proofs.FirstWord.{word-none, no-equals, equals-known, equals-unknown}
use Rattle.fold_run.proofs.ItemLemmas.{gives-at}
use Rattle.fold_run.proofs.names.searched_item.Goals as goal

pub returns-in_default-clause-none : goal.returns-in_default-clause-none
returns-in_default-clause-none c = λ values. word-none values c.args.text.now c.requires.some c.requires.word (no-equals 0 c.args.text.now c.in_default.ensures)

pub returns-in_default-value_named-clause-none : goal.returns-in_default-value_named-clause-none
returns-in_default-value_named-clause-none c = λ values.
    equals-unknown c.args.text.now c.in-Some.at c.in-Some.ensures.0.high c.in-Some.ensures.0.before c.in-Some.ensures.1
    values c.requires.word (sym c.value_named.ensures.number ∙ c.in_default-value_named.is)

pub returns-clause-gives : goal.returns-clause-gives
returns-clause-gives c =
    let text = c.args.text.now in
    let at = c.in-Some.at in
    let known = sym c.value_named.ensures.number ∙ c.in-Some-value_named.is in
    gives-at text at c.in-Some-value_named.number (take (length text - (at + 1)) (drop (at + 1) text))
    (equals-known text at c.in-Some.ensures.0.high c.in-Some.ensures.0.before c.in-Some.ensures.1 c.in-Some-value_named.number known)
    known (sym (take_rest text (at + 1)))
