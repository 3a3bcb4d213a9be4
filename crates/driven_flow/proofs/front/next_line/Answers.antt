use Rattle.std.proofs.Common.{ℕ, ◌≡◌, Bool, false, subst, sym, take, ap, [], ◌+◌, ◌++◌, ◌∙◌, add-one}
use Rattle.fold_run.specs.Separated.{is_separator}
use Rattle.driven_flow.specs.FrontLines.{IsWithinLine, GoesOn}
use Rattle.driven_flow.proofs.FrontLineLemmas.{no-feed, goes-on}
use Rattle.driven_flow.proofs.front.next_line.Goals.{else-not-inside-via-then-not-inside+else-is_separator, else-not-inside-via-else-not-inside}
use Rattle.driven_flow.proofs.front.next_line.Goals as goal

pub next_part-requires : goal.next_part-requires
next_part-requires c = record { unended = no-feed c.args.bytes.now c.in_default.ensures }

pub returns-else-not-inside-clause-next : goal.returns-else-not-inside-clause-next
returns-else-not-inside-clause-next c line within =
    let at : ℕ = c.in-Some.at in
    let goes : is_separator (line ++ take at c.args.bytes.now) ≡ false → GoesOn line c.args.bytes.now (at + 1) false =
    λ other. subst (λ (n : ℕ). GoesOn line c.args.bytes.now n false) (sym (add-one at))
    (goes-on line c.args.bytes.now at c.in-Some.ensures.0.high c.in-Some.ensures.0.before c.in-Some.ensures.1 other) in
    elim c.else-not-inside.branch [
      | else-not-inside-via-then-not-inside+else-is_separator w ↦
          let first : line ≡ [] = subst (λ (b : Bool). IsWithinLine b line) w.if-not-inside.true within in
          goes (ap (λ l. is_separator (l ++ take at c.args.bytes.now)) first ∙ sym w.is_separator.ensures ∙ w.if-is_separator.false)
      | else-not-inside-via-else-not-inside w ↦
          goes (subst (λ (b : Bool). IsWithinLine b line) w.if-not-inside.false within (take at c.args.bytes.now))
    ]
