use Rattle.std.proofs.Common.{◌≡◌, Bool, true, false, subst, sym, not, [], length, drop, ap, ◌++◌, ◌∙◌}
use Rattle.std.specs.Bool.{OnTrue, OnFalse}
use Rattle.driven_flow.specs.FrontLines.{longest_separator, IsWithinLine, IsOther}
use Rattle.driven_flow.proofs.FrontLineLemmas.{goes-within, undecided-none, undecided-line, none-long, other-further, other-first}
use Rattle.driven_flow.proofs.front.next_part.Goals.{then-is_empty, else-is_empty+then-not-inside, else-is_empty+else-not-inside}
use Rattle.driven_flow.proofs.front.next_part.Goals as goal

pub returns-then-may_separate-clause-next : goal.returns-then-may_separate-clause-next
returns-then-may_separate-clause-next c line within = elim c.if-is_empty.branch [
  | then-is_empty w ↦ undecided-none line c.args.bytes.now (none-long c.args.bytes.now (sym c.is_empty.ensures ∙ w.if-is_empty.true))
  | else-is_empty+then-not-inside w ↦
      let first : line ≡ [] = subst (λ (b : Bool). IsWithinLine b line) w.if-not-inside.true within in
      let may : w.may_separate.result ≡ true = sym w.value-is ∙ c.if-may_separate.true in
      undecided-line line c.args.bytes.now (drop (length c.args.bytes.now) longest_separator) first c.requires.unended
      (subst (λ (b : Bool). OnTrue b (longest_separator ≡ c.args.bytes.now ++ drop (length c.args.bytes.now) longest_separator)) may w.may_separate.ensures.yes)
  | else-is_empty+else-not-inside w ↦ let bad : false ≡ true = sym (ap not w.if-not-inside.false) ∙ sym w.value-is ∙ c.if-may_separate.true in cc
]

pub returns-else-may_separate-clause-next : goal.returns-else-may_separate-clause-next
returns-else-may_separate-clause-next c line within = elim c.if-is_empty.branch [
  | then-is_empty w ↦ let bad : true ≡ false = sym (w.value-is ∙ w.if-is_empty.true) ∙ c.if-may_separate.false in cc
  | else-is_empty+then-not-inside w ↦
      let first : line ≡ [] = subst (λ (b : Bool). IsWithinLine b line) w.if-not-inside.true within in
      let may : w.may_separate.result ≡ false = sym w.value-is ∙ c.if-may_separate.false in
      goes-within line c.args.bytes.now c.requires.unended (other-first line c.args.bytes.now first (subst (λ (b : Bool). OnFalse b (IsOther c.args.bytes.now)) may w.may_separate.ensures.no))
  | else-is_empty+else-not-inside w ↦
      goes-within line c.args.bytes.now c.requires.unended (other-further line c.args.bytes.now (subst (λ (b : Bool). IsWithinLine b line) w.if-not-inside.false within))
]
