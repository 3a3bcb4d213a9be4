use Rattle.std.proofs.Common.{rules, ◌≡◌, ◌∙◌, ◌++◌, ◌+◌, ◌∷◌, [], ℕ, List, sym, ap}
use Rattle.std.proofs.lemmas.Fmt.{decimal_digit}
use Rattle.report_lines.proofs.number.put_number.Goals as goal

pub returns-then-number-lt10 : goal.returns-then-number-lt10
returns-then-number-lt10 c =
    let text : List ℕ = c.args.text.now in
    let pushed : c.push.new.self ≡ text ++ (48 + c.args.number) ∷ [] = search rules in
    pushed ∙ ap (λ (digits : List ℕ). text ++ digits) (sym (decimal_digit c.args.number c.if-number-lt10.true))
