use Rattle.std.proofs.Common.{decimal, ◌+◌, ◌/◌, ◌%◌, [], ◌∷◌, arith, append_assoc}
use Rattle.reg_code.proofs.DecimalLemmas.{decimal-more}
use Rattle.reg_code.proofs.text.+put_decimal.Goals as goal

pub returns-in_ok-push : goal.returns-in_ok-push
returns-in_ok-push t c =
    let digits = decimal-more c.args.n (omega arith) (omega arith) in
    let grouped = append_assoc c.args.text.now (decimal (c.args.n / 10)) ((48 + c.args.n % 10) ∷ []) in
    grind (arith, c.in_ok-push.ensures.ok, c.in_ok-put_decimal.ensures, digits, grouped)
