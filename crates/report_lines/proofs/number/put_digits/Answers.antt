use Rattle.std.proofs.Common.{arith}
use Rattle.std.proofs.lemmas.Fmt.{length-decimal-le}
use Rattle.report_lines.proofs.number.put_digits.Goals as goal

pub write_digits-start-requires : goal.write_digits-start-requires
write_digits-start-requires c = omega (arith, length-decimal-le 20 c.args.number (omega arith) (omega arith) (omega arith))
