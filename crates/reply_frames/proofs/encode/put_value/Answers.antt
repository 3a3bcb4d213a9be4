use Rattle.std.proofs.Common.{◌≡◌, ◌+◌, ◌≤◌, length, ap, ◌∙◌, refl, arith}
use Rattle.std.specs.Int.{w64, to_le_bytes}
use Rattle.reply_frames.specs.ValueBytes.{target_bytes}
use Rattle.reply_frames.specs.Writing.{placed}
use Rattle.reply_frames.proofs.Placing.{placed-value}
use Rattle.reply_frames.proofs.encode.put_value.Goals as goal

pub returns-clause-placed : goal.returns-clause-placed
returns-clause-placed c =
    let within : c.args.at ≤ length c.args.out.now = omega arith in
    let first : c.put.new.out ≡ placed c.args.at (target_bytes c.args.reg) c.args.out.now = c.put.ensures ∙ ap (λ bytes. placed c.args.at bytes c.args.out.now) c.target.ensures in
    let second : c.put-2.new.out ≡ placed (c.args.at + 2) (to_le_bytes w64 c.args.value) c.put.new.out = c.put-2.ensures ∙ ap (λ bytes. placed (c.args.at + 2) bytes c.put.new.out) c.to_le_bytes.ensures in
    second ∙ ap (placed (c.args.at + 2) (to_le_bytes w64 c.args.value)) first ∙ placed-value c.args.at (c.args.at + 2) c.args.reg c.args.value c.args.out.now refl within
