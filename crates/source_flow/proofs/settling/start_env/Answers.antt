use Rattle.std.proofs.Common.{◌≡◌, ℕ, Option, Ok, Err, ap, sym, ◌∙◌}
use Rattle.portus_core.specs.declared.env.Env.{Env}
use Rattle.portus_core.specs.declared.env.StartFault.{StartFault}
use Rattle.portus_core.specs.declared.env.StartFault.TheVariants.{BadRegister}
use Rattle.portus_core.specs.Epoch.{start_from, declared_env, with_values}
use Rattle.portus_core.specs.ProgramForm.{form_of}
use Rattle.source_flow.proofs.settling.start_env.Goals as goal

ok_err : (env : Env) (fault : StartFault) → Ok env ≡ Err fault → ⊥
ok_err env fault e = cc

pub unreachable-requires : goal.unreachable-requires
unreachable-requires c =
    let form = form_of c.args.program.now in
    let declared = declared_env form c.args.cwnd c.args.rate c.args.now in
    let good = ap (λ (bad : Option ℕ). start_from bad c.args.values.now declared) c.requires.good in
    let i = c.in-Err-BadRegister.field-0-0 in
    let bad : c.start.result ≡ Err (BadRegister i) = c.in-Err-BadRegister.is ∙ ap Err c.in-Err-BadRegister.field-0-is in
    ok_err (with_values c.args.values.now declared) (BadRegister i) (sym good ∙ (c.start.ensures.refused i).0 bad)
