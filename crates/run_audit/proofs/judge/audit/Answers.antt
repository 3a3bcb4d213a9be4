use Rattle.std.proofs.Common.{rules, ◌≡◌, subst, sym, ap, ◌∙◌}
use Rattle.std.proofs.lemmas.Result.{IfOk-weaker}
use Rattle.reg_compiler.specs.Sources.{sources_of}
use Rattle.run_audit.specs.declared.verdict.Verdict.{Verdict}
use Rattle.run_audit.specs.declared.verdict.Verdict.TheVariants.{Yes, No}
use Rattle.run_audit.specs.Audit.{IsVerdict}
use Rattle.run_audit.specs.PartLeft.{verdict_on}
use Rattle.run_audit.proofs.NameLemmas.{names_plain}
use Rattle.run_audit.proofs.VerdictLemmas.{verdict_is}
use Rattle.run_audit.proofs.WordsLemmas.{yes_only, no_only}
use Rattle.run_audit.proofs.judge.audit.Goals as goal

pub returns-clause-is : goal.returns-clause-is
returns-clause-is c =
    let same : c.as_slice.result.now ≡ c.args.scene.now.cases = search rules in
    IfOk-weaker c.judge.result (λ verdict. verdict ≡ verdict_on (sources_of c.args.scene.now.programs) c.as_slice.result.now 0 c.args.text.now) (IsVerdict (sources_of c.args.scene.now.programs) c.args.scene.now.cases c.args.text.now)
    (λ verdict is. subst (λ (v : Verdict). IsVerdict (sources_of c.args.scene.now.programs) c.args.scene.now.cases c.args.text.now v)
    (sym (is ∙ ap (λ cases. verdict_on (sources_of c.args.scene.now.programs) cases 0 c.args.text.now) same))
    (verdict_is (sources_of c.args.scene.now.programs) (names_plain c.args.scene.now.programs) c.args.scene.now.cases c.args.text.now))
    c.judge.ensures

pub returns-clause-yes : goal.returns-clause-yes
returns-clause-yes c = λ live.
    IfOk-weaker c.judge.result (IsVerdict (sources_of c.args.scene.now.programs) c.args.scene.now.cases c.args.text.now) (λ verdict. verdict ≡ Yes)
    (λ verdict is. yes_only (sources_of c.args.scene.now.programs) c.args.scene.now.cases c.args.text.now verdict is live) (returns-clause-is c)

pub returns-clause-no : goal.returns-clause-no
returns-clause-no c = λ count not.
    IfOk-weaker c.judge.result (IsVerdict (sources_of c.args.scene.now.programs) c.args.scene.now.cases c.args.text.now) (λ verdict. verdict ≡ No count)
    (λ verdict is. no_only (sources_of c.args.scene.now.programs) c.args.scene.now.cases c.args.text.now verdict count is not) (returns-clause-is c)
