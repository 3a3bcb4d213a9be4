use Rattle.std.proofs.Common.{◌≡◌, ◌++◌, ℕ, List, OnOk, subst}
use Rattle.driven_flow.proofs.DrivenTextLemmas.{account-driven}
use Rattle.driven_flow.proofs.timeline.put_flow_part.Goals as goal

pub returns : goal.returns
returns c =
    subst (λ (part : List ℕ). OnOk c.put_account.result (c.put_account.new.text ≡ c.args.text.now ++ part))
    (account-driven c.args.programs.now c.args.flow.now (c.lift_law.ensures c.args.programs.now c.requires)) c.put_account.ensures
