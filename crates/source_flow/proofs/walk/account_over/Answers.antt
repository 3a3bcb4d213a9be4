use Rattle.std.proofs.Common.{true, false, Option, Some, ap, sym, ◌∙◌, subst}
use Rattle.flow_core.specs.LiveText.{Account}
use Rattle.flow_core.specs.Words.{world}
use Rattle.source_flow.specs.declared.state.State.{State}
use Rattle.source_flow.specs.SourceStates.{flow_over_sources}
use Rattle.source_flow.specs.SourceWalks.{StandsAfterWord, IsWalked}
use Rattle.source_flow.proofs.WalkedLemmas.{account-by, account-illegal}
use Rattle.source_flow.proofs.walk.account_over.Goals as goal

pub returns-in_default : goal.returns-in_default
returns-in_default c =
    let source = c.args.source.now in
    let word = c.args.word.now in
    sym (account-illegal (flow_over_sources source) source.case.now.link word
    (subst (λ (state : Option State). IsWalked source word state) c.in_default.is c.in_ok-state.ensures))

pub returns-then-not-is_complete : goal.returns-then-not-is_complete
returns-then-not-is_complete c =
    let source = c.args.source.now in
    let flow = flow_over_sources source in
    let link = source.case.now.link in
    let word = c.args.word.now in
    let after : StandsAfterWord source word c.in-Some.state =
    subst (λ (state : Option State). IsWalked source word state) c.in-Some.is c.in_ok-state.ensures in
    sym (account-by flow link word true false after.legal
    (sym (c.is_complete.ensures (world flow link word) after.at) ∙ c.if-not-is_complete.true))

pub returns : goal.returns
returns c =
    let source = c.args.source.now in
    let flow = flow_over_sources source in
    let link = source.case.now.link in
    let word = c.args.word.now in
    let after : StandsAfterWord source word c.in-Some.state =
    subst (λ (state : Option State). IsWalked source word state) c.in-Some.is c.in_ok-state.ensures in
    ap (λ (account : Account). Some account) (c.into_account.ensures (world flow link word) after.at)
    ∙ sym (account-by flow link word true true after.legal
    (sym (c.is_complete.ensures (world flow link word) after.at) ∙ c.if-not-is_complete.false))
