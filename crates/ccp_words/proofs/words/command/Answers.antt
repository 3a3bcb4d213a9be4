use Rattle.std.proofs.Common.{ap₂, ◌≡◌, ◌∙◌}
use Rattle.std.proofs.lemmas.Result.{IfOk-weaker}
use Rattle.clap.specs.Words.{app_of, with_rule}
use Rattle.ccp_words.specs.Words.{bare_command, mode_argument}
use Rattle.ccp_words.proofs.words.command.Goals as goal

pub returns : goal.returns
returns c =
    let names = c.names.result in
    let mode_is : app_of c.in_ok-arg.field-0 ≡ with_rule bare_command (mode_argument names) =
    c.in_ok-arg.ensures.shape c.mode_argument.ensures.own ∙ ap₂ with_rule c.bare_command.ensures c.mode_argument.ensures.rule in
    let one_is = c.in_ok-arg-2.ensures.shape c.number_option.ensures.own ∙ ap₂ with_rule mode_is c.number_option.ensures.rule in
    let two_is = c.in_ok-arg-3.ensures.shape c.number_option-2.ensures.own ∙ ap₂ with_rule one_is c.number_option-2.ensures.rule in
    let three_is = c.in_ok-arg-4.ensures.shape c.number_option-3.ensures.own ∙ ap₂ with_rule two_is c.number_option-3.ensures.rule in
    let four_is = c.in_ok-arg-5.ensures.shape c.number_option-4.ensures.own ∙ ap₂ with_rule three_is c.number_option-4.ensures.rule in
    IfOk-weaker c.arg-6.result _ _ (λ command added. record {
      names = names;
      modes = c.names.ensures;
      app = added.shape c.wire_flag.ensures.own ∙ ap₂ with_rule four_is c.wire_flag.ensures.rule;
    }) c.arg-6.ensures
