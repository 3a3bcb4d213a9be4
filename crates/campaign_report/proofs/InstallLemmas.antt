-- What the Install of a built program meets: its counts are within their limits, and in version 1 it has few reports.
use Rattle.std.proofs.Common.{◌≡◌, ◌≤◌, ℕ, Bool, true, false, nat_lt, if◌then◌else◌, Option, Some, None, length, refl, sym, ap, ◌∙◌, subst, arith}
use Rattle.std.proofs.lemmas.Bool.Decides.{nat_tests}
use Rattle.std.proofs.lemmas.List.{length-map}
use Rattle.std.specs.Option.{option_or}
use Rattle.ccp_base.specs.Limits.{most_fields, most_controls, most_blocks, most_instrs, most_short_fields}
use Rattle.portus_core.specs.ProgramForm.{form_of}
use Rattle.reg_code.specs.AcceptedCode.{refusal_where}
use Rattle.reg_code.specs.declared.code.Code.{Code}
use Rattle.reg_code.specs.declared.rule.Rule.{Rule}
use Rattle.reg_compiler.specs.Simulation.{register_start}
use Rattle.reg_compiler.specs.declared.built.Built.{Built}
use Rattle.reply_frames.specs.declared.outline.Version.{Version}
use Rattle.reply_frames.specs.declared.outline.Version.TheVariants.{One, Two}
use Rattle.ccp_messages.specs.Messages.{AreFew, Meets}
use Rattle.ccp_messages.specs.declared.message.Message.TheVariants.{Install}
use Rattle.campaign_report.specs.WireText.{version_for}

neither : {A : Type 0} (first next : Option A) → option_or first next ≡ None → (first ≡ None) × (next ≡ None)
neither None next is = (refl, is)
neither (Some a) next is = cc

within : (most count : ℕ) (rule : Rule) (index : ℕ) → refusal_where (nat_lt most count) rule index ≡ None → count ≤ most
within most count rule index is = go (nat_lt most count) refl is
  where
    go : (over : Bool) → nat_lt most count ≡ over → refusal_where over rule index ≡ None → count ≤ most
    go true over none = cc
    go false over none = grind (arith, nat_tests)

few : (fields reports : ℕ) → reports ≡ fields → AreFew (version_for fields) reports
few fields reports same = go (nat_lt most_short_fields fields) refl
  where
    go : (many : Bool) → nat_lt most_short_fields fields ≡ many → AreFew (if many then Two else One) reports
    go true is = tt
    go false is =
        let below : fields ≤ most_short_fields = grind (arith, nat_tests) in
        omega (arith, below, same)

-- the Install of a program's code, in the version for its fields
pub install_meets : (number : ℕ) (built : Built) (code : Code) (version : Version) → code ≡ built.code.code
    → version ≡ version_for (length (form_of built.program).fields) → Meets version (Install 0 number code)
install_meets number built code version is chosen =
    let own = built.code.code in
    let h = built.simulates in
    let form = form_of built.program in
    let four = neither _ _ (neither _ _ (neither _ _ h.0).0).0 in
    let three = neither _ _ four.0 in
    let two = neither _ _ three.0 in
    let reports : length own.reports ≡ length form.fields = ap length h.2.0 ∙ length-map form.fields register_start in
    subst (λ (v : Version). Meets v (Install 0 number code)) (sym chosen)
    (subst (λ (c : Code). Meets (version_for (length form.fields)) (Install 0 number c)) (sym is) (
      within most_fields (length own.reports) _ _ two.0,
      within most_controls (length own.controls) _ _ two.1,
      within most_blocks (length own.events) _ _ three.1,
      within most_instrs (length own.instrs) _ _ four.1,
      few (length form.fields) (length own.reports) reports,
    ))
