-- `audit` of a scenario and its timeline says yes.
use Rattle.std.proofs.Common.{◌≡◌, ◌∙◌, ℕ, false, List, map, ap, sym, subst, refl}
use Rattle.std.specs.List.{All}
use Rattle.std.proofs.lemmas.List.Elements.{All-map}
use Rattle.std.proofs.lemmas.Option.{same_Some}
use Rattle.std.proofs.lemmas.Result.{IfOk-at_ok}
use Rattle.reg_compiler.specs.declared.built.Built.{Built}
use Rattle.flow_core.specs.declared.book.Book.{Book}
use Rattle.flow_core.specs.declared.case.Case.{Case}
use Rattle.flow_core.specs.declared.letter.Letter.{Letter}
use Rattle.reg_compiler.specs.Sources.{Sources, sources_of}
use Rattle.fold_run.specs.Separated.{Cut}
use Rattle.campaign_report.specs.BooksRead.{flows_of}
use Rattle.scene_members.specs.declared.mode.SceneMode.TheVariants as scene
use Rattle.scene_core.specs.CasePlans.{plan_of}
use Rattle.scenario_json.specs.Scene.{Scene, scene_with}
use Rattle.run_audit.specs.Audit.{IsWordOf, IsLiveText}
use Rattle.run_audit.proofs.WordsLemmas.{yes_only}
use Rattle.run_ending.specs.declared.outcome.ModeOutput.{ModeOutput}
use Rattle.ccp_run.specs.AuditRuns.{verdict_text}
use Rattle.ccp_run.specs.Live.{IsRightBook}
use Rattle.ccp_run.specs.Scenes.{Says, IsScenario}
use Rattle.ccp_run.specs.TextLaws.{AuditsTimelines}
use Rattle.ccp_run.specs.Timeline.{IsTimelineOutput, source_plan, planned_by}
use Rattle.ccp_run.proofs.AlikeLemmas.{all_alike, words_alike, texts_alike}

-- ---- one scenario

one_scene : (bytes : List ℕ) (left right : Scene) → Says scene.Live bytes left → Says scene.Live bytes right → left ≡ right
one_scene bytes left right l r = IfOk-at_ok (λ (found : Scene). left ≡ found) (sym l ∙ r) refl

-- ---- the words of books

flows_right : (programs : List (ℕ × Built)) (books : List Book) → All (IsRightBook programs) books
    → All (λ (flow : Case × List Letter). IsWordOf (sources_of programs) flow.0 flow.1) (flows_of books)
flows_right programs books right =
    All-map (λ (flow : Case × List Letter). IsWordOf (sources_of programs) flow.0 flow.1) (λ (book : Book). (book.case, book.word)) books
    (λ k book h. record { legal = (right k book h).legal; complete = (right k book h).complete })

-- the text of a timeline is a live text of its scenario, whatever codes its programs have
live_text_of : (bytes : List ℕ) (output : ModeOutput) → IsTimelineOutput false bytes output
    → (those : List (ℕ × Built)) (others : List Case) → IsScenario scene.Live bytes those others → IsLiveText (sources_of those) others output.text
live_text_of bytes output is those others scenario =
    let these : List (ℕ × Built) = output.programs in
    let said : scene_with (sources_of these) (map plan_of is.cases) ≡ scene_with (sources_of those) (map plan_of others) =
    one_scene bytes (scene_with (sources_of these) (map plan_of is.cases)) (scene_with (sources_of those) (map plan_of others)) is.scenario.text scenario.text in
    let forms : sources_of these ≡ sources_of those = ap (λ (s : Scene). s.programs) said in
    let plans : map plan_of is.cases ≡ map plan_of others = ap (λ (s : Scene). s.cases) said in
    let alike = all_alike these those forms 0 is.cases others plans is.scenario.flows scenario.flows is.scenario.coded scenario.coded in
    let right : All (λ (flow : Case × List Letter). IsWordOf (sources_of these) flow.0 flow.1) (planned_by (sources_of these) is.cases) =
    subst (λ (flows : List (Case × List Letter)). All (λ (flow : Case × List Letter). IsWordOf (sources_of these) flow.0 flow.1) flows) is.tells.books (flows_right these output.books is.tells.right) in
    let live : IsLiveText (sources_of these) others output.text = record {
      words = map (source_plan (sources_of these)) is.cases;
      are = words_alike (sources_of these) is.cases others alike right;
      whole = is.tells.written ∙ texts_alike (sources_of these) is.cases others alike;
    } in
    subst (λ (fs : Sources). IsLiveText fs others output.text) forms live

pub audited : AuditsTimelines
audited bytes output is input cut at program text made audit =
    let same : audit.cut ≡ cut = same_Some audit.cut cut (sym audit.at.at_separator ∙ at.at_separator) in
    let bytes_same : audit.cut.program ≡ bytes = ap (λ (c : Cut). c.program) same ∙ program in
    let text_same : audit.cut.rest ≡ output.text = ap (λ (c : Cut). c.rest) same ∙ text in
    let scenario : IsScenario scene.Live bytes audit.programs audit.cases =
    subst (λ (b : List ℕ). IsScenario scene.Live b audit.programs audit.cases) bytes_same audit.scenario in
    let live : IsLiveText (sources_of audit.programs) audit.cases audit.cut.rest =
    subst (λ (t : List ℕ). IsLiveText (sources_of audit.programs) audit.cases t) (sym text_same) (live_text_of bytes output is audit.programs audit.cases scenario) in
    audit.written ∙ ap verdict_text (yes_only (sources_of audit.programs) audit.cases audit.cut.rest audit.verdict audit.is live)
