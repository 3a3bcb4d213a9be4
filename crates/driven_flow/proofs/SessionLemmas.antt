-- Each message of a session has a frame, and a flow that continues reaches its next ticket or its end.
use Rattle.std.specs.Prelude.{◌≡◌, ◌≢◌, ℕ, zero, suc, ◌+◌, ◌*◌, ◌<◌, ◌≤◌, nat_lt, if◌then◌else◌, Bool, true, false, Option, Some, length, refl}
use Rattle.std.proofs.Common.{arith, ap, sym, ◌∙◌, subst}
use Rattle.std.proofs.lemmas.Bool.Decides.{nat_tests}
use Rattle.ccp_base.specs.Limits.{most_fields, most_short_fields}
use Rattle.ccp_base.specs.declared.exchange.Report.{Report}
use Rattle.ccp_base.specs.declared.exchange.Told.TheVariants as told
use Rattle.reply_frames.specs.declared.outline.Version.{Version}
use Rattle.reply_frames.specs.declared.outline.Version.TheVariants.{One, Two}
use Rattle.ccp_messages.specs.declared.message.Message.TheVariants.{Measure}
use Rattle.ccp_messages.specs.Messages.{frame_bytes}
use Rattle.ccp_messages.proofs.Encoding.{length-frame}
use Rattle.campaign_core.specs.CampaignWord.{next_of}
use Rattle.feed_core.specs.FeedHolds.{HasShortFrame}
use Rattle.flow_core.specs.declared.letter.Letter.{Letter}
use Rattle.flow_core.specs.declared.letter.Letter.TheVariants.{A, T, C}
use Rattle.driven_flow.specs.Driven.{Given, DrivenState, flow_by, world_by, left_of}
use Rattle.driven_flow.specs.Session.{version_for, IsShort, after_one, then_on, run_for, run_on}
use Rattle.driven_flow.specs.SessionHolds.{IsOnWay}

-- ---- frames

module _ (report : Report) (short : IsShort (told.Report report)) (few : length report.fields ≤ most_fields) where
  framed : (wide : Bool) → nat_lt most_short_fields (length report.fields) ≡ wide → HasShortFrame (Some (Measure report, if wide then Two else One))
  framed true wide =
      let long : length (frame_bytes Two (Measure report)) ≡ 64 + 8 * length report.fields = length-frame Two (Measure report) in
      ((tt, tt, tt), omega (arith, few, long))
  framed false wide =
      let long : length (frame_bytes One (Measure report)) ≡ 56 + 8 * length report.fields = length-frame One (Measure report) in
      ((short.0, short.1, grind (arith, nat_tests, wide)), omega (arith, few, long))

  pub report-framed : (version : Version) → version ≡ version_for (length report.fields) → HasShortFrame (Some (Measure report, version))
  report-framed version is = subst (λ (v : Version). HasShortFrame (Some (Measure report, v))) (sym is) (framed (nat_lt most_short_fields (length report.fields)) refl)

-- ---- a flow continues

abbrev next : DrivenState → Option Letter
next flow = next_of (flow_by flow) flow.case.lag (world_by flow)

module _ (given : Given) (first now : DrivenState) where
  on-from : (letter : Letter) (later : DrivenState) → letter ≢ T → next now ≡ Some letter → later ≡ after_one given now letter → left_of later < left_of now
      → (most : ℕ) → left_of now ≤ most → run_for most given now ≡ run_on given first → IsOnWay given first later
  on-from letter later other is made fewer zero enough same = absurd (omega (arith, fewer, enough))
  on-from T later other is made fewer (suc most) enough same = absurd (other refl)
  on-from A later other is made fewer (suc most) enough same = record {
    most = most;
    enough = omega (arith, fewer, enough);
    same =
        ap (run_for most given) made
        ∙ sym (ap (λ (l : Option Letter). then_on l (after_one given now) (run_for most given) now) is)
        ∙ same;
  }
  on-from C later other is made fewer (suc most) enough same = record {
    most = most;
    enough = omega (arith, fewer, enough);
    same =
        ap (run_for most given) made
        ∙ sym (ap (λ (l : Option Letter). then_on l (after_one given now) (run_for most given) now) is)
        ∙ same;
  }

  pub way-goes-on : (letter : Letter) (later : DrivenState) → letter ≢ T → next now ≡ Some letter → later ≡ after_one given now letter
      → left_of later < left_of now → IsOnWay given first now → IsOnWay given first later
  way-goes-on letter later other is made fewer on = on-from letter later other is made fewer on.most on.enough on.same

  ends-at : (later : DrivenState) → next now ≡ Some T → later ≡ after_one given now T → left_of later < left_of now
      → (most : ℕ) → left_of now ≤ most → run_for most given now ≡ run_on given first → later ≡ run_on given first
  ends-at later is made fewer zero enough same = absurd (omega (arith, fewer, enough))
  ends-at later is made fewer (suc most) enough same =
      made ∙ sym (ap (λ (l : Option Letter). then_on l (after_one given now) (run_for most given) now) is) ∙ same

  pub way-at-ticket : (later : DrivenState) → next now ≡ Some T → later ≡ after_one given now T → left_of later < left_of now
      → IsOnWay given first now → later ≡ run_on given first
  way-at-ticket later is made fewer on = ends-at later is made fewer on.most on.enough on.same
