use Rattle.std.proofs.Common.{◌≡◌, ℕ, ◌<◌, ◌∷◌, [], ◌++◌, max, length, ap, sym, ◌∙◌, subst, arith}
use Rattle.std.proofs.lemmas.Bool.{ltb-true}
use Rattle.ccp_base.specs.declared.ack.Ack.{Ack}
use Rattle.link_model.specs.Link.{ack_after}
use Rattle.link_model.specs.Standing.{LinkState, Stands, IsAnswer}
use Rattle.campaign_core.specs.declared.sums.Sums.{Sums}
use Rattle.flow_core.specs.declared.letter.Letter.TheVariants.{A}
use Rattle.flow_core.specs.World.{track_of}
use Rattle.driven_flow.specs.declared.journal.Journal.{Journal}
use Rattle.flow_core.specs.declared.running.Running.{Running}
use Rattle.driven_flow.specs.Driven.{DrivenState, flow_by, world_by}
use Rattle.driven_flow.specs.DrivenJournals.{journal_ack, new_notice}
use Rattle.driven_flow.specs.DrivenStates.{driven_of, with_letter, IsDriven}
use Rattle.driven_flow.proofs.StateLemmas.{window-same, roomy-A, driven-A}
use Rattle.driven_flow.proofs.state.State.hear.Goals as goal

-- the link's acknowledgement, by what the link says
given : (d : DrivenState) (running : Running) (link : LinkState) (j : Journal) (sums : Sums) (peak : ℕ) (is : IsDriven d running link j sums peak) (window : ℕ) (ack : Ack)
    → window ≡ running.machine.kept.cwnd → IsAnswer link window ack
    → ack ≡ ack_after d.case.link (world_by d).windows (track_of (flow_by d) (world_by d)).env.cwnd
given d running link j sums peak is window ack is_window is_ack =
    is_ack (world_by d).windows is.link_stands
    ∙ (λ i. ack_after (is.link_case i) (world_by d).windows ((is_window ∙ window-same d running link j sums peak is) i))

pub with-self-requires : goal.with-self-requires
with-self-requires g c =
    let s = c.args.self.now in
    let d = driven_of s in
    let w = world_by d in
    let is_ack = given d s.running s.link s.journal s.sums s.peak c.requires.is c.cwnd-window.result c.next-ack.result c.cwnd-window.ensures c.next-ack.ensures.ack in
    let left : length w.acks < s.case.acks = ltb-true (length w.acks) s.case.acks c.requires.may in
    let within = s.case.acks_within in
    roomy-A d s.running s.link s.journal s.sums s.peak c.requires.is c.next-ack.result is_ack (omega (arith, left, within))

pub returns-clause-is : goal.returns-clause-is
returns-clause-is g c =
    let s = c.args.self.now in
    let d = driven_of s in
    let w = world_by d in
    let ack = c.next-ack.result in
    let window : c.cwnd-window.result ≡ (track_of (flow_by d) w).env.cwnd = c.cwnd-window.ensures ∙ window-same d s.running s.link s.journal s.sums s.peak c.requires.is in
    let is_ack = given d s.running s.link s.journal s.sums s.peak c.requires.is c.cwnd-window.result ack c.cwnd-window.ensures c.next-ack.ensures.ack in
    let step = c.hear-acked.ensures.step in
    let fault = c.new_notice-fault.ensures ∙ (λ i. new_notice (c.hear-acked.ensures.acked i) ((c.untold.ensures ∙ (λ k. (step k).untold)) i)) in
    let journal = c.put_ack.ensures ∙ (λ i. journal_ack ack (fault i) s.journal) in
    let peak = c.max-self.ensures ∙ ap (max s.peak) c.cwnd.ensures in
    let j : Journal = c.put_ack.new.self in
    let same : (record d { answers = j.answers.items; word = j.word.items }) ≡ with_letter A d =
    λ i. record d { answers = (c.put_ack.ensures i).answers.items; word = (c.put_ack.ensures i).word.items } in
    subst (λ (d' : DrivenState). IsDriven d' c.hear-acked.new.running c.next-ack.new.self c.put_ack.new.self c.with-self.result c.max-self.result) (sym same)
    (driven-A d s.running s.link s.journal s.sums s.peak c.requires.is ack is_ack c.hear-acked.new.running c.next-ack.new.self c.put_ack.new.self c.with-self.result c.max-self.result
    c.hear-acked.ensures.driven step c.next-ack.ensures.case
    (subst (λ (n : ℕ). Stands c.next-ack.new.self (w.windows ++ n ∷ [])) window (c.next-ack.ensures.stands w.windows c.requires.is.link_stands))
    c.next-ack.ensures.calls journal c.with-self.ensures peak)
