use Rattle.std.proofs.Common.{◌≡◌, ◌+◌, false, take, sym, ◌∙◌, subst}
use Rattle.ccp_base.specs.declared.place.Place.{Place}
use Rattle.flow_core.specs.declared.letter.Letter.TheVariants.{A}
use Rattle.flow_core.specs.World.{World}
use Rattle.flow_core.specs.Words.{world, legal}
use Rattle.source_flow.specs.SourceStates.{flow_over_sources, IsAt}
use Rattle.source_flow.proofs.WalkedLemmas.{world-next, legal-next, illegal-front}
use Rattle.source_flow.proofs.walk.walk.Goals as goal

pub returns-then-not-may_make : goal.returns-then-not-may_make
returns-then-not-may_make c =
    let source = c.args.source.now in
    let flow = flow_over_sources source in
    let link = source.case.now.link in
    let word = c.args.word.now in
    let i = c.loop-letter.letter-index in
    let invariant = c.loop-letter.invariant in
    let next : legal flow link (take (i + 1) word) ≡ false =
    legal-next flow link word i A c.loop-letter-test.true invariant.legal
    ∙ sym (c.may_make.ensures.legal (world flow link (take i word)) invariant.at)
    ∙ c.if-not-may_make.true in
    illegal-front flow link word (i + 1) next

pub loop-letter-preserved : goal.loop-letter-preserved
loop-letter-preserved c =
    let source = c.args.source.now in
    let flow = flow_over_sources source in
    let link = source.case.now.link in
    let word = c.args.word.now in
    let i = c.loop-letter.letter-index in
    let invariant = c.loop-letter.invariant in
    let before : World Place = world flow link (take i word) in
    record {
      legal =
          legal-next flow link word i A c.loop-letter-test.true invariant.legal
          ∙ sym (c.may_make.ensures.legal before invariant.at)
          ∙ c.if-not-may_make.false;
      sound = c.in-Ok.ensures.sound;
      at = subst (λ (w : World Place). IsAt flow c.make.new.self w) (sym (world-next flow link word i A c.loop-letter-test.true)) (c.in-Ok.ensures.at before invariant.at);
    }
