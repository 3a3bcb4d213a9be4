use Rattle.portus_core.specs.ProgramForm.{form_of}
use Rattle.program_bounds.specs.Turns.{IsUpdated}
use Rattle.program_bounds.proofs.ConclusionLemmas.{good_turn, good_steady, good_end}
use Rattle.program_bounds.proofs.TurnLemmas.{found_then, found_same, turn_keeps, turn_within, few_controls}
use Rattle.program_bounds.proofs.UpdateLemmas.{updated_has}
use Rattle.program_bounds.proofs.turns.turns.Goals as goal

pub returns-then-is_within : goal.returns-then-is_within
returns-then-is_within c =
    let form = form_of c.args.program.now in
    let given = c.args.given.now in
    let state = c.loop-number.state in
    let updated : IsUpdated form given state = updated_has form given state (few_controls form c.args.program.now.valid) c.loop-number.invariant.updates in
    c.loop-number.invariant.leads c.turn.new.found state c.in_ok-next.ensures.keeps
    (good_steady form given c.turn.new.found c.loop-number.number state
    (turn_within form given c.turn.new.found c.loop-number.number state c.in_ok-next.next state (c.is_within.ensures c.if-is_within.true) c.in_ok-next.ensures.turn) updated)

pub loop-number-preserved : goal.loop-number-preserved
loop-number-preserved c =
    let form = form_of c.args.program.now in
    let given = c.args.given.now in
    let state = c.loop-number.state in
    let updated : IsUpdated form given state = updated_has form given state (few_controls form c.args.program.now.valid) c.loop-number.invariant.updates in
    record {
      leads = λ found now keeps good.
          c.loop-number.invariant.leads found now (found_then c.loop-number.found c.turn.new.found found c.in_ok-next.ensures.keeps keeps)
          (good_turn form given found now c.loop-number.number state c.in_ok-next.next c.loop-number-test.true
          (turn_keeps form given c.turn.new.found found c.loop-number.number state c.in_ok-next.next keeps c.in_ok-next.ensures.turn) c.in_ok-next.ensures.within updated good);
      updates = c.in_ok-next.ensures.updates;
    }

pub returns : goal.returns
returns c =
    let form = form_of c.args.program.now in
    let given = c.args.given.now in
    let state = c.loop-number.state in
    let updated : IsUpdated form given state = updated_has form given state (few_controls form c.args.program.now.valid) c.loop-number.invariant.updates in
    c.loop-number.invariant.leads c.loop-number.found state (found_same c.loop-number.found)
    (good_end form given c.loop-number.found c.loop-number.number state c.loop-number-test.false updated)
