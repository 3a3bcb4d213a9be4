-- What the clauses of a bare flow say of its summary is what the definitions say of the state that it sums up.
use Rattle.std.specs.Prelude.{◌≡◌}
use Rattle.ccp_base.specs.declared.ack.Ack.{Ack}
use Rattle.flow_core.specs.declared.letter.Letter.{Letter}
use Rattle.flow_core.specs.Readings.{Flow}
use Rattle.flow_core.specs.World.{World, after_ack, after_take, after_answer}
use Rattle.flow_core.specs.Words.{is_legal, is_complete}
use Rattle.flow_core.specs.Summaries.{summary, step_ack, step_take, step_answer, may_make, is_done}

-- for every state: a step on its summary gives the summary of the state after the letter, and the summary decides which
-- letters are legal and whether a word is complete
pub record SumsUp {X : Type 0} (flow : Flow X) : Type 0 where
  pub heard : (ack : Ack) (w : World X) → step_ack flow ack (summary flow w) ≡ summary flow (after_ack flow ack w)
  pub taken : (w : World X) → step_take (summary flow w) ≡ summary flow (after_take w)
  pub answered : (w : World X) → step_answer flow (summary flow w) ≡ summary flow (after_answer flow w)
  pub legal : (letter : Letter) (w : World X) → may_make flow (summary flow w) letter ≡ is_legal flow w letter
  pub complete : (w : World X) → is_done flow (summary flow w) ≡ is_complete flow w
