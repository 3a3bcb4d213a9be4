-- Each legal letter leaves fewer letters than could come before it.
use Rattle.std.specs.Prelude.{◌≡◌, ◌<◌, ◌≤◌, Bool, true, false, is_some, is_none, ◌&&◌, Option, Some, None, List, [], ◌∷◌, length, refl}
use Rattle.std.proofs.Common.{arith, ap, length-append}
use Rattle.std.proofs.lemmas.Bool.{ltb-true, and_parts}
use Rattle.ccp_base.specs.declared.ack.Ack.{Ack}
use Rattle.ccp_base.specs.declared.arithmetic.FaultKind.{FaultKind}
use Rattle.ccp_base.specs.declared.exchange.Report.{Report}
use Rattle.ccp_base.specs.declared.exchange.Reply.{Reply}
use Rattle.ccp_base.specs.declared.exchange.Reply.TheVariants.{Nothing, Update, Change}
use Rattle.ccp_base.specs.RunningEpochs.{reporter}
use Rattle.portus_core.specs.declared.env.Env.{Env}
use Rattle.portus_core.specs.Epoch.{Outcome, quiet, reported, held, failed, stopped, Track, heard}
use Rattle.portus_core.specs.Reports.{report_of}
use Rattle.agent_core.specs.declared.agent.Agent.{Agent}
use Rattle.agent_core.specs.Agents.{replied}
use Rattle.link_model.specs.declared.link_case.LinkCase.{LinkCase}
use Rattle.link_model.specs.Link.{ack_after}
use Rattle.flow_core.specs.declared.letter.Letter.{Letter}
use Rattle.flow_core.specs.declared.letter.Letter.TheVariants.{A, T, C}
use Rattle.flow_core.specs.Readings.{Flow}
use Rattle.flow_core.specs.World.{Failure, Taken, World, track_of, has_room, with_met, after_ack, takeable, with_taken, after_take, told_as, with_turn, answer_applied, after_answer}
use Rattle.flow_core.specs.Words.{from_link, after_letter, can_take, is_legal}
use Rattle.flow_core.specs.States.{some_count}
use Rattle.flow_core.specs.LettersLeft.{letters_left}
use Rattle.flow_core.proofs.BothLemmas.{none-left}

some_count-most : {Y : Type 0} (option : Option Y) → some_count option ≤ 1
some_count-most None = omega arith
some_count-most (Some y) = omega arith

module _ {X : Type 0} (flow : Flow X) where
  left-met : (ack : Ack) (room : Bool) (track : Track) (outcome : Outcome (FaultKind × X)) (env : Env) (w : World X)
      → length w.acks < flow.acks → letters_left flow (with_met flow ack room track (outcome, env) w) < letters_left flow w
  left-met ack room track quiet env w more =
      omega (arith, more, length-append w.acks (ack ∷ []), length-append w.waiting [])
  left-met ack room track (reported fields) env w more =
      omega (arith, more, length-append w.acks (ack ∷ []), length-append w.waiting (report_of (reporter flow.number w.present.program (length w.past)) track ack env fields ∷ []))
  left-met ack room track held env w more =
      omega (arith, more, length-append w.acks (ack ∷ []), length-append w.waiting [])
  left-met ack room track (failed fault) env w more =
      omega (arith, more, length-append w.acks (ack ∷ []), length-append w.waiting [], some_count-most w.untold)
  left-met ack room track stopped env w more =
      omega (arith, more, length-append w.acks (ack ∷ []), length-append w.waiting [])

  left-heard : (ack : Ack) (room : Bool) (track : Track) (met : Outcome (FaultKind × X) × Env) (w : World X)
      → length w.acks < flow.acks → letters_left flow (with_met flow ack room track met w) < letters_left flow w
  left-heard ack room track (outcome, env) w more = left-met ack room track outcome env w more

  pub left-ack : (ack : Ack) (w : World X) → length w.acks < flow.acks → letters_left flow (after_ack flow ack w) < letters_left flow w
  left-ack ack w more =
      let track = track_of flow w in
      left-heard ack (has_room flow w) track (heard (flow.reading w.present.program) track.is_stopped track.env ack (has_room flow w)) w more

  left-taking : (waiting : List Report) (untold : Option (Failure X)) (w : World X) → w.waiting ≡ waiting → w.untold ≡ untold
      → is_some (takeable waiting untold) ≡ true → some_count w.out ≡ 0
      → letters_left flow (with_taken (takeable waiting untold) w) < letters_left flow w
  left-taking [] None w waits tells can out = absurd (let wrong : false ≡ true = can in (cc))
  left-taking [] (Some failure) w waits tells can out =
      let waits = ap length waits in
      let tells = ap some_count tells in
      omega (arith, waits, tells, out)
  left-taking (report ∷ rest) untold w waits tells can out =
      let waits = ap length waits in
      let tells = ap some_count tells in
      omega (arith, waits, tells, out)

  left-turn : (ticket : Taken X) (turn : Agent × Reply) (w : World X) → some_count w.out ≡ 1
      → letters_left flow (with_turn flow ticket turn w) < letters_left flow w
  left-turn ticket (agent, Nothing) w out = omega (arith, out)
  left-turn ticket (agent, Update cwnd) w out = omega (arith, out)
  left-turn ticket (agent, Change program cwnd cap_value) w out = omega (arith, out)

  left-applied : (out : Option (Taken X)) (w : World X) → w.out ≡ out → is_some out ≡ true
      → letters_left flow (answer_applied flow out w) < letters_left flow w
  left-applied None w is_out some = absurd (let wrong : false ≡ true = some in (cc))
  left-applied (Some ticket) w is_out some =
      left-turn ticket (replied w.agent (told_as flow ticket.told)) w (ap some_count is_out)

  pub left-take : (w : World X) → (is_none w.out && can_take w) ≡ true → letters_left flow (after_take w) < letters_left flow w
  left-take w may =
      left-taking w.waiting w.untold w refl refl (and_parts (is_none w.out) (can_take w) may).1
      (ap some_count (none-left w.out (can_take w) may))

  pub left-answer : (w : World X) → is_some w.out ≡ true → letters_left flow (after_answer flow w) < letters_left flow w
  left-answer w some = left-applied w.out w refl some

  -- a legal letter leaves fewer
  pub left-letter : (link : LinkCase) (letter : Letter) (w : World X) → is_legal flow w letter ≡ true
      → letters_left flow (after_letter flow (from_link flow link) w letter) < letters_left flow w
  left-letter link A w may =
      left-ack (ack_after link w.windows (track_of flow w).env.cwnd) w (ltb-true (length w.acks) flow.acks may)
  left-letter link T w may = left-take w may
  left-letter link C w may = left-answer w may
