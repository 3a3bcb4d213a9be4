use Rattle.std.proofs.Common.{◌≡◌, ◌∙◌, true, Some, List, ℕ, ap, is_some, refl, rules, sym, subst, map, string_bytes, true≢false}
use Rattle.std.proofs.lemmas.Option.{same_Some}
use Rattle.ccp_words.specs.declared.words.Asked.{Asked}
use Rattle.ccp_words.specs.Words.{are_accepted, asked_in}
use Rattle.run_ending.specs.Streams.{StreamChange, stream_change}
use Rattle.ccp_run.specs.Complete.{AnswersOrRefuses}
use Rattle.ccp_run.specs.Modes.{task_of}
use Rattle.ccp_run.specs.Run.{IsRun}
use Rattle.ccp_run.proofs.CompleteRuns.{complete}
use Rattle.ccp_run.proofs.RunLemmas.{never_words_refused, wants_at_once}
use Rattle.ccp_run.proofs.tool.run.Goals as goal

-- the words are accepted, and the run is one of the mode that they ask for
pub returns-in-Ok : goal.returns-in-Ok
returns-in-Ok g c =
    let source : StreamChange = stream_change g.S.Source.remaining g.S.Source.faults c.args.source.now c.run_asked.new.source in
    let sink : StreamChange = stream_change g.K.Sink.written g.K.Sink.faults c.args.sink.now c.run_asked.new.sink in
    let errors : StreamChange = stream_change g.E.Sink.written g.E.Sink.faults c.args.errors.now c.run_asked.new.errors in
    let run : IsRun (task_of c.in-Ok.asked) source sink errors (g.K.Sink.is_finished c.run_asked.new.sink) c.run_asked.result = c.run_asked.ensures in
    let given : List (List ℕ) = map string_bytes c.args.words.items in
    let words : c.deref.result.now ≡ c.args.words.items = search rules in
    let accepted : are_accepted given ≡ true = sym (ap (λ xs. are_accepted (map string_bytes xs)) words) ∙ c.in-Ok.ensures.accepted in
    let found : asked_in given ≡ Some c.in-Ok.asked = sym (ap (λ xs. asked_in (map string_bytes xs)) words) ∙ c.in-Ok.ensures.asked in
    record {
      words = λ _. ((λ refused. absurd (never_words_refused (task_of c.in-Ok.asked) source sink errors (g.K.Sink.is_finished c.run_asked.new.sink) c.run_asked.result run refused)), (λ not. absurd (true≢false (sym accepted ∙ not))));
      unasked = λ not. absurd (true≢false (sym accepted ∙ not));
      asks = λ _ _. ap is_some found;
      asked = λ asked _ is.
          subst (λ (a : Asked). IsRun (task_of a) source sink errors (g.K.Sink.is_finished c.run_asked.new.sink) c.run_asked.result)
          (same_Some c.in-Ok.asked asked (sym found ∙ is)) run;
      complete = λ asked _ is.
          subst (λ (a : Asked). AnswersOrRefuses (task_of a) source sink c.run_asked.result) (same_Some c.in-Ok.asked asked (sym found ∙ is))
          (complete (task_of c.in-Ok.asked) source sink errors (g.K.Sink.is_finished c.run_asked.new.sink) c.run_asked.result run);
    }

-- memory was wanted for the words
pub returns : goal.returns
returns g c =
    let source : StreamChange = stream_change g.S.Source.remaining g.S.Source.faults c.args.source.now c.args.source.now in
    let sink : StreamChange = stream_change g.K.Sink.written g.K.Sink.faults c.args.sink.now c.args.sink.now in
    let errors : StreamChange = stream_change g.E.Sink.written g.E.Sink.faults c.args.errors.now c.end_without-in-Err-NoMemory.new.errors in
    let ends = c.end_without-in-Err-NoMemory.ensures in
    let run : (asked : Asked) → IsRun (task_of asked) source sink errors (g.K.Sink.is_finished c.args.sink.now) c.end_without-in-Err-NoMemory.result =
    λ asked. wants_at_once (task_of asked) source sink errors (g.K.Sink.is_finished c.args.sink.now) c.end_without-in-Err-NoMemory.result (record { bytes = refl; faults = refl }) refl ends in
    record {
      words = λ not6. absurd (not6 ends.status);
      unasked = λ _. record { unread = record { bytes = refl; faults = refl }; unwritten = record { bytes = refl; faults = refl }; told = λ not6. absurd (not6 ends.status); told_memory = λ _. ends };
      asks = λ _ not6. absurd (not6 ends.status);
      asked = λ asked _ _. run asked;
      complete = λ asked _ _.
          complete (task_of asked) source sink errors (g.K.Sink.is_finished c.args.sink.now) c.end_without-in-Err-NoMemory.result (run asked);
    }
