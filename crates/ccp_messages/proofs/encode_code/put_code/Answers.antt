use Rattle.std.proofs.Common.{ℕ, List, arith, subst}
use Rattle.reply_frames.specs.Writing.{Wrote}
use Rattle.reply_frames.proofs.Placing.{wrote-then}
use Rattle.ccp_messages.specs.CodeParts.{starts_bytes, events_bytes, instrs_bytes}
use Rattle.ccp_messages.proofs.Encoding.{code-bytes}
use Rattle.ccp_messages.proofs.encode_code.put_code.Goals as goal

pub returns-clause-wrote : goal.returns-clause-wrote
returns-clause-wrote c =
    let reports = subst (λ xs. Wrote c.put32-end.result (starts_bytes xs) c.put32-end.new.out c.put_starts-end.new.out c.put_starts-end.result) c.reports.ensures c.put_starts-end.ensures.wrote in
    let controls = subst (λ xs. Wrote c.put_starts-end.result (starts_bytes xs) c.put_starts-end.new.out c.put_starts-end-2.new.out c.put_starts-end-2.result) c.controls.ensures c.put_starts-end-2.ensures.wrote in
    let events = subst (λ xs. Wrote c.put_starts-end-2.result (events_bytes xs) c.put_starts-end-2.new.out c.put_events-end.new.out c.put_events-end.result) c.events.ensures c.put_events-end.ensures.wrote in
    let instrs = subst (λ xs. Wrote c.put_events-end.result (instrs_bytes xs) c.put_events-end.new.out c.put_instrs.new.out c.put_instrs.result) c.instrs.ensures c.put_instrs.ensures.wrote in
    subst (λ (text : List ℕ). Wrote c.args.at text c.args.out.now c.put_instrs.new.out c.put_instrs.result) (code-bytes c.args.program c.args.code.now)
    (wrote-then (wrote-then (wrote-then (wrote-then c.put32-end.ensures reports (omega arith)) controls (omega arith)) events (omega arith)) instrs (omega arith))
